use Rattle.scop_arithmetic.proofs.Loops.{loop_parts, first_turn, next_turn, turn_holds, changed_name}
use Rattle.scop_arithmetic.proofs.Iterators.{own_meaning, kept_meaning}
use Rattle.scop_arithmetic.proofs.laws.loops_count_as_they_say.Goals as goal

pub returns-clause-iterator : goal.returns-clause-iterator
returns-clause-iterator c s h w e = own_meaning s h.new h.iterator w (loop_parts s h e).iterator

pub returns-clause-others : goal.returns-clause-others
returns-clause-others c s h w other = kept_meaning s h.iterator w other

pub returns-clause-changed : goal.returns-clause-changed
returns-clause-changed c s h e = changed_name s h (loop_parts s h e)

pub returns-clause-first : goal.returns-clause-first
returns-clause-first c s h p long e = first_turn s h p long (loop_parts s h e)

pub returns-clause-next : goal.returns-clause-next
returns-clause-next c s h p x long e = next_turn s h p x long (loop_parts s h e)

pub returns-clause-condition : goal.returns-clause-condition
returns-clause-condition c s h p x long e = turn_holds s h p x long (loop_parts s h e)
