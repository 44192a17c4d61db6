use Rattle.scop_syntax.proofs.Common.{◌≡◌, ◌++◌}
use Rattle.expansions.specs.steps.Marks.{firsts, read_marks}
use Rattle.expansions.proofs.marking.put_marks.Given as goal

abbrev pub invariant-loop-read : goal.invariant-loop-read
invariant-loop-read l = l.numbers.items ≡ l.fn.numbers.items ++ firsts (read_marks l.marks l.row l.turns) l.read
