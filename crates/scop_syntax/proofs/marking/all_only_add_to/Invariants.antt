use Rattle.whole_numbers.proofs.Common.{◌≡◌, drop}
use Rattle.scop_syntax.specs.Reductions.{all_add}
use Rattle.scop_syntax.specs.StandingView.{bodies_of}
use Rattle.scop_syntax.proofs.marking.all_only_add_to.Given as goal

abbrev pub invariant-loop-statement : goal.invariant-loop-statement
invariant-loop-statement l =
    all_add l.array (bodies_of (drop l.statement-index l.statements)) ≡ all_add l.array (bodies_of l.statements)
