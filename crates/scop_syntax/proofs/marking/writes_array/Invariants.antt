use Rattle.whole_numbers.proofs.Common.{◌≡◌, drop}
use Rattle.scop_syntax.specs.Reductions.{is_written}
use Rattle.scop_syntax.specs.StandingView.{bodies_of}
use Rattle.scop_syntax.proofs.marking.writes_array.Given as goal

abbrev pub invariant-loop-statement : goal.invariant-loop-statement
invariant-loop-statement l =
    is_written l.array (bodies_of (drop l.statement-index l.statements)) ≡ is_written l.array (bodies_of l.statements)
