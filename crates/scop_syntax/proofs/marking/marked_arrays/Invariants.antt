use Rattle.whole_numbers.proofs.Common.{◌≡◌, ◌++◌, drop}
use Rattle.scop_syntax.specs.Reductions.{marks_from}
use Rattle.scop_syntax.specs.StandingView.{bodies_of}
use Rattle.scop_syntax.proofs.marking.marked_arrays.Given as goal

abbrev pub invariant-loop-number : goal.invariant-loop-number
invariant-loop-number l =
    l.marked.items ++ marks_from (bodies_of l.statements.items) l.number (drop l.number l.array-items)
    ≡ marks_from (bodies_of l.statements.items) 0 l.array-items
