use Rattle.whole_numbers.proofs.Common.{◌≡◌, drop}
use Rattle.scop_syntax.specs.Reductions.{is_marked}
use Rattle.scop_syntax.proofs.marks.is_marked.Given as goal

abbrev pub invariant-loop-mark : goal.invariant-loop-mark
invariant-loop-mark l = is_marked (drop l.mark-index l.marked) l.array ≡ is_marked l.marked l.array
