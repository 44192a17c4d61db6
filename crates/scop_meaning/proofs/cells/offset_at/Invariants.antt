use Rattle.scop_syntax.proofs.Common.{values}
use Rattle.scop_meaning.proofs.Offsets.{OffsetSoFar}
use Rattle.scop_meaning.proofs.cells.offset_at.Given as goal

abbrev pub invariant-loop-at : goal.invariant-loop-at
invariant-loop-at l = OffsetSoFar l.extents (values l.subscripts l.point) l.at l.offset
