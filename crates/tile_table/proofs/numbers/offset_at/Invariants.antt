use Rattle.scop_syntax.proofs.Common.{drop, pos, values}
use Rattle.tile_table.specs.Numbers.{row_major}
use Rattle.tile_table.specs.steps.Same.{IsSame}
use Rattle.tile_table.proofs.numbers.offset_at.Given as goal

abbrev pub invariant-loop-at : goal.invariant-loop-at
invariant-loop-at l = IsSame (row_major l.offset (drop l.at l.extents) (drop l.at (values l.subscripts l.point)))
    (row_major (pos 0) l.extents (values l.subscripts l.point))
