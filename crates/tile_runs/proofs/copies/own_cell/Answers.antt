use Rattle.scop_syntax.proofs.Common.{◌∙◌, ap, arith, ℤ, List, value_of, wrapped}
use Rattle.tile_runs.proofs.copies.own_cell.Goals as goal

pub cell_at-requires : goal.cell_at-requires
cell_at-requires c = let some = c.row.ensures.tells.accesses in omega (arith, some)

pub returns : goal.returns
returns c =
    c.row.ensures.tells.written c.cell_at.result
    (λ form at. c.cell_at.ensures form at ∙ ap (λ (ts : List ℤ). wrapped (value_of form ts)) c.turns.ensures)
