use Rattle.scop_roles.specs.Formula.{formula_of}
use Rattle.scop_units.proofs.Parts.{cell_by}
use Rattle.scop_units.proofs.units.cell_fault.Goals as goal

pub returns : goal.returns
returns c =
    cell_by c.args.entries (formula_of c.args.cell.now) c.place-at.result c.own_cell.result c.own_rank.result
    c.in_ok-parts.parts c.told-rank.result c.told-name.result c.or_fault.result c.first_of.result c.place-at.ensures
    c.in_ok-parts.ensures c.own_rank.ensures c.told-rank.ensures c.own_cell.ensures c.told-name.ensures
    c.or_fault.ensures c.first_of.ensures
