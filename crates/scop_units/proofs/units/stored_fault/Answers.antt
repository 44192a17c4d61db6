use Rattle.scop_units.specs.View.{stored_of}
use Rattle.scop_units.proofs.Parts.{stored_by}
use Rattle.scop_units.proofs.units.stored_fault.Goals as goal

pub returns : goal.returns
returns c =
    stored_by c.args.entries (stored_of c.args.stored.now) c.is_narrow_cell-narrow.result c.own_assign.result
    c.in_ok-cell.cell c.in_ok-value.value c.told-own.result c.first_of.result c.or_fault.result c.in_ok-cell.ensures
    c.in_ok-value.ensures c.is_narrow_cell-narrow.ensures c.own_assign.ensures c.told-own.ensures c.first_of.ensures
    c.or_fault.ensures
