use Rattle.scop_units.specs.View.{stored_of}
use Rattle.scop_units.proofs.Parts.{statement_by}
use Rattle.scop_units.proofs.units.statement_fault.Goals as goal

pub returns : goal.returns
returns c =
    statement_by c.args.entries c.args.comparisons c.args.before (stored_of c.args.stored.now) c.place-at.result
    c.in_ok-parts.parts c.in_ok-reads.reads c.told_where-deep.result c.told_where-many.result c.first_of.result
    c.first_of-2.result c.first_of-3.result c.place-at.ensures c.in_ok-parts.ensures c.in_ok-reads.ensures
    c.told_where-deep.ensures c.told_where-many.ensures c.first_of.ensures c.first_of-2.ensures
    c.first_of-3.ensures
