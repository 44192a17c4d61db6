use Rattle.scop_units.specs.View.{stored_of}
use Rattle.scop_units.proofs.Parts.{cell_clean}
use Rattle.scop_units.proofs.units.statement_of.Goals as goal

pub access-requires : goal.access-requires
access-requires c = cell_clean c.args.entries (stored_of c.args.stored.now) c.requires
