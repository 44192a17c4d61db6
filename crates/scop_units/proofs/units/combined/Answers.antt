use Rattle.scop_units.specs.View.{stored_of}
use Rattle.scop_units.proofs.Parts.{value_clean}
use Rattle.scop_units.proofs.units.combined.Goals as goal

pub expression-requires : goal.expression-requires
expression-requires c = value_clean c.args.entries (stored_of c.args.stored.now) c.requires
