use Rattle.scop_units.specs.View.{stored_of}
use Rattle.scop_units.proofs.Parts.{count_clean_left, count_clean_right}
use Rattle.scop_units.proofs.units.right_of.Goals as goal

pub count-requires : goal.count-requires
count-requires c = count_clean_left c.args.entries (stored_of c.args.stored.now) c.requires c.in-ShiftLeft.is

pub count-requires-in-ShiftRight : goal.count-requires-in-ShiftRight
count-requires-in-ShiftRight c =
    count_clean_right c.args.entries (stored_of c.args.stored.now) c.requires c.in-ShiftRight.is
