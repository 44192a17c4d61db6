use Rattle.scop_syntax.proofs.Common.{ap}
use Rattle.loop_tree.specs.TilingView.{item_of}
use Rattle.tile_skew.proofs.sets.push_item.Goals as goal

pub row_form-requires : goal.row_form-requires
row_form-requires c = c.requires.small c.in-Row.form (ap item_of c.in-Row.is)
