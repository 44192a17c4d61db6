use Rattle.scop_syntax.proofs.Common.{◌∙◌}
use Rattle.loop_tree.specs.View.{trees_in}
use Rattle.tile_list.proofs.cutting.cut_rest.Goals as goal

pub take_all-requires-clause-scout : goal.take_all-requires-clause-scout
take_all-requires-clause-scout c = c.in_ok-scout.ensures ∙ c.requires.come.spot_is.room

pub take_all-requires-clause-cut : goal.take_all-requires-clause-cut
take_all-requires-clause-cut c =
    c.in_ok-cut.ensures.cut_is (trees_in c.args.tree.now) c.args.params.now c.requires.come c.requires.first
