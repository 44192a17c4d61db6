use Rattle.scop_syntax.proofs.Common.{◌+◌}
use Rattle.loop_tree.specs.View.{nodes_of}
use Rattle.loop_tree.proofs.Weights.{weight_all}
use Rattle.loop_tree.proofs.bookmark.+putting.Given as goal

abbrev pub decreases-put_lasts : goal.decreases-put_lasts
decreases-put_lasts l = weight_all (nodes_of l.nodes.now) + 1

abbrev pub decreases-put_at : goal.decreases-put_at
decreases-put_at l = weight_all (nodes_of l.nodes.now)
