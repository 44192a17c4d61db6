use Rattle.scop_syntax.proofs.Common.{◌+◌, items_of, tree_of, weight, weight_all}
use Rattle.scop_meaning.proofs.instances.+finding.Given as goal

abbrev pub decreases-find_among : goal.decreases-find_among
decreases-find_among l = weight_all (items_of l.items.now) + 1

abbrev pub decreases-find_in : goal.decreases-find_in
decreases-find_in l = weight (tree_of l.item.now)
