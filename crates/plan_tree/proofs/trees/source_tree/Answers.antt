use Rattle.scop_syntax.proofs.Common.{program_of}
use Rattle.loop_tree.specs.View.{trees_in}
use Rattle.plan_tree.proofs.KeptOrder.{kept_trees}
use Rattle.plan_tree.proofs.trees.source_tree.Goals as goal

pub returns-clause-trees : goal.returns-clause-trees
returns-clause-trees c marked =
    let program = program_of c.args.kernel.now in
    let made = c.in_ok-tree.ensures in
    kept_trees program marked (trees_in c.in_ok-tree.tree) c.requires (c.kept_orders_are_good_plans.ensures program)
    (record {
      tree = made.tree;
      visits_are = made.visits;
      walked = made.walk;
      flat = made.flat;
      serial = made.serial;
      over = made.over;
      instances = made.instances;
      small = made.small;
    })
