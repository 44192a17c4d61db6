-- The trees that the code's values stand for, at each kind.
use Rattle.scop_syntax.proofs.Common.{◌≡◌, Vec, Global, map, ap, sym, ◌∙◌}
use Rattle.loop_tree.specs.Tree.{Tree, loop, guard, instance}
use Rattle.loop_tree.specs.declared.tree.Node.{Node}
use Rattle.loop_tree.specs.declared.tree.Node.TheVariants.{Loop, Guard, Instance, rolls-Loop, rolls-Guard}
use Rattle.loop_tree.specs.declared.tree.Node.TheVariants.{rolls-Instance}
use Rattle.loop_tree.specs.declared.tree.Node.TheFolds.{fold-roll-Node}
use Rattle.loop_tree.specs.declared.tree.Node.TheOpen.{Node-F}
use Rattle.loop_tree.specs.declared.tree.Loop.{Loop as Head}
use Rattle.loop_tree.specs.declared.tree.Guard.{Guard as Tests}
use Rattle.loop_tree.specs.declared.tree.Leaf.{Leaf}
use Rattle.loop_tree.specs.View.{bounds_in, test_of, tree_step, tree_of, nodes_of}

pub tree_loop : (l : Head) (body : Vec Node Global)
    → tree_of (Loop l body) ≡ loop l.parallel (bounds_in l.lower) (bounds_in l.upper) (nodes_of body.items)
tree_loop l body = ap tree_of (sym (rolls-Loop l body)) ∙ fold-roll-Node Tree tree_step (Node-F.Loop l body)

pub tree_guard : (g : Tests) (body : Vec Node Global)
    → tree_of (Guard g body) ≡ guard (map test_of g.tests.items) (nodes_of body.items)
tree_guard g body = ap tree_of (sym (rolls-Guard g body)) ∙ fold-roll-Node Tree tree_step (Node-F.Guard g body)

pub tree_instance : (leaf : Leaf) → tree_of (Instance leaf) ≡ instance leaf.statement leaf.turns.items
tree_instance leaf = ap tree_of (sym (rolls-Instance leaf)) ∙ fold-roll-Node Tree tree_step (Node-F.Instance leaf)
