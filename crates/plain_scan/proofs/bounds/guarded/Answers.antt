use Rattle.scop_syntax.proofs.Common.{rules, ◌≡◌, ◌∙◌, ◌<◌, ◌∷◌, [], length, map, ap, sym, length-map}
use Rattle.loop_tree.specs.Tree.{guard, instance, more, none}
use Rattle.loop_tree.specs.View.{test_of, nodes_of}
use Rattle.loop_tree.proofs.Views.{tree_guard, tree_instance}
use Rattle.loop_tree.specs.declared.tree.Node.TheVariants.{Instance}
use Rattle.plain_scan.proofs.CodeBounds.{under_none, under_some}
use Rattle.plain_scan.proofs.bounds.guarded.Goals as goal

pub returns : goal.returns
returns c =
    let leaf = c.args.leaf in
    let tests = map test_of c.args.tests.items in
    let t = instance leaf.statement leaf.turns.items in
    let pushed : c.push.new.self.items ≡ Instance leaf ∷ [] = search rules in
    let body : nodes_of c.push.new.self.items ≡ more t none =
    ap nodes_of pushed ∙ ap (λ x. more x none) (tree_instance leaf) in
    let mapped = length-map c.args.tests.items test_of in
    let some : 0 < length tests = search rules in
    tree_guard (record { tests = c.args.tests }) c.push.new.self ∙ ap (guard tests) body ∙ sym (under_some tests t some)

pub returns-then-len-eq0 : goal.returns-then-len-eq0
returns-then-len-eq0 c =
    let leaf = c.args.leaf in
    let tests = map test_of c.args.tests.items in
    let mapped = length-map c.args.tests.items test_of in
    let none : length tests ≡ 0 = search rules in
    tree_instance leaf ∙ sym (under_none tests (instance leaf.statement leaf.turns.items) none)
