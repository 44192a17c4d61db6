use Rattle.scop_syntax.proofs.Common.{◌≡◌, ◌∙◌, ap₂, map, subst, sym, IfOk}
use Rattle.loop_tree.specs.Tree.{instance}
use Rattle.loop_tree.specs.View.{test_of, tree_of}
use Rattle.plain_scan.specs.Hulls.{leaf_tree}
use Rattle.plain_scan.specs.Sets.{under}
use Rattle.plain_scan.proofs.CodeBounds.{tests_are}
use Rattle.plain_scan.proofs.bounds.leaf.Goals as goal

pub returns : goal.returns
returns c =
    let s = c.args.set.now in
    let tests = c.in_ok-tests.ensures ∙ sym (tests_are s.system.equalities s.system.rows) in
    let is : under (map test_of c.in_ok-tests.tests.items) (instance c.statement.result c.in_ok-turns.turns.items)
    ≡ leaf_tree s = ap₂ under tests (ap₂ instance c.statement.ensures c.in_ok-turns.ensures) in
    subst (λ t. IfOk c.guarded.result (λ n. tree_of n ≡ t)) is c.guarded.ensures
