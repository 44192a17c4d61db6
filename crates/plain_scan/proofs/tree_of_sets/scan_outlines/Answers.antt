use Rattle.scop_syntax.proofs.Common.{◌≡◌, zero, suc, ◌+◌, ◌-◌, ◌<◌, ◌^◌, ◌∙◌, refl, sym, subst, arith, [], get_or, All, map}
use Rattle.integer_sets.specs.Constraints.{variables_in}
use Rattle.loop_tree.specs.View.{nodes_of}
use Rattle.plain_scan.specs.Hulls.{IsAlike, IsHull, own_leaf, sets_in}
use Rattle.plain_scan.specs.steps.Nodes.{IsNode}
use Rattle.plain_scan.specs.Sets.{IsShaped, leaves}
use Rattle.plain_scan.proofs.HullLoops.{alike_of}
use Rattle.plain_scan.proofs.HullNodes.{dimensions_are, few_variables, next_node, node_end, over_outlines}
use Rattle.plain_scan.proofs.tree_of_sets.scan_outlines.Goals as goal

pub leaves-requires : goal.leaves-requires
leaves-requires c =
    let all = c.args.all.now in
    let n = all.dimensions in
    let p = all.parameters in
    let few = all.few in
    let same : n ≡ 0 + n = omega arith in
    subst (All (λ o. variables_in o.set.now.system < 2 ^ 32)) (sym c.deref.ensures.value)
    (few_variables 0 n p all.outlines.items (subst (λ m. All (IsShaped m p) (sets_in all.outlines.items)) same all.sets)
    (omega (arith, few)))

pub loop-depth-init : goal.loop-depth-init
loop-depth-init c =
    let all = c.args.all.now in
    let n = all.dimensions in
    let p = all.parameters in
    let os = all.outlines.items in
    let ts = nodes_of c.in_ok-nodes.nodes.items in
    let more : n ≡ n + 0 = omega arith in
    let none : n ≡ n - 0 = omega arith in
    subst (λ m. IsNode 0 m (m + p) all.parallel (sets_in os) [] ts) none
    (node_end 0 n p all.parallel os [] ts refl (subst (λ m. All (IsShaped m p) (sets_in os)) more all.sets) c.requires
    (subst (λ qs. ts ≡ leaves (map own_leaf (sets_in qs))) c.deref.ensures.value c.in_ok-nodes.ensures))

pub hull-requires-clause-alike : goal.hull-requires-clause-alike
hull-requires-clause-alike c =
    let all = c.args.all.now in
    let n = all.dimensions in
    let p = all.parameters in
    let os = all.outlines.items in
    let depth = c.loop-depth.depth in
    subst (All (IsAlike depth (n - 1 - depth + 1 + p))) (sym c.deref-in-loop-depth.ensures.value) (λ k o inside.
    let s = over_outlines (IsShaped n p) os all.sets k o inside in
    alike_of depth (n - 1 - depth) p n (get_or os k o) s.dimensions s.parameters c.loop-depth-test.true refl)

pub hull-requires-clause-place : goal.hull-requires-clause-place
hull-requires-clause-place c =
    let all = c.args.all.now in
    let n = all.dimensions in
    let depth = c.loop-depth.depth in
    let at : n ≡ n - 1 - depth + suc depth = omega (arith, c.loop-depth-test.true) in
    subst (All (λ o. o.set.now.system.dimensions ≡ n - 1 - depth + suc depth)) (sym c.deref-in-loop-depth.ensures.value)
    (λ k o inside. dimensions_are n all.parameters all.outlines.items all.sets k o inside ∙ at)

pub loop-depth-preserved : goal.loop-depth-preserved
loop-depth-preserved c =
    let all = c.args.all.now in
    let n = all.dimensions in
    let p = all.parameters in
    let os = all.outlines.items in
    let depth = c.loop-depth.depth in
    let place = n - 1 - depth in
    let fs = c.in_ok-rows.rows.items in
    let h = subst (λ qs. IsHull depth place (place + 1 + p) qs fs) c.deref-in-loop-depth.ensures.value
    c.in_ok-rows.ensures in
    next_node depth place n p all.parallel os fs c.deref-in-loop-depth-2.result.now h
    c.deref-in-loop-depth-2.ensures.value c.loop-depth-test.true refl (dimensions_are n p os all.sets) c.eq.result
    (nodes_of c.loop-depth.nodes.items) (nodes_of c.in_ok-nodes-2.nodes.items) c.eq.ensures c.loop-depth.invariant
    c.in_ok-nodes-2.ensures

pub returns : goal.returns
returns c =
    let all = c.args.all.now in
    let sets = sets_in all.outlines.items in
    let ts = nodes_of c.loop-depth.nodes.items in
    let depth = c.loop-depth.depth in
    let p = all.parameters in
    let n : depth ≡ all.dimensions = omega arith in
    let z : all.dimensions - depth ≡ zero = omega arith in
    let q : all.dimensions - depth + p ≡ p = omega arith in
    subst (λ k. IsNode k zero p all.parallel sets [] ts) n (subst (λ m. IsNode depth m p all.parallel sets [] ts) z
    (subst (λ m. IsNode depth (all.dimensions - depth) m all.parallel sets [] ts) q c.loop-depth.invariant))
