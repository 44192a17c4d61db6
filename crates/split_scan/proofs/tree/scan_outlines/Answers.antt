use Rattle.scop_syntax.proofs.Common.{◌≡◌, zero, ◌+◌, ◌<◌, [], length, sym, subst, All, arith}
use Rattle.loop_tree.specs.View.{nodes_of}
use Rattle.plain_scan.specs.Hulls.{sets_in}
use Rattle.plain_scan.specs.steps.Nodes.{IsNode}
use Rattle.plain_scan.specs.Sets.{IsShaped, NumbersRise}
use Rattle.split_scan.proofs.tree.scan_outlines.Goals as goal

pub nodes-requires-clause-some : goal.nodes-requires-clause-some
nodes-requires-clause-some c = subst (λ os. 0 < length os) (sym c.deref.ensures.value) c.args.all.now.some

pub nodes-requires-clause-few : goal.nodes-requires-clause-few
nodes-requires-clause-few c = let few = c.args.all.now.few in omega (arith, few)

pub nodes-requires-clause-sets : goal.nodes-requires-clause-sets
nodes-requires-clause-sets c =
    let all = c.args.all.now in
    let same : all.dimensions ≡ 0 + all.dimensions = omega arith in
    subst (λ n. All (IsShaped n all.parameters) (sets_in c.deref.result.now)) same
    (subst (λ os. All (IsShaped all.dimensions all.parameters) (sets_in os)) (sym c.deref.ensures.value) all.sets)

pub nodes-requires-clause-rise : goal.nodes-requires-clause-rise
nodes-requires-clause-rise c = subst (λ os. NumbersRise (sets_in os)) (sym c.deref.ensures.value) c.requires

pub nodes-requires-clause-natural : goal.nodes-requires-clause-natural
nodes-requires-clause-natural c t params point range size hold k d inside = absurd (omega (arith, size, inside))

pub returns : goal.returns
returns c =
    let all = c.args.all.now in
    let p = all.parameters in
    let ts = nodes_of c.in_ok-nodes.nodes.items in
    let same : 0 + p ≡ p = omega arith in
    subst (λ n. IsNode all.dimensions zero n all.parallel (sets_in all.outlines.items) [] ts) same
    (subst (λ os. IsNode all.dimensions zero (0 + p) all.parallel (sets_in os) [] ts) c.deref.ensures.value
    c.in_ok-nodes.ensures)
