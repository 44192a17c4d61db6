use Rattle.scop_syntax.proofs.Common.{◌≡◌, ◌∙◌, ℤ, pos, List, [], ◌∷◌, arith, refl, subst, sym, to_z, of_z, ◌-ℤ◌}
use Rattle.scop_syntax.proofs.Common.{w128, ints, to_z-of_z, IfSome_then}
use Rattle.loop_tree.specs.steps.Chain.{values_in}
use Rattle.loop_tree.specs.Conditions.{CanWalk}
use Rattle.loop_tree.specs.View.{nodes_of}
use Rattle.loop_tree.proofs.Chains.{values_at}
use Rattle.loop_tree.proofs.FreeCounts.{shown_count}
use Rattle.loop_tree.proofs.counting.count_before.Goals as goal

pub count_nodes-requires-clause-walk : goal.count_nodes-requires-clause-walk
count_nodes-requires-clause-walk c =
    let first = c.args.first in
    let v = to_z w128 (of_z w128 first) in
    let first_is = to_z-of_z w128 first c.ranges.first in
    let last_is = to_z-of_z w128 c.args.last c.ranges.last in
    let way = c.in-Some.ensures in
    subst (λ (os : List ℤ). CanWalk (nodes_of c.args.body.now) c.args.params.now os)
    (sym (values_at c.args.outer first v first_is))
    (c.requires first (omega (arith, ints)) (omega (arith, ints, way, first_is, last_is)))

pub count_nodes-requires-clause-within : goal.count_nodes-requires-clause-within
count_nodes-requires-clause-within c =
    let first = c.args.first in
    let v = to_z w128 (of_z w128 first) in
    record {
      inner = first ∷ [];
      count = refl;
      all = values_at c.args.outer first v (to_z-of_z w128 first c.ranges.first);
    }

pub returns-in-Some-count_nodes : goal.returns-in-Some-count_nodes
returns-in-Some-count_nodes c =
    let first = c.args.first in
    let last = c.args.last in
    let first_is = to_z-of_z w128 first c.ranges.first in
    let last_is = to_z-of_z w128 last c.ranges.last in
    let far = c.in-Some.ensures in
    let way : pos c.in-Some.way ≡ last -ℤ first = omega (arith, ints, far, first_is, last_is) in
    IfSome_then c.product.result c.product.ensures
    (λ n is. (
      c.in-Some.way,
      way,
      shown_count (nodes_of c.args.body.now) c.in-Some-count_nodes.count c.in-Some.way (values_in c.args.outer.now)
          c.args.params.now first c.in-Some-count_nodes.ensures ∙ sym is,
    ))
