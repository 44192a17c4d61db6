use Rattle.scop_syntax.proofs.Common.{rules, ◌≡◌, ◌≤◌, ◌<◌, ◌++◌, ◌∷◌, [], List, ℤ, All, length, get_or, drop, map}
use Rattle.scop_syntax.proofs.Common.{take, pos, to_z, of_z, arith, sym, subst, ◌+ℤ◌, FitsSigned, w128, ints, to_z-of_z}
use Rattle.scop_syntax.proofs.Common.{Instance}
use Rattle.loop_tree.specs.steps.Chain.{values_in}
use Rattle.loop_tree.specs.Stretches.{left_of}
use Rattle.loop_tree.specs.Conditions.{IsHeld}
use Rattle.loop_tree.specs.View.{nodes_of}
use Rattle.loop_tree.proofs.Braids.{braid_is, shown_held, strands_of}
use Rattle.loop_tree.proofs.VisitPlaces.{can_node}
use Rattle.loop_tree.proofs.passing.braid_behind.Goals as goal

pub strand_behind-requires : goal.strand_behind-requires
strand_behind-requires c =
    let nodes = c.args.nodes.now in
    let value = c.args.value in
    let fits : FitsSigned w128 value = search rules in
    let v = to_z w128 (of_z w128 value) in
    let v_is : v ≡ value = to_z-of_z w128 value fits in
    let node = c.node-item.result in
    let found : node ≡ get_or nodes c.loop-node.node-index node = c.node-item.is in
    let h : c.loop-node.node-index < length nodes = search arith in
    can_node nodes c.loop-node.node-index node c.args.params.now (values_in c.args.outer.now ++ v ∷ []) found h
    (c.requires.walk v (omega (arith, ints, v_is)) (omega (arith, ints, v_is)))

pub returns-clause-rest : goal.returns-clause-rest
returns-clause-rest c =
    let nodes = c.args.nodes.now in
    let end : length nodes ≤ c.loop-node.node-index = search arith in
    let l = c.loop-node in
    let params = c.args.params.now in
    let outer = values_in c.args.outer.now in
    let left = c.args.left in
    let value = c.args.value in
    let fits : FitsSigned w128 value = search rules in
    braid_is l.strands l.count l.node-index nodes params outer (value +ℤ pos 1) left end l.invariant.3
    (subst (λ (x : ℤ). map left_of (take l.count l.strands)
    ++ strands_of (nodes_of (drop l.node-index nodes)) params outer (x +ℤ pos 1) left
    ≡ strands_of (nodes_of nodes) params outer (x +ℤ pos 1) left) (to_z-of_z w128 value fits) l.invariant.2)

pub returns-clause-braid : goal.returns-clause-braid
returns-clause-braid c =
    let nodes = c.args.nodes.now in
    let end : length nodes ≤ c.loop-node.node-index = search arith in
    let index : c.loop-node.node-index ≤ length nodes = search arith in
    let l = c.loop-node in
    let params = c.args.params.now in
    let outer = values_in c.args.outer.now in
    let left = c.args.left in
    let value = c.args.value in
    let fits : FitsSigned w128 value = search rules in
    let is = braid_is l.strands l.count l.node-index nodes params outer (value +ℤ pos 1) left end l.invariant.3
    (subst (λ (x : ℤ). map left_of (take l.count l.strands)
    ++ strands_of (nodes_of (drop l.node-index nodes)) params outer (x +ℤ pos 1) left
    ≡ strands_of (nodes_of nodes) params outer (x +ℤ pos 1) left) (to_z-of_z w128 value fits) l.invariant.2) in
    let count = l.invariant.0 in
    let some = c.requires.some in
    let few = c.requires.few in
    record {
      few = omega (arith, count, few, index);
      turn = omega (arith, count, some, end);
      held = subst (λ (is : List Instance). All IsHeld is) (sym is)
          (shown_held (nodes_of nodes) params outer value left c.requires.walk);
    }
