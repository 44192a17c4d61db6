use Rattle.scop_syntax.proofs.Common.{List, [], subst, IfSome_then, In, instance_of, in_back}
use Rattle.loop_tree.specs.Braids.{left_of_braid}
use Rattle.loop_tree.specs.Spot.{rest_of}
use Rattle.loop_tree.specs.SpotView.{marks_of}
use Rattle.loop_tree.specs.Stretches.{left_of}
use Rattle.loop_tree.specs.View.{nodes_of}
use Rattle.loop_tree.specs.declared.spot.Mark.{Mark}
use Rattle.loop_tree.specs.declared.tree.Node.{Node}
use Rattle.loop_tree.proofs.spot.Spot.last_within.Goals as goal

pub returns : goal.returns
returns c =
    let spot = c.args.self.now in
    let nodes = c.args.tree.now.nodes.items in
    let params = c.args.params.now in
    let rest = rest_of (nodes_of nodes) (marks_of spot.marks.items) params [] in
    IfSome_then c.last_nodes.result c.last_nodes.ensures
    (λ i h.
    let x = instance_of i in
    in_back x (left_of spot.stretch) _ (in_back x (left_of_braid spot.braid) rest
    (subst (λ (ns : List Node). In x (rest_of (nodes_of ns) (marks_of spot.marks.items) params []))
    c.as_slice.ensures.value
    (subst (λ (ms : List Mark). In x (rest_of (nodes_of c.as_slice.result.now) (marks_of ms) params []))
    c.as_slice-2.ensures.value h))))
