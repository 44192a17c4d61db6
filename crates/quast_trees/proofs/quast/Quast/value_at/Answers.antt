use Rattle.whole_numbers.proofs.Common.{◌≡◌, ◌<◌, Ok, length, FitsSigned, sym, ap, ◌∙◌, rules, arith, w128, ints}
use Rattle.whole_numbers.proofs.Common.{to_z-of_z}
use Rattle.affine_forms.specs.Gives.{Fails}
use Rattle.affine_forms.specs.Runs.{value_run as form_run}
use Rattle.quast_trees.specs.Postfix.{tree_of}
use Rattle.quast_trees.specs.Tree.{Speaks}
use Rattle.quast_trees.specs.Value.{bound_run}
use Rattle.quast_trees.proofs.Exact.{value_run-exact, value-from_run}
use Rattle.quast_trees.proofs.Places.{count_positive}
use Rattle.quast_trees.proofs.WrittenNodes.{length-written}
use Rattle.quast_trees.proofs.Descents.{inside, at_root, at_initial, at_forms, at_branch, at_bind}
use Rattle.quast_trees.proofs.quast.Quast.value_at.Goals as goal

pub overflow_sub-at : goal.overflow_sub-at
overflow_sub-at c =
    let e : length c.nodes-nodes.result.now ≡ _ = ap length c.nodes-nodes.ensures.nodes
    ∙ length-written (tree_of c.args.self.now) in
    omega (arith, count_positive (tree_of c.args.self.now))

pub loop-at-init : goal.loop-at-init
loop-at-init c =
    let t = tree_of c.args.self.now in
    let point : c.in-Ok.values.items ≡ c.args.point.now = search rules in
    let speaks : Speaks (length c.args.point.now) t = rw c.requires c.nodes-nodes.ensures.speaks in
    rw point (at_root t c.nodes-nodes.result.now c.args.point.now c.nodes-nodes.ensures.nodes speaks)

pub bounds-nodes-at : goal.bounds-nodes-at
bounds-nodes-at c = inside c.loop-at.invariant

pub offset_bounds-nodes-at : goal.offset_bounds-nodes-at
offset_bounds-nodes-at c =
    let h : c.loop-at.at < length c.nodes-nodes.result.now = inside c.loop-at.invariant in
    search rules

pub returns-in-Initial : goal.returns-in-Initial
returns-in-Initial c =
    let run = at_initial c.loop-at.invariant c.index-nodes-at.is c.in-Initial.is in
    record { run = run; value = value_run-exact (tree_of c.args.self.now) c.args.point.now _ run }

pub leaf_at-requires : goal.leaf_at-requires
leaf_at-requires c = rw c.deref.ensures.value
    (at_forms c.loop-at.invariant c.index-nodes-at.is c.in-Forms.is).variables

pub returns-in-Forms : goal.returns-in-Forms
returns-in-Forms c =
    let e = (at_forms c.loop-at.invariant c.index-nodes-at.is c.in-Forms.is).gives in
    let run = rw (c.deref.ensures.value, e) at c.leaf_at.ensures in
    record { run = run; value = value-from_run c.leaf_at.result (tree_of c.args.self.now) c.args.point.now run }

pub value_at-requires : goal.value_at-requires
value_at-requires c =
    let b = at_branch c.loop-at.invariant c.index-nodes-at.is c.in-Branch.is in
    ap length c.deref-in-Branch.ensures.value ∙ sym b.variables

pub returns-in-Err-value_at : goal.returns-in-Err-value_at
returns-in-Err-value_at c =
    let b = at_branch c.loop-at.invariant c.index-nodes-at.is c.in-Branch.is in
    let e : Fails c.in-Err-value_at.stop (form_run c.in-Branch.test c.deref-in-Branch.result.now) = search rules in
    record { run = b.stops c.in-Err-value_at.stop (rw c.deref-in-Branch.ensures.value at e); value = tt }

pub side_at-at-requires : goal.side_at-at-requires
side_at-at-requires c = (at_branch c.loop-at.invariant c.index-nodes-at.is c.in-Branch.is).room

pub loop-at-smaller-in-Ok-value_at : goal.loop-at-smaller-in-Ok-value_at
loop-at-smaller-in-Ok-value_at c = c.side_at-at.ensures.falls

pub loop-at-preserved-in-Ok-value_at : goal.loop-at-preserved-in-Ok-value_at
loop-at-preserved-in-Ok-value_at c =
    let b = at_branch c.loop-at.invariant c.index-nodes-at.is c.in-Branch.is in
    let e : form_run c.in-Branch.test c.deref-in-Branch.result.now ≡ Ok c.in-Ok-value_at.value = search rules in
    let run = rw c.deref-in-Branch.ensures.value at e in
    let fits : FitsSigned w128 c.in-Ok-value_at.value = search rules in
    let place = simp to_z-of_z at c.side_at-at.ensures.place in
    rw place (b.side c.in-Ok-value_at.value run)

pub push_quotient-requires-clause-variables : goal.push_quotient-requires-clause-variables
push_quotient-requires-clause-variables c = (at_bind c.loop-at.invariant c.index-nodes-at.is c.in-Bind.is).variables

pub push_quotient-requires-clause-divisor : goal.push_quotient-requires-clause-divisor
push_quotient-requires-clause-divisor c =
    let positive = (at_bind c.loop-at.invariant c.index-nodes-at.is c.in-Bind.is).positive in
    omega (arith, ints)

pub returns-in-Err-push_quotient-clause-run : goal.returns-in-Err-push_quotient-clause-run
returns-in-Err-push_quotient-clause-run c =
    let b = at_bind c.loop-at.invariant c.index-nodes-at.is c.in-Bind.is in
    let fits : FitsSigned w128 c.in-Bind.divisor = search rules in
    let e : Fails c.in-Err-push_quotient.stop
    (bound_run c.in-Bind.form c.in-Bind.divisor c.loop-at.values.items) = search rules in
    b.stops c.in-Err-push_quotient.stop e

pub overflow_sub-at-in-Ok-push_quotient : goal.overflow_sub-at-in-Ok-push_quotient
overflow_sub-at-in-Ok-push_quotient c = (at_bind c.loop-at.invariant c.index-nodes-at.is c.in-Bind.is).room

pub loop-at-smaller : goal.loop-at-smaller
loop-at-smaller c =
    let room = (at_bind c.loop-at.invariant c.index-nodes-at.is c.in-Bind.is).room in
    omega arith

pub loop-at-preserved : goal.loop-at-preserved
loop-at-preserved c =
    let b = at_bind c.loop-at.invariant c.index-nodes-at.is c.in-Bind.is in
    let fits : FitsSigned w128 c.in-Bind.divisor = search rules in
    let run : bound_run c.in-Bind.form c.in-Bind.divisor c.loop-at.values.items ≡ Ok c.push_quotient.new.point.items =
    search rules in
    b.body c.push_quotient.new.point.items run
