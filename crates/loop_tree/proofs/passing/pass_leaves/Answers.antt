use Rattle.scop_syntax.proofs.Common.{rules, ◌≡◌, ◌++◌, ◌∷◌, [], ℤ, arith, subst, sym, pos, ◌+ℤ◌, FitsSigned, w128}
use Rattle.scop_syntax.proofs.Common.{ints, to_z-of_z, instance_of}
use Rattle.loop_tree.specs.steps.Chain.{values_in}
use Rattle.loop_tree.specs.steps.Going.{HasTurned}
use Rattle.loop_tree.specs.steps.Passing.{IsAlone, passed_by, shown_along}
use Rattle.loop_tree.specs.SpotView.{marks_of}
use Rattle.loop_tree.specs.View.{nodes_of}
use Rattle.loop_tree.proofs.Braids.{spent_can, turned_leaves, turned_spent}
use Rattle.loop_tree.proofs.Stretches.{shown_up}
use Rattle.loop_tree.proofs.passing.pass_leaves.Goals as goal

pub leaves_behind-requires-clause-alone : goal.leaves_behind-requires-clause-alone
leaves_behind-requires-clause-alone c =
    let value = c.args.mark.now.value in
    let fits : FitsSigned w128 value = search rules in
    subst (λ (x : ℤ). IsAlone (nodes_of c.args.body.now) (instance_of c.args.stretch.now.before) c.args.params.now
    (values_in c.args.outer.now ++ x ∷ [])) (sym (to_z-of_z w128 value fits)) c.requires.alone

pub leaves_behind-requires-clause-walk : goal.leaves_behind-requires-clause-walk
leaves_behind-requires-clause-walk c =
    let value = c.args.mark.now.value in
    let last = c.args.mark.now.last in
    let fits : FitsSigned w128 value = search rules in
    let fits_last : FitsSigned w128 last = search rules in
    let v_is = to_z-of_z w128 value fits in
    let last_is = to_z-of_z w128 last fits_last in
    let way = c.in-Some.ensures in
    λ y from to.
    c.requires.turn.walk y (omega (arith, ints, from, v_is)) (omega (arith, ints, to, v_is, last_is, way))

pub returns-then-leaves_behind-clause-gone : goal.returns-then-leaves_behind-clause-gone
returns-then-leaves_behind-clause-gone c =
    let body = nodes_of c.args.body.now in
    let ms = marks_of c.args.deeper.now in
    let params = c.args.params.now in
    let outer = values_in c.args.outer.now in
    let value = c.args.mark.now.value in
    let last = c.args.mark.now.last in
    let fits : FitsSigned w128 value = search rules in
    let fits_last : FitsSigned w128 last = search rules in
    let v_is = to_z-of_z w128 value fits in
    let last_is = to_z-of_z w128 last fits_last in
    let is = passed_by c.leaves_behind.new.stretch c.leaves_behind.new.braid in
    let left = c.in-Some.left in
    let way = c.in-Some.ensures in
    let within = c.requires.within in
    let shown = shown_up body params outer value last left is (omega (arith, ints, way, v_is, last_is))
    (subst (λ (x : ℤ). is ≡ shown_along body params outer (x +ℤ pos 1) left) v_is
    (c.leaves_behind.ensures.rest c.if-leaves_behind.true)) in
    subst (λ (z : ℤ). HasTurned body value ms z ms last is params outer) (sym last_is)
    (turned_leaves body ms value last last is params outer (c.leaves_behind.ensures.leaves c.if-leaves_behind.true)
    within (omega (arith, ints)) c.requires.over shown)

pub returns-else-leaves_behind-clause-gone : goal.returns-else-leaves_behind-clause-gone
returns-else-leaves_behind-clause-gone c =
    let m = c.args.mark.now in
    let then = c.leaves_behind.new in
    turned_spent (nodes_of c.args.body.now) (marks_of c.args.deeper.now) m.value m.last then.stretch then.braid
    c.args.params.now (values_in c.args.outer.now) c.requires.turn
    (c.leaves_behind.ensures.none c.if-leaves_behind.false)

pub returns-else-leaves_behind-clause-held : goal.returns-else-leaves_behind-clause-held
returns-else-leaves_behind-clause-held c =
    let then = c.leaves_behind.new in
    spent_can then.stretch then.braid (c.leaves_behind.ensures.none c.if-leaves_behind.false)

pub returns-in_default-clause-gone : goal.returns-in_default-clause-gone
returns-in_default-clause-gone c =
    let m = c.args.mark.now in
    turned_spent (nodes_of c.args.body.now) (marks_of c.args.deeper.now) m.value m.last c.args.stretch.now
    c.args.braid.now c.args.params.now (values_in c.args.outer.now) c.requires.turn c.requires.spent

pub returns-in_default-clause-held : goal.returns-in_default-clause-held
returns-in_default-clause-held c = spent_can c.args.stretch.now c.args.braid.now c.requires.spent
