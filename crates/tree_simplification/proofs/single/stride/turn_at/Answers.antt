use Rattle.tree_simplification.proofs.Common.{◌+◌, ◌-◌, true, false, List, map, ap, subst, sym, ◌∙◌, All, IfOk-weaker}
use Rattle.tree_simplification.proofs.Common.{Affine, variables_of, BoundsAreOver, IsOver, bounds_in, test_of, CanBound}
use Rattle.tree_simplification.proofs.ComposedForms.{bounds_sized}
use Rattle.tree_simplification.proofs.Strides.{length_turn, tests_named}
use Rattle.tree_simplification.proofs.single.stride.turn_at.Goals as goal

pub ends_at-requires : goal.ends_at-requires
ends_at-requires c =
    let p = c.args.place.now in
    let head = c.args.head.now in
    subst (λ (fs : List Affine). CanBound (p.kept + p.parameters) fs (bounds_in head.lower) (bounds_in head.upper))
    (sym c.as_slice.ensures.value) c.requires.can

pub tests_between-requires-clause-low : goal.tests_between-requires-clause-low
tests_between-requires-clause-low c =
    let p = c.args.place.now in
    let n = p.kept + p.parameters in
    let is = ap variables_of c.in_ok-form.ensures ∙ length_turn n (p.kept - 1) c.args.turns c.args.at in
    let sized = subst (λ (fs : List Affine). All (IsOver n) fs) (sym c.as_slice.ensures.value) c.requires.can.sized in
    subst (λ i. BoundsAreOver i (bounds_in c.in_ok-ends.ends.lower)) (sym is)
    (subst (BoundsAreOver n) (sym c.in_ok-ends.ensures.lower)
    (bounds_sized true n c.as_slice.result.now sized (bounds_in c.args.head.now.lower)))

pub tests_between-requires-clause-high : goal.tests_between-requires-clause-high
tests_between-requires-clause-high c =
    let p = c.args.place.now in
    let n = p.kept + p.parameters in
    let is = ap variables_of c.in_ok-form.ensures ∙ length_turn n (p.kept - 1) c.args.turns c.args.at in
    let sized = subst (λ (fs : List Affine). All (IsOver n) fs) (sym c.as_slice.ensures.value) c.requires.can.sized in
    subst (λ i. BoundsAreOver i (bounds_in c.in_ok-ends.ends.upper)) (sym is)
    (subst (BoundsAreOver n) (sym c.in_ok-ends.ensures.upper)
    (bounds_sized false n c.as_slice.result.now sized (bounds_in c.args.head.now.upper)))

pub returns : goal.returns
returns c =
    let p = c.args.place.now in
    let n = p.kept + p.parameters in
    let head = c.args.head.now in
    let f = c.in_ok-form.form in
    let is = ap variables_of c.in_ok-form.ensures ∙ length_turn n (p.kept - 1) c.args.turns c.args.at in
    let ends = c.in_ok-ends.ends in
    IfOk-weaker c.tests_between.result _ _
    (λ once known. (
      known.0 ∙ c.in_ok-form.ensures,
      tests_named n (variables_of f) p.forms.items c.as_slice.result.now (bounds_in head.lower) (bounds_in head.upper)
          (bounds_in ends.lower) (bounds_in ends.upper) f once.form (map test_of once.tests.items) is known.0
          c.as_slice.ensures.value c.in_ok-ends.ensures known.1,
    ))
    c.tests_between.ensures
