use Rattle.tree_simplification.proofs.Common.{◌++◌, true, false, List, map, refl, subst, sym, ◌∙◌, All, variables_of}
use Rattle.tree_simplification.proofs.Common.{IsOver, Bound, bounds_in, test_of, parts, AreTestsOf, side_tests}
use Rattle.tree_simplification.proofs.Once.{parts_sized}
use Rattle.tree_simplification.proofs.single.stride.tests_between.Goals as goal

pub side_tests-requires-clause-lows : goal.side_tests-requires-clause-lows
side_tests-requires-clause-lows c =
    let n = variables_of c.args.form in
    subst (λ (bs : List Bound). All (λ b. IsOver n b.form) bs) (sym (c.deref.ensures.value ∙ c.in_ok-lows.ensures))
    (parts_sized n (bounds_in c.args.lower.now) c.requires.low)

pub side_tests-requires-clause-ups : goal.side_tests-requires-clause-ups
side_tests-requires-clause-ups c =
    let n = variables_of c.args.form in
    subst (λ (bs : List Bound). All (λ b. IsOver n b.form) bs) (sym (c.deref-2.ensures.value ∙ c.in_ok-ups.ensures))
    (parts_sized n (bounds_in c.args.upper.now) c.requires.high)

pub returns : goal.returns
returns c =
    let f = c.args.form in
    let lows = c.deref.ensures.value ∙ c.in_ok-lows.ensures in
    let ups = c.deref-2.ensures.value ∙ c.in_ok-ups.ensures in
    let tests = map test_of c.in_ok-tests.tests.items in (
      refl,
      subst (λ (bs : List Bound). AreTestsOf (variables_of f)
          (side_tests true f bs ++ side_tests false f (parts (bounds_in c.args.upper.now))) tests) lows
          (subst (λ (bs : List Bound). AreTestsOf (variables_of f)
          (side_tests true f c.deref.result.now ++ side_tests false f bs) tests) ups c.in_ok-tests.ensures),
    )
