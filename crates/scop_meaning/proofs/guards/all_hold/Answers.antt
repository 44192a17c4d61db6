use Rattle.scop_syntax.proofs.Common.{◌<◌, length, map, ap, sym, subst, ◌∙◌, ℕ, List, get_or, ◌≡◌, ℤ, FitsSigned, w64}
use Rattle.scop_syntax.proofs.Common.{get_or-map, length-map, All-get_or, value_of, test_of, test_form}
use Rattle.scop_syntax.specs.Tree.{Test as Mirror}
use Rattle.scop_syntax.specs.declared.tree.Test.{Test}
use Rattle.scop_syntax.specs.Fits.{TestsFit}
use Rattle.scop_meaning.proofs.guards.all_hold.Goals as goal

test_fits : (tests : List Test) (point : List ℤ) (i : ℕ) (t : Test) → t ≡ get_or tests i t → i < length tests
    → TestsFit (map test_of tests) point → FitsSigned w64 (value_of (test_form (test_of t)) point)
test_fits tests point i t is h fits =
    let P : Mirror → Type 0 = λ m. FitsSigned w64 (value_of (test_form m) point) in
    let within : i < length (map test_of tests) = simp length-map h in
    subst P (get_or-map test_of tests i t (test_of t) h ∙ ap test_of (sym is))
    (All-get_or P (map test_of tests) i (test_of t) within fits)

pub holds_at-requires : goal.holds_at-requires
holds_at-requires c =
    test_fits c.args.tests.now c.args.point.now c.loop-test.test-index c.test-item.result c.test-item.is
    c.loop-test-test.true c.requires
