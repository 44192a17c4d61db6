-- How deep small trees nest (`nested_all`), and numbers within a bound that are within a larger one (`trees_more`).
use Rattle.scop_syntax.proofs.Common.{ℕ, zero, suc, ℤ, get_or, arith, ◌≤◌, Affine, at_most_more}
use Rattle.loop_tree.specs.Fits.{AreSmallTrees, IsSmallTree}
use Rattle.loop_tree.specs.Shape.{BoundsAreUpTo, IsOverUpTo, IsUpTo, NestAllTo, NestsTo, TestIsUpTo, TreeIsUpTo}
use Rattle.loop_tree.specs.Shape.{TreesAreUpTo}
use Rattle.loop_tree.specs.Tree.{Bounds, only, besides, Test, at_least, equal, multiple, Tree, loop, guard}
use Rattle.loop_tree.specs.Tree.{instance, Trees, none, more}

-- loops of small trees stand in one another no deeper than they may
mutual
  nested : (n : ℕ) (t : Tree) → IsSmallTree n t → NestsTo n t
  nested zero (loop flag lo up body) h = h
  nested (suc n) (loop flag lo up body) h = nested_all n body h.4
  nested n (guard tests body) h = nested_all n body h.1
  nested n (instance k forms) h = tt

  pub nested_all : (n : ℕ) (ts : Trees) → AreSmallTrees n ts → NestAllTo n ts
  nested_all n none h = tt
  nested_all n (more t ts) h = (nested n t h.0, nested_all n ts h.1)

-- numbers up to n are up to any m that is not less
form_more : (n m : ℕ) (f : Affine) → n ≤ m → IsUpTo n f → IsUpTo m f
form_more n m f less h = let c = h.1 in (at_most_more n m f.coefficients less h.0, omega (arith, c, less))

over_more : (n m : ℕ) (f : Affine) (d : ℤ) → n ≤ m → IsOverUpTo n f d → IsOverUpTo m f d
over_more n m f d less h = let c = h.1 in (form_more n m f less h.0, omega (arith, c, less))

bounds_more : (n m : ℕ) (b : Bounds) → n ≤ m → BoundsAreUpTo n b → BoundsAreUpTo m b
bounds_more n m (only b) less h = over_more n m b.form b.divisor less h
bounds_more n m (besides b bs) less h = (over_more n m b.form b.divisor less h.0, bounds_more n m bs less h.1)

test_more : (n m : ℕ) (test : Test) → n ≤ m → TestIsUpTo n test → TestIsUpTo m test
test_more n m (at_least f) less h = form_more n m f less h
test_more n m (equal f) less h = form_more n m f less h
test_more n m (multiple f d) less h = over_more n m f d less h

mutual
  tree_more : (n m : ℕ) (t : Tree) → n ≤ m → TreeIsUpTo n t → TreeIsUpTo m t
  tree_more n m (loop flag lo up body) less h =
      (bounds_more n m lo less h.0, bounds_more n m up less h.1, trees_more n m body less h.2)
  tree_more n m (guard tests body) less h =
      ((λ k d i. test_more n m (get_or tests k d) less (h.0 k d i)), trees_more n m body less h.1)
  tree_more n m (instance k forms) less h = λ i d inside. form_more n m (get_or forms i d) less (h i d inside)

  pub trees_more : (n m : ℕ) (ts : Trees) → n ≤ m → TreesAreUpTo n ts → TreesAreUpTo m ts
  trees_more n m none less h = tt
  trees_more n m (more t ts) less h = (tree_more n m t less h.0, trees_more n m ts less h.1)
