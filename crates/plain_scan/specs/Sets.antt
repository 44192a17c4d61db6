-- The sets that a tree scans: one for each statement, and the keys of their points.
use Rattle.std.specs.Prelude.{◌≡◌, ℕ, zero, suc, ◌<◌, ℤ, pos, List, [], ◌∷◌, ◌++◌, length, ◌⊎◌, ⊤, ◌+◌, ◌≤◌}
use Rattle.whole_numbers.specs.Affine.{Affine}
use Rattle.integer_sets.specs.Constraints.{variables_in}
use Rattle.integer_sets.specs.Points.{Satisfies}
use Rattle.integer_sets.specs.Scanned.{Scanned}
use Rattle.fm_projection.specs.Alone.{place_form}
use Rattle.loop_tree.specs.Tree.{Test, at_least, equal, Tree, guard, instance, Trees, none, more}

-- r is a point of the set and then its statement
pub record IsKeyOf (params : List ℤ) (s : Scanned) (r : List ℤ) : Type 0 where
  pub values : List ℤ
  pub is : r ≡ values ++ pos s.statement ∷ []
  pub size : length values ≡ s.system.dimensions
  pub inside : Satisfies s.system (values ++ params)

-- the keys of some sets
abbrev pub Keys : List Scanned → List ℤ → List ℤ → Type 0
Keys [] params r = ⊥
Keys (s ∷ sets) params r = IsKeyOf params s r ⊎ Keys sets params r

-- statements' numbers above n
abbrev pub AllAbove : ℕ → List Scanned → Type 0
AllAbove n [] = ⊤
AllAbove n (s ∷ sets) = (n < s.statement) × AllAbove n sets

-- statements' numbers rise
abbrev pub NumbersRise : List Scanned → Type 0
NumbersRise [] = ⊤
NumbersRise (s ∷ sets) = AllAbove s.statement sets × NumbersRise sets

-- rows as tests
abbrev pub row_tests : List Affine → List Test
row_tests [] = []
row_tests (f ∷ fs) = at_least f ∷ row_tests fs

-- equalities as tests in front of others
abbrev pub equal_tests : List Affine → List Test → List Test
equal_tests [] tests = tests
equal_tests (f ∷ fs) tests = equal f ∷ equal_tests fs tests

-- a set's constraints as tests
abbrev pub tests_of : Scanned → List Test
tests_of s = equal_tests s.system.equalities (row_tests s.system.rows)

-- variables i, i + 1, .. of n, so many, as forms
abbrev pub place_forms : ℕ → ℕ → ℕ → List Affine
place_forms n i zero = []
place_forms n i (suc m) = place_form n i (pos 1) (pos 0) ∷ place_forms n (suc i) m

-- the turns of the statement's loops at a point of its set
abbrev pub turn_forms : Scanned → List Affine
turn_forms s = place_forms (variables_in s.system) s.first s.iterators

-- no guard without a test
abbrev pub under : List Test → Tree → Tree
under [] t = t
under (test ∷ tests) t = guard (test ∷ tests) (more t none)

-- a set behind the last loop: the tests that are left of its constraints, and its turns
pub record Leaf : Type 0 where
  pub set : Scanned
  pub tests : List Test
  pub turns : List Affine

-- the innermost sequence: each statement under its tests
abbrev pub leaves : List Leaf → Trees
leaves [] = none
leaves (l ∷ ls) = more (under l.tests (instance l.set.statement l.turns)) (leaves ls)

-- the statement's iterators stand among the first m dimensions
abbrev pub HasIterators : ℕ → Scanned → Type 0
HasIterators m s = (s.first + s.iterators ≤ m) × (m ≤ variables_in s.system)

-- a set of n dimensions and p parameters
pub record IsShaped (n p : ℕ) (s : Scanned) : Type 0 where
  pub dimensions : s.system.dimensions ≡ n
  pub parameters : s.system.parameters ≡ p
  pub iterators : HasIterators n s
