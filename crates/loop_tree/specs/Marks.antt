-- What stands beside the order: the turns that are given, the parallel loops, and trees that texts can have.
use Rattle.std.specs.Prelude.{◌≡◌, Bool, true, ℤ, pos, ◌<ℤ◌, List, [], ◌∷◌, ◌++◌, ⊤, if◌then◌else◌}
use Rattle.whole_numbers.specs.Affine.{values_of}
use Rattle.loop_tree.specs.Tree.{Bounds, only, besides, Test, at_least, equal, multiple, Tree, loop, guard, instance}
use Rattle.loop_tree.specs.Tree.{Trees, none, more}
use Rattle.loop_tree.specs.Walk.{all_hold}
use Rattle.loop_tree.specs.Scans.{Within}

abbrev mutual
  -- the instances give the turns that g tells of a key
  pub Shows : (List ℤ → List ℤ) → Tree → List ℤ → List ℤ → Type 0
  Shows g (loop flag lo up body) params outer =
      (x : ℤ) → Within lo up (outer ++ params) x → ShowsAll (λ r. g (x ∷ r)) body params (outer ++ x ∷ [])
  Shows g (guard tests body) params outer = all_hold tests (outer ++ params) ≡ true → ShowsAll g body params outer
  Shows g (instance n forms) params outer = values_of forms (outer ++ params) ≡ g (pos n ∷ [])

  -- those of trees do
  pub ShowsAll : (List ℤ → List ℤ) → Trees → List ℤ → List ℤ → Type 0
  ShowsAll g none params outer = ⊤
  ShowsAll g (more t ts) params outer = Shows g t params outer × ShowsAll g ts params outer

abbrev mutual
  -- at each depth the loops are parallel or not, and an instance stands behind the last
  pub Marks : List Bool → Tree → Type 0
  Marks [] (loop flag lo up body) = ⊥
  Marks (b ∷ bs) (loop flag lo up body) = (flag ≡ b) × MarksAll bs body
  Marks bs (guard tests body) = MarksAll bs body
  Marks [] (instance n forms) = ⊤
  Marks (b ∷ bs) (instance n forms) = ⊥

  -- so it is in each of these trees
  pub MarksAll : List Bool → Trees → Type 0
  MarksAll bs none = ⊤
  MarksAll bs (more t ts) = Marks bs t × MarksAll bs ts

-- the values of the marked places
abbrev pub marked : List Bool → List ℤ → List ℤ
marked [] xs = []
marked (b ∷ bs) [] = []
marked (b ∷ bs) (x ∷ xs) = if b then x ∷ marked bs xs else marked bs xs

-- each divisor of a bound is at least 1
abbrev pub AreBounds : Bounds → Type 0
AreBounds (only b) = pos 0 <ℤ b.divisor
AreBounds (besides b bs) = (pos 0 <ℤ b.divisor) × AreBounds bs

-- a divisor of a test is at least 1
abbrev pub IsTest : Test → Type 0
IsTest (at_least form) = ⊤
IsTest (equal form) = ⊤
IsTest (multiple form d) = pos 0 <ℤ d

-- each of these is such a test
abbrev pub AreTests : List Test → Type 0
AreTests [] = ⊤
AreTests (test ∷ tests) = IsTest test × AreTests tests

abbrev mutual
  -- a text's tree: no guard without a test, divisors at least 1 (that a body is one sequence is in the type)
  pub Flat : Tree → Type 0
  Flat (loop flag lo up body) = AreBounds lo × AreBounds up × FlatAll body
  Flat (guard [] body) = ⊥
  Flat (guard (test ∷ tests) body) = AreTests (test ∷ tests) × FlatAll body
  Flat (instance n forms) = ⊤

  -- each of these trees is such a one
  pub FlatAll : Trees → Type 0
  FlatAll none = ⊤
  FlatAll (more t ts) = Flat t × FlatAll ts
