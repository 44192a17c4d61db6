-- The leaves of a quast that name an instance, each with what stands on the way to it.
use Rattle.std.specs.Prelude.{◌≡◌, ℕ, suc, Bool, true, false, ℤ, pos, negsuc, ◌≤ℤ◌, ◌<ℤ◌, List, [], ◌∷◌, ◌++◌, map}
use Rattle.std.specs.Prelude.{length, ◌&&◌, ◌||◌, not, ⊤}
use Rattle.std.specs.Cmp.Lexicographic.{pointwise}
use Rattle.std.specs.List.{filter, list_all}
use Rattle.std.specs.Ordering.{int_eq}
use Rattle.whole_numbers.specs.Affine.{Affine, value_of}
use Rattle.whole_numbers.specs.Division.{IsFloor}
use Rattle.quast_trees.specs.Source.{Forms}
use Rattle.quast_trees.specs.Tree.{Tree, initial, leaf, branch, bind}

-- what is passed: a test on its first side or on its second, or a bind
pub data Turn : Type 0 where
  up : Affine → Turn
  down : Affine → Turn
  bound : Affine → ℤ → Turn

-- a leaf of forms, and what is passed from the root to it
pub record LeafPath : Type 0 where
  pub turns : List Turn
  pub leaf : Forms

-- the path of these parts
abbrev pub path_to : List Turn → Forms → LeafPath
path_to passed forms = record { turns = passed; leaf = forms }

-- paths with something passed before
abbrev pub behind : Turn → List LeafPath → List LeafPath
behind turn paths = map (λ p. path_to (turn ∷ p.turns) p.leaf) paths

-- the paths to all leaves of forms, depth first
abbrev pub leaf_paths : Tree → List LeafPath
leaf_paths initial = []
leaf_paths (leaf l) = path_to [] l ∷ []
leaf_paths (branch test first second) =
    behind (up test) (leaf_paths first) ++ behind (down test) (leaf_paths second)
leaf_paths (bind form divisor body) = behind (bound form divisor) (leaf_paths body)

-- how many binds are passed
abbrev pub binds_in : List Turn → ℕ
binds_in [] = 0
binds_in (up f ∷ ts) = binds_in ts
binds_in (down f ∷ ts) = binds_in ts
binds_in (bound f d ∷ ts) = suc (binds_in ts)

-- at the point all of this is passed, and what is bound on the way is qs
abbrev pub Goes : List Turn → List ℤ → List ℤ → Type 0
Goes [] point qs = qs ≡ []
Goes (up f ∷ ts) point qs = (pos 0 ≤ℤ value_of f point) × Goes ts point qs
Goes (down f ∷ ts) point qs = (value_of f point <ℤ pos 0) × Goes ts point qs
Goes (bound f d ∷ ts) point [] = ⊥
Goes (bound f d ∷ ts) point (q ∷ qs) = IsFloor (value_of f point) d q × Goes ts (point ++ q ∷ []) qs

-- what is passed speaks of the variables that stand there, n and those that are bound so far, and divides by at least 1
abbrev pub AreOver : ℕ → List Turn → Type 0
AreOver n [] = ⊤
AreOver n (up f ∷ ts) = (length f.coefficients ≡ n) × AreOver n ts
AreOver n (down f ∷ ts) = (length f.coefficients ≡ n) × AreOver n ts
AreOver n (bound f d ∷ ts) = (length f.coefficients ≡ n) × (pos 1 ≤ℤ d) × AreOver (suc n) ts

-- whether two forms have the same numbers
abbrev pub is_same : Affine → Affine → Bool
is_same f g = int_eq f.constant g.constant && pointwise int_eq f.coefficients g.coefficients

-- whether a form is a number: no coefficient is other than 0
abbrev pub is_number : Affine → Bool
is_number f = list_all (λ c. int_eq c (pos 0)) f.coefficients

-- whether a number is below 0
abbrev pub is_below : ℤ → Bool
is_below (pos n) = false
is_below (negsuc n) = true

-- whether a test speaks of no variable, and fails on the side on which it is passed
abbrev pub fails : Turn → Bool
fails (up f) = is_number f && is_below f.constant
fails (down f) = is_number f && not (is_below f.constant)
fails (bound f d) = false

-- whether they are the two sides of one test
abbrev pub are_opposite : Turn → Turn → Bool
are_opposite (up f) (down g) = is_same f g
are_opposite (down f) (up g) = is_same f g
are_opposite _ _ = false

-- whether the other side of a test is passed before the next bind, behind which each form has a variable more
abbrev pub is_crossed : Turn → List Turn → Bool
is_crossed turn [] = false
is_crossed turn (up f ∷ ts) = are_opposite turn (up f) || is_crossed turn ts
is_crossed turn (down f ∷ ts) = are_opposite turn (down f) || is_crossed turn ts
is_crossed turn (bound f d ∷ ts) = false

-- whether a test fails wherever it is passed, or is passed on both sides
abbrev pub is_blocked : List Turn → Bool
is_blocked [] = false
is_blocked (t ∷ ts) = fails t || (is_crossed t ts || is_blocked ts)

-- whether it is plain from the turns of a path that no point goes to its leaf
abbrev pub has_no_point : LeafPath → Bool
has_no_point p = is_blocked p.turns

-- the paths of a tree that a point may go, as far as their turns tell
abbrev pub live_paths : Tree → List LeafPath
live_paths t = filter (λ p. not (has_no_point p)) (leaf_paths t)
