-- A place in the visits of trees: for each sequence of trees that it stands in, outermost first, at which tree, whether
-- that one was begun, and where it is a loop at which value, and which is its last.
use Rattle.std.specs.Prelude.{◌≡◌, ℕ, zero, suc, max, Bool, true, false, ℤ, pos, ◌+ℤ◌, ◌≤ℤ◌, List, [], ◌∷◌, ◌++◌, map}
use Rattle.std.specs.Prelude.{if◌then◌else◌, ⊤}
use Rattle.std.specs.Int.Signed.{le_z}
use Rattle.scop_syntax.specs.Walk.{Instance}
use Rattle.loop_tree.specs.Tree.{Tree, loop, guard, instance, Trees, none, more}
use Rattle.loop_tree.specs.Walk.{lower, upper, all_hold, between, walk, walk_all, given}

-- the place of a tree in a sequence, whether it was begun, and the value and the last value where it is a loop
pub data Mark : Type 0 where
  mark : ℕ → Bool → ℤ → ℤ → Mark

-- how many sequences stand in one another
abbrev mutual
  pub deep : Tree → ℕ
  deep (loop flag lo up body) = deep_all body
  deep (guard tests body) = deep_all body
  deep (instance n forms) = 0

  pub deep_all : Trees → ℕ
  deep_all none = 1
  deep_all (more t ts) = max (suc (deep t)) (deep_all ts)

-- a loop's instances from the value x on
abbrev pub shown_from : Trees → List ℤ → List ℤ → ℤ → ℤ → List Instance
shown_from body params outer x last = map given (between (λ y. walk_all body params (outer ++ y ∷ [])) x last)

abbrev mutual
  -- the instances still to come of a tree that was begun, in a loop at x, by the marks of its body
  pub rest_in : Tree → ℤ → List Mark → List ℤ → List ℤ → List Instance
  rest_in (loop flag lo up body) x ms params outer =
      if le_z x (upper up (outer ++ params))
      then rest_of body ms params (outer ++ x ∷ [])
      ++ shown_from body params outer (x +ℤ pos 1) (upper up (outer ++ params))
      else []
  rest_in (guard tests body) x ms params outer =
      if all_hold tests (outer ++ params) then rest_of body ms params outer else []
  rest_in (instance n forms) x ms params outer = []

  -- those of trees, by the mark of these and the marks within the tree at its place
  pub rest_of : Trees → List Mark → List ℤ → List ℤ → List Instance
  rest_of ts [] params outer = []
  rest_of none (m ∷ ms) params outer = []
  rest_of (more t ts) (mark zero begun x z ∷ ms) params outer =
      (if begun then rest_in t x ms params outer else map given (walk t params outer))
      ++ map given (walk_all ts params outer)
  rest_of (more t ts) (mark (suc k) begun x z ∷ ms) params outer = rest_of ts (mark k begun x z ∷ ms) params outer

abbrev mutual
  -- a loop that was begun is at no value before its first, and its last is known; a guard that was begun lets pass
  pub IsWithin : Tree → ℤ → ℤ → List Mark → List ℤ → List ℤ → Type 0
  IsWithin (loop flag lo up body) x z ms params outer =
      (lower lo (outer ++ params) ≤ℤ x) × (z ≡ upper up (outer ++ params))
      × (x ≤ℤ z → IsAt body ms params (outer ++ x ∷ []))
  IsWithin (guard tests body) x z ms params outer =
      (all_hold tests (outer ++ params) ≡ true) × IsAt body ms params outer
  IsWithin (instance n forms) x z ms params outer = ⊤

  -- so it is at the place of these marks in trees
  pub IsAt : Trees → List Mark → List ℤ → List ℤ → Type 0
  IsAt ts [] params outer = ⊤
  IsAt none (m ∷ ms) params outer = ⊤
  IsAt (more t ts) (mark zero true x z ∷ ms) params outer = IsWithin t x z ms params outer
  IsAt (more t ts) (mark zero false x z ∷ ms) params outer = ⊤
  IsAt (more t ts) (mark (suc k) begun x z ∷ ms) params outer = IsAt ts (mark k begun x z ∷ ms) params outer
