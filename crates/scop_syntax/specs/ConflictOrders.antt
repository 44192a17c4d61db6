-- Other orders of a list of visits, and those that keep its conflicts or its covers.
use Rattle.std.specs.Prelude.{◌≡◌, ◌≢◌, ◌↔◌, ◌⊎◌, ℕ, List, [], ◌∷◌, slice_get, Some}
use Rattle.scop_syntax.specs.Cells.{PlacesConflict}
use Rattle.scop_syntax.specs.Covers.{Cover}
use Rattle.scop_syntax.specs.Members.{In, Sorted}
use Rattle.scop_syntax.specs.Walk.{Visit}

-- no element stands twice
abbrev pub AreDistinct : {A : Type 0} → List A → Type 0
AreDistinct {A} xs = Sorted (λ (x y : A). x ≢ y) xs

-- x stands in the list, and y behind it
abbrev pub StandsBefore : {A : Type 0} → List A → A → A → Type 0
StandsBefore [] x y = ⊥
StandsBefore (z ∷ zs) x y = ((x ≡ z) × In y zs) ⊎ StandsBefore zs x y

-- a list that has each element of another once, in any order
pub record IsOrderOf {A : Type 0} (order xs : List A) : Type 0 where
  pub once : AreDistinct order
  pub same : (x : A) → In x order ↔ In x xs

-- of each two places of the visits that conflict, the earlier one's visit stands before the later one's
abbrev pub KeepsConflicts : List Visit → List Visit → Type 0
KeepsConflicts visits order =
    (i j : ℕ) (c : PlacesConflict visits i j) → StandsBefore order c.earlier c.later

-- of each two places of which the second covers the first, the earlier one's visit stands before the later one's
abbrev pub KeepsCovers : List Visit → List Visit → Type 0
KeepsCovers visits order =
    (i j : ℕ) (v w : Visit) → slice_get visits i ≡ Some v → slice_get visits j ≡ Some w → Cover visits i j
    → StandsBefore order v w
