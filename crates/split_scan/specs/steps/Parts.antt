-- Parts of a node: rows, and the sets that have points where these hold.
use Rattle.std.specs.Prelude.{◌≡◌, ℕ, Bool, true, false, ℤ, pos, ◌≤ℤ◌, List, [], ◌∷◌, ◌++◌, length, ◌⊎◌, All}
use Rattle.whole_numbers.specs.Affine.{Affine, value_of}
use Rattle.integer_sets.specs.Scanned.{Scanned}
use Rattle.scop_syntax.specs.Limits.{AreInRange}
use Rattle.plain_scan.specs.Sets.{IsKeyOf, Keys}
use Rattle.plain_scan.specs.steps.Serving.{AllAtLeast}
use Rattle.split_scan.specs.steps.Questions.{IsCut, IsIn}
use Rattle.split_scan.specs.declared.part.Part.{Part}

-- the sets that stay: those marked true, and those without a mark
abbrev pub staying : List Bool → List Scanned → List Scanned
staying [] sets = sets
staying (b ∷ bs) [] = []
staying (true ∷ bs) (s ∷ sets) = s ∷ staying bs sets
staying (false ∷ bs) (s ∷ sets) = staying bs sets

-- the first set without a mark
abbrev pub IsNext : List Bool → List Scanned → Scanned → Type 0
IsNext [] [] s = ⊥
IsNext [] (t ∷ sets) s = t ≡ s
IsNext (b ∷ bs) [] s = ⊥
IsNext (b ∷ bs) (t ∷ sets) s = IsNext bs sets s

-- where the rows hold, no point of the sets is lost by those that stay
abbrev pub Keeps : ℕ → List Affine → List Scanned → List Bool → List Affine → Type 0
Keeps m inside all stays cuts = (params outer : List ℤ) (x : ℤ) → IsIn m inside params outer x
    → AllAtLeast cuts (outer ++ x ∷ params) → (r : List ℤ) → Keys all params (outer ++ x ∷ r)
    → Keys (staying stays all) params (outer ++ x ∷ r)

-- a part of the node of these sets
pub record IsPart (m n : ℕ) (inside : List Affine) (all : List Scanned) (p : Part) : Type 0 where
  pub cuts : All (IsCut m n) p.cuts.items
  pub keeps : Keeps m inside all p.stays.items p.cuts.items

-- a cell of the node, of which no set is known to be gone
abbrev pub IsCell : ℕ → ℕ → Part → Type 0
IsCell m n p = All (IsCut m n) p.cuts.items

-- each of the first i sets has a mark
abbrev pub HasMarks : ℕ → Part → Type 0
HasMarks i p = length p.stays.items ≡ i

-- the rows of one of the parts hold
abbrev pub InPart : List Part → List ℤ → Type 0
InPart [] point = ⊥
InPart (p ∷ ps) point = AllAtLeast p.cuts.items point ⊎ InPart ps point

-- these rows hold, or those of one of the parts
abbrev pub IsHeld : List Affine → List Part → List ℤ → Type 0
IsHeld cuts ps point = AllAtLeast cuts point ⊎ InPart ps point

-- no point of the node is lost on the way from rows and parts to others
abbrev pub Goes : ℕ → List Affine → List Affine → List Part → List Affine → List Part → Type 0
Goes m inside cuts ps less more = (params outer : List ℤ) (x : ℤ) → IsIn m inside params outer x
    → IsHeld cuts ps (outer ++ x ∷ params) → IsHeld less more (outer ++ x ∷ params)

-- no point of the set leaves the row
abbrev pub Implies : ℕ → Scanned → Affine → Type 0
Implies m s f = (params outer : List ℤ) (x : ℤ) (r : List ℤ) → AreInRange params → length outer ≡ m
    → IsKeyOf params s (outer ++ x ∷ r) → pos 0 ≤ℤ value_of f (outer ++ x ∷ params)
