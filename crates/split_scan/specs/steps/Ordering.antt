-- Parts in order: the values of each are less than those of all behind it.
use Rattle.std.specs.Prelude.{ℕ, ◌+◌, ◌<◌, ℤ, pos, negsuc, ◌<ℤ◌, List, [], ◌∷◌, ◌++◌, length, map, set, All, ⊤}
use Rattle.whole_numbers.specs.Affine.{Affine, form_of, widened}
use Rattle.whole_numbers.specs.Lists.{zeros}
use Rattle.integer_sets.specs.Scanned.{Scanned}
use Rattle.plain_scan.specs.Sets.{Keys}
use Rattle.plain_scan.specs.steps.Serving.{AllAtLeast}
use Rattle.split_scan.specs.steps.Questions.{IsIn}
use Rattle.split_scan.specs.steps.Parts.{InPart, IsPart, staying}
use Rattle.split_scan.specs.declared.part.Part.{Part}

-- values at which the first's rows hold are less than those of the second
abbrev pub AreBelow : ℕ → List Affine → List Affine → List Affine → Type 0
AreBelow m inside ps qs = (params outer : List ℤ) (x y : ℤ) → IsIn m inside params outer x
    → IsIn m inside params outer y → AllAtLeast ps (outer ++ x ∷ params) → AllAtLeast qs (outer ++ y ∷ params)
    → x <ℤ y

-- the part is below each of these
abbrev pub IsBelowAll : ℕ → List Affine → Part → List Part → Type 0
IsBelowAll m inside p [] = ⊤
IsBelowAll m inside p (q ∷ qs) = AreBelow m inside p.cuts.items q.cuts.items × IsBelowAll m inside p qs

-- each part is below all behind it
abbrev pub Rise : ℕ → List Affine → List Part → Type 0
Rise m inside [] = ⊤
Rise m inside (p ∷ ps) = IsBelowAll m inside p ps × Rise m inside ps

-- x - y, of n variables that at place m and the one behind it
abbrev pub difference : ℕ → ℕ → Affine
difference n m = form_of (set (set (zeros n) m (pos 1)) (m + 1) (negsuc 0)) (pos 0)

-- over the outer values, x, y and the parameters: x in the first part, y in the second, and x at least y
abbrev pub turned : ℕ → ℕ → List Affine → List Affine → List Affine → List Affine
turned m n inside ps qs =
    (map (widened (m + 1)) (inside ++ ps) ++ map (widened m) (inside ++ qs)) ++ difference n m ∷ []

-- no key of the sets is lost
abbrev pub AreEnoughParts : ℕ → List Affine → List Scanned → List Part → Type 0
AreEnoughParts m inside all ps = (params outer : List ℤ) (x : ℤ) → IsIn m inside params outer x → (r : List ℤ)
    → Keys all params (outer ++ x ∷ r) → InPart ps (outer ++ x ∷ params)

-- parts of a node in their order, each with a set, that lose none of its sets' points
pub record AreParts (m n : ℕ) (inside : List Affine) (all : List Scanned) (ps : List Part) : Type 0 where
  pub parts : All (IsPart m n inside all) ps
  pub some : All (λ p. 0 < length (staying p.stays.items all)) ps
  pub rise : Rise m inside ps
  pub enough : AreEnoughParts m inside all ps
