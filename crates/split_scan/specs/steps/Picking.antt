-- Parts that are put in order one by one.
use Rattle.std.specs.Prelude.{ℕ, ◌<◌, ℤ, List, ◌∷◌, ◌++◌, length, ◌⊎◌, All}
use Rattle.whole_numbers.specs.Affine.{Affine}
use Rattle.integer_sets.specs.Scanned.{Scanned}
use Rattle.plain_scan.specs.Sets.{Keys}
use Rattle.split_scan.specs.steps.Questions.{IsIn}
use Rattle.split_scan.specs.steps.Parts.{HasMarks, InPart, IsPart, staying}
use Rattle.split_scan.specs.declared.part.Part.{Part}

-- what holds of the parts that wait and of those in order, where all are parts of the node of these sets
pub record IsPicking (m n : ℕ) (inside : List Affine) (all : List Scanned) (rest out : List Part) : Type 0 where
  pub waiting : All (IsPart m n inside all) rest
  pub marks : All (HasMarks (length all)) rest
  pub parts : All (IsPart m n inside all) out
  pub some : All (λ p. 0 < length (staying p.stays.items all)) out
  pub enough : (params outer : List ℤ) (x : ℤ) → IsIn m inside params outer x → (r : List ℤ)
      → Keys all params (outer ++ x ∷ r) → InPart rest (outer ++ x ∷ params) ⊎ InPart out (outer ++ x ∷ params)
