-- Systems of affine equalities and rows over dimensions and parameters.
use Rattle.std.specs.Prelude.{◌≡◌, ℕ, ◌+◌, List, ◌++◌, All}
use Rattle.affine_forms.specs.Affine.{Affine}
use Rattle.affine_forms.specs.Parts.{variables_of}

-- a system over dimensions and, behind them, parameters: forms that are 0, rows that are at least 0
pub record Constraints : Type 0 where
  pub dimensions : ℕ
  pub parameters : ℕ
  pub equalities : List Affine
  pub rows : List Affine

-- the system of these constraints
abbrev pub system_of : ℕ → ℕ → List Affine → List Affine → Constraints
system_of dimensions parameters equalities rows =
    record {
      dimensions = dimensions;
      parameters = parameters;
      equalities = equalities;
      rows = rows;
    }

-- how many variables each constraint speaks of
abbrev pub variables_in : Constraints → ℕ
variables_in s = s.dimensions + s.parameters

-- each form speaks of n variables
pub record IsSized (n : ℕ) (equalities rows : List Affine) : Type 0 where
  pub equalities_sized : All (λ f. variables_of f ≡ n) equalities
  pub rows_sized : All (λ f. variables_of f ≡ n) rows

-- the constraints of s, then those of t
abbrev pub intersection : Constraints → Constraints → Constraints
intersection s t = record s { equalities = s.equalities ++ t.equalities; rows = s.rows ++ t.rows }
