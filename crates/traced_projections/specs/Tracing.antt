-- Rows that know of which of the first rows they are made.
use Rattle.std.specs.Prelude.{ℕ, suc, Bool, if◌then◌else◌, nat_lt, ℤ, ◌-ℤ◌, ◌^◌, List, [], ◌∷◌, ◌++◌, map, set, get_or}
use Rattle.std.specs.Prelude.{◌≡◌, ◌+◌, ◌*◌, ◌<◌, All, Option, Some, None}
use Rattle.affine_forms.specs.Parts.{variables_of}
use Rattle.std.specs.List.{filter, position}
use Rattle.whole_numbers.specs.Affine.{Affine}
use Rattle.fractions.specs.Elimination.{coefficient_of, is_zero, is_not_zero, is_positive, is_negative}
use Rattle.integer_sets.specs.Constraints.{Constraints, system_of}
use Rattle.fm_projection.specs.Tightest.{are_parallel}
use Rattle.traced_projections.specs.declared.rows.Sign.{Sign}
use Rattle.traced_projections.specs.declared.rows.Sign.TheVariants.{Zero, NotZero, Positive, Negative}

-- a row, and of which of the first rows it is made: a binary digit for each of the first 128
pub record Row : Type 0 where
  pub form : Affine
  pub history : ℕ

abbrev pub row_of : Affine → ℕ → Row
row_of f h = record { form = f; history = h }

abbrev pub forms_of : List Row → List Affine
forms_of rows = map (λ (r : Row). r.form) rows

-- equalities and such rows, behind so many eliminations by pairs
pub record Tracing : Type 0 where
  pub dimensions : ℕ
  pub parameters : ℕ
  pub equalities : List Affine
  pub rows : List Row
  pub pairings : ℕ

abbrev pub tracing : ℕ → ℕ → List Affine → List Row → ℕ → Tracing
tracing dimensions parameters equalities rows pairings =
    record {
      dimensions = dimensions;
      parameters = parameters;
      equalities = equalities;
      rows = rows;
      pairings = pairings;
    }

-- its constraints
abbrev pub constraints_of : Tracing → Constraints
constraints_of t = system_of t.dimensions t.parameters t.equalities (forms_of t.rows)

-- the digit of a first row
abbrev pub digit : ℕ → ℕ
digit k = if nat_lt k 128 then 2 ^ k else 0

-- first rows, from number k on
abbrev pub numbered : ℕ → List Affine → List Row
numbered k [] = []
numbered k (f ∷ fs) = row_of f (digit k) ∷ numbered (suc k) fs

-- whether a number has the sign
abbrev pub has_sign : Sign → ℤ → Bool
has_sign Zero z = is_zero z
has_sign NotZero z = is_not_zero z
has_sign Positive z = is_positive z
has_sign Negative z = is_negative z

-- the rows whose coefficient of variable i has the sign
abbrev pub signed : Sign → ℕ → List Row → List Row
signed sign i rows = filter (λ (r : Row). has_sign sign (coefficient_of i r.form)) rows

-- a row in the place of another, if it is tighter; behind all others where there is no place
abbrev pub placed : Option ℕ → List Row → Row → List Row
placed None rows r = rows ++ r ∷ []
placed (Some at) rows r =
    if is_negative (r.form.constant -ℤ (get_or rows at r).form.constant) then set rows at r else rows

-- the place of the first row with these coefficients
abbrev pub place_of : List Row → Affine → Option ℕ
place_of rows f = position (λ (r : Row). are_parallel r.form f) rows

-- one row more: of those with the same coefficients the tightest stays, of two equal ones the first
abbrev pub with_row : List Row → Row → List Row
with_row rows r = placed (place_of rows r.form) rows r

-- equalities and rows over n variables
pub record AreOver (n : ℕ) (equalities : List Affine) (rows : List Row) : Type 0 where
  pub equalities_over : All (λ f. variables_of f ≡ n) equalities
  pub rows_over : All (λ (r : Row). variables_of r.form ≡ n) rows

-- the forms speak of the variables, of which there are few, and of fewer behind each elimination
pub record IsTraced (t : Tracing) : Type 0 where
  pub over : AreOver (t.dimensions + t.parameters) t.equalities t.rows
  pub few : t.pairings + (t.dimensions + t.parameters) < 2 ^ 32

-- a system, each row of which is a first one: digits below are left to the rows of the range of the parameters
abbrev pub traced : Constraints → Tracing
traced s = tracing s.dimensions s.parameters s.equalities (numbered (2 * s.parameters) s.rows) 0
