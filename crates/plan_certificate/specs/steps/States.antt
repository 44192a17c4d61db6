-- What the code's rows stand for, and what a call on them tells.
use Rattle.std.specs.Prelude.{◌≡◌, ℕ, suc, ℤ, pos, true, false, List, [], ◌∷◌, ◌++◌, map, All}
use Rattle.std.specs.Prelude.{Option, Some, None, Result, Ok, Err, ⊤, nat_le, nat_lt, ◌*◌, length, if◌then◌else◌}
use Rattle.std.specs.declared.alloc.AllocError.{AllocError}
use Rattle.whole_numbers.specs.Affine.{Affine}
use Rattle.whole_numbers.specs.Content.{content}
use Rattle.affine_forms.specs.Parts.{variables_of}
use Rattle.plan_check.specs.Derivations.{Step, step_of}
use Rattle.plan_check.specs.Judged.{is_held}
use Rattle.plan_check.specs.declared.lines.Term.{Term}
use Rattle.plan_certificate.specs.Derivation.{State, Outcome, goes, ended, passed, pairs, times, with_terms}
use Rattle.plan_certificate.specs.declared.rows.Rows.{Rows}
use Rattle.plan_certificate.specs.declared.rows.Move.{Move}
use Rattle.plan_certificate.specs.declared.rows.Move.TheVariants as move

-- the state that rows of the code are
abbrev pub state_of : Rows → State
state_of r = record { rows = r.rows.items; lines = map step_of r.lines.items; going = r.going.items }

-- the code's move, with the rows as they stand behind it, is what comes of a state; want of memory tells nothing
abbrev pub Comes : Result Move AllocError → Rows → Outcome → Type 0
Comes (Ok move.Goes) new o = o ≡ goes (state_of new)
Comes (Ok move.Ended) new o = o ≡ ended (map step_of new.lines.items)
Comes (Ok move.Passed) new o = o ≡ passed
Comes (Err e) new o = ⊤

-- rows over n variables were put behind the old ones
pub record Grows (n : ℕ) (old new : List Affine) : Type 0 where
  pub more : List Affine
  pub is : new ≡ old ++ more
  pub sized : All (λ f. variables_of f ≡ n) more

-- a number that 128 bits hold with its sign, or none where they do not
abbrev pub IsNumber : ℕ → Option ℤ → Type 0
IsNumber n None = is_held n ≡ false
IsNumber n (Some z) = (is_held n ≡ true) × (z ≡ pos n)

-- the row at a place so many times
abbrev pub term_of : ℕ → ℤ → Term
term_of at z = record { row = suc at; factor = z }

-- the row at a place as often as a number says, if 128 bits hold it
abbrev pub IsTimes : ℕ → ℕ → Option Term → Type 0
IsTimes at n None = is_held n ≡ false
IsTimes at n (Some t) = (is_held n ≡ true) × (t ≡ times at n)

-- a line of these terms
abbrev pub line_of : ℤ → List Term → Step
line_of d terms = record { divisor = d; terms = terms }

-- what comes of one row, which goes on or is divided
abbrev pub divided_one : ℕ → ℕ → Affine → State → Outcome
divided_one n at f s =
    if nat_le (content f.coefficients) 1 then goes (record s { going = s.going ++ at ∷ [] })
    else with_terms n s (times at 1 ∷ [])

-- other rows go on
abbrev pub going_on : State → List ℕ → State
going_on s ps = record s { going = ps }

-- the pairs of rows at these places, if they are not too many, where others go on
abbrev pub paired_places : ℕ → ℕ → List ℕ → List ℕ → State → Outcome
paired_places n v above below s = if nat_lt 4096 (length above * length below) then passed else pairs n v above below s
