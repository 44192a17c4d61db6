-- The determined derivation of a goal: each row is divided by its content, then one variable after another is eliminated
-- by pairs of rows (J. Fourier, 1826; T. Motzkin, 1936), up to the first contradiction; of its lines those that it needs.
use Rattle.std.specs.Prelude.{ℕ, zero, suc, ◌*◌, ◌/◌, ◌-ℤ◌, ℤ, pos, unsigned_abs, nat_le, nat_lt, nat_eq}
use Rattle.std.specs.Prelude.{Bool, true, false, ◌&&◌, ◌||◌, if◌then◌else◌, List, [], ◌∷◌, ◌++◌, length, slice_index_or}
use Rattle.std.specs.Prelude.{Option, Some, None, Result, Ok, Err}
use Rattle.whole_numbers.specs.Affine.{Affine, form_of}
use Rattle.whole_numbers.specs.Content.{content, gcd_of}
use Rattle.fractions.specs.Elimination.{coefficient_of, is_negative, is_positive, is_zero}
use Rattle.fm_projection.specs.Tightest.{are_parallel}
use Rattle.plan_check.specs.Derivations.{Step, is_contradiction, named, pruned, row_said, sum_said}
use Rattle.plan_check.specs.Judged.{is_held}
use Rattle.plan_check.specs.declared.lines.Fault.{Fault}
use Rattle.plan_check.specs.declared.lines.Term.{Term}

-- A goal's rows and behind them those that lines have added, the lines, and the places of the rows that go on.
pub record State : Type 0 where
  pub rows : List Affine
  pub lines : List Step
  pub going : List ℕ

-- what comes of a state: it goes on, its last line is a contradiction, or a limit is passed
pub data Outcome : Type 0 where
  goes : State → Outcome
  ended : List Step → Outcome
  passed : Outcome

-- what follows, where it goes on
abbrev pub and_then : Outcome → (State → Outcome) → Outcome
and_then (goes s) next = next s
and_then (ended lines) next = ended lines
and_then passed next = passed

-- the row at a place
abbrev pub row_of : List Affine → ℕ → Affine
row_of rows at = slice_index_or rows at (form_of [] (pos 0))

-- the row at a place so many times; rows are numbered from 1
abbrev pub times : ℕ → ℕ → Term
times at k = record { row = suc at; factor = pos k }

-- a number, and 1 in place of 0
abbrev pub at_least_one : ℕ → ℕ
at_least_one zero = 1
at_least_one (suc n) = suc n

-- what a sum of rows is divided by: the content of its coefficients, 1 where there are none
abbrev pub divisor_of : Affine → ℕ
divisor_of f = at_least_one (content f.coefficients)

-- a line with its row; a row that is no contradiction goes on
abbrev pub with_row : State → Step → Result Affine Fault → Outcome
with_row s l (Err fault) = passed
with_row s l (Ok g) =
    if is_contradiction g then ended (s.lines ++ l ∷ [])
    else goes (record {
      rows = s.rows ++ g ∷ [];
      lines = s.lines ++ l ∷ [];
      going = s.going ++ length s.rows ∷ [];
    })

-- the line of these terms over n variables, by their sum
abbrev pub with_sum : ℕ → State → List Term → Result Affine Fault → Outcome
with_sum n s terms (Err fault) = passed
with_sum n s terms (Ok f) =
    let l : Step = record { divisor = pos (divisor_of f); terms = terms } in
    if is_held (divisor_of f) then with_row s l (row_said n s.rows l) else passed

abbrev pub with_terms : ℕ → State → List Term → Outcome
with_terms n s terms = with_sum n s terms (sum_said n terms (named s.rows terms))

-- the first place, from this one on, of a row that is a contradiction
abbrev pub contradiction_in : ℕ → List Affine → Option ℕ
contradiction_in at [] = None
contradiction_in at (f ∷ fs) = if is_contradiction f then Some at else contradiction_in (suc at) fs

-- rows from a place on go on: one whose content is above 1 is divided by it
abbrev pub divided_from : ℕ → ℕ → List Affine → State → Outcome
divided_from n at [] s = goes s
divided_from n at (f ∷ fs) s =
    if nat_le (content f.coefficients) 1
    then divided_from n (suc at) fs (record s { going = s.going ++ at ∷ [] })
    else and_then (with_terms n s (times at 1 ∷ [])) (divided_from n (suc at) fs)

-- of two rows with the same coefficients the one with the less constant, the first where they are equal
abbrev pub tighter : List Affine → ℕ → ℕ → ℕ
tighter rows p q =
    if is_negative ((row_of rows q).constant -ℤ (row_of rows p).constant) then q else p

-- one place more: behind the others, or where one has its coefficients, the tighter of the two there
abbrev pub with_place : List Affine → List ℕ → ℕ → List ℕ
with_place rows [] q = q ∷ []
with_place rows (p ∷ ps) q =
    if are_parallel (row_of rows p) (row_of rows q) then tighter rows p q ∷ ps else p ∷ with_place rows ps q

abbrev pub with_places : List Affine → List ℕ → List ℕ → List ℕ
with_places rows ps [] = ps
with_places rows ps (q ∷ qs) = with_places rows (with_place rows ps q) qs

-- the places of the rows whose coefficient of variable v passes the test
abbrev pub chosen : (ℤ → Bool) → ℕ → List Affine → List ℕ → List ℕ
chosen test v rows [] = []
chosen test v rows (p ∷ ps) =
    if test (coefficient_of v (row_of rows p)) then p ∷ chosen test v rows ps else chosen test v rows ps

-- a coefficient without its sign
abbrev pub size_at : ℕ → List Affine → ℕ → ℕ
size_at v rows p = unsigned_abs (coefficient_of v (row_of rows p))

-- each row as often as the other's coefficient says, by the least such numbers, if 128 bits hold these
abbrev pub paired : ℕ → ℕ → ℕ → ℕ → State → ℕ → Outcome
paired n p q a s b =
    let g = gcd_of a b in
    if is_held (b / g) && is_held (a / g)
    then with_terms n s (times p (b / g) ∷ times q (a / g) ∷ []) else passed

abbrev pub pair : ℕ → ℕ → ℕ → ℕ → State → Outcome
pair n v p q s = paired n p q (size_at v s.rows p) s (size_at v s.rows q)

-- a row with each of others, and each of these with each of those
abbrev pub pairs_with : ℕ → ℕ → ℕ → List ℕ → State → Outcome
pairs_with n v p [] s = goes s
pairs_with n v p (q ∷ qs) s = and_then (pair n v p q s) (pairs_with n v p qs)

abbrev pub pairs : ℕ → ℕ → List ℕ → List ℕ → State → Outcome
pairs n v [] qs s = goes s
pairs n v (p ∷ ps) qs s = and_then (pairs_with n v p qs s) (pairs n v ps qs)

-- the elimination of a variable from rows at these places: the rows without it stay in front
abbrev pub eliminated_by : ℕ → ℕ → List ℕ → State → Outcome
eliminated_by n v places s =
    let above = chosen is_positive v s.rows places in
    let below = chosen is_negative v s.rows places in
    if nat_lt 4096 (length above * length below) then passed
    else pairs n v above below (record s { going = chosen is_zero v s.rows places })

-- of rows with the same coefficients the tightest alone is in it
abbrev pub eliminated : ℕ → ℕ → State → Outcome
eliminated n v s = eliminated_by n v (with_places s.rows [] s.going) s

-- of k variables from v on
abbrev pub all_eliminated : ℕ → ℕ → ℕ → State → Outcome
all_eliminated n v zero s = goes s
all_eliminated n v (suc k) s = and_then (eliminated n v s) (all_eliminated n (suc v) k)

-- a goal's rows, before the first line
abbrev pub start : List Affine → State
start rows = record { rows = rows; lines = []; going = [] }

-- by a row that is a contradiction, or by all divisions and then all eliminations
abbrev pub run_by : ℕ → List Affine → Option ℕ → Outcome
run_by n rows (Some at) = with_terms n (start rows) (times at 1 ∷ [])
run_by n rows None = and_then (divided_from n 0 rows (start rows)) (all_eliminated n 0 n)

abbrev pub run : ℕ → List Affine → Outcome
run n rows = run_by n rows (contradiction_in 0 rows)

-- a step takes the row of a number
abbrev pub takes : ℕ → List Term → Bool
takes k [] = false
takes k (t ∷ ts) = nat_eq t.row k || takes k ts

-- so does one of those that are marked
abbrev pub marked_takes : ℕ → List Bool → List Step → Bool
marked_takes k [] steps = false
marked_takes k (m ∷ ms) [] = false
marked_takes k (m ∷ ms) (s ∷ steps) = (m && takes k s.terms) || marked_takes k ms steps

-- which lines are needed, the row of the first having number k: the last, and those whose row a needed one takes
abbrev pub needed : ℕ → List Step → List Bool
needed k [] = []
needed k (s ∷ []) = true ∷ []
needed k (s ∷ t ∷ steps) =
    let behind = needed (suc k) (t ∷ steps) in marked_takes k behind (t ∷ steps) ∷ behind

-- lines of a goal with so many rows without those that are not needed
abbrev pub needed_lines : ℕ → List Step → List Step
needed_lines rows steps = pruned rows rows (λ k. k) (needed (suc rows) steps) steps

-- the needed lines of a run that ended in a contradiction
abbrev pub lines_of : ℕ → Outcome → Option (List Step)
lines_of rows (ended lines) = Some (needed_lines rows lines)
lines_of rows (goes s) = None
lines_of rows passed = None

-- the derivation of rows over n variables; none where no contradiction is met, more than 4,096 pairs would be made in an
-- elimination, or 128 bits do not hold a number
unfoldable pub derivation : ℕ → List Affine → Option (List Step)
derivation n rows = lines_of (length rows) (run n rows)
