-- Derivations over rows that are at least 0: sums of rows, divided and rounded down, up to a row that no point meets
-- (V. Chvátal, "Edmonds polytopes and a hierarchy of combinatorial problems", 1973).
use Rattle.std.specs.Prelude.{ℕ, zero, suc, ℤ, pos, negsuc, ◌≤ℤ◌, Bool, true, false, if◌then◌else◌, List, [], ◌∷◌}
use Rattle.std.specs.Prelude.{◌++◌, map, slice_get, Option, Some, None, Result, Ok, Err, All}
use Rattle.std.specs.Prelude.{◌≡◌, nat_eq, nat_lt, ⊤}
use Rattle.whole_numbers.specs.Affine.{Affine, form_of}
use Rattle.whole_numbers.specs.Floor.{floor, floors, remainder}
use Rattle.wide_math.specs.declared.Wide.{Wide}
use Rattle.affine_forms.specs.Runs.{compose_run}
use Rattle.plan_check.specs.declared.lines.Term.{Term}
use Rattle.plan_check.specs.declared.lines.Line.{Line}
use Rattle.plan_check.specs.declared.lines.Fault.{Fault}
use Rattle.plan_check.specs.declared.lines.Fault.TheVariants as fault
use Rattle.plan_check.specs.declared.lines.LineStop.{LineStop}
use Rattle.plan_check.specs.declared.lines.LineStop.TheVariants as stop

-- a line: its terms, and what divides their sum
pub record Step : Type 0 where
  pub divisor : ℤ
  pub terms : List Term

-- what a line of the code stands for
abbrev pub step_of : Line → Step
step_of line = record { divisor = line.divisor; terms = line.terms.items }

-- the row of a number, counted from 1
abbrev pub row_at : List Affine → ℕ → Option Affine
row_at rows zero = None
row_at rows (suc k) = slice_get rows k

-- a row in front of others, if there are both
abbrev pub in_front : Option Affine → Option (List Affine) → Option (List Affine)
in_front None gs = None
in_front (Some g) None = None
in_front (Some g) (Some gs) = Some (g ∷ gs)

-- rows, and others behind them, if there are these
abbrev pub behind : List Affine → Option (List Affine) → Option (List Affine)
behind gs None = None
behind gs (Some hs) = Some (gs ++ hs)

-- the rows that terms name, if each names one
abbrev pub named : List Affine → List Term → Option (List Affine)
named rows [] = Some []
named rows (t ∷ terms) = in_front (row_at rows t.row) (named rows terms)

-- how often terms take their rows
abbrev pub factors_of : List Term → List ℤ
factors_of terms = map (λ t. t.factor) terms

-- z = 0, and so is each number
abbrev pub is_zero : ℤ → Bool
is_zero (pos zero) = true
is_zero (pos (suc n)) = false
is_zero (negsuc n) = false

abbrev pub are_zero : List ℤ → Bool
are_zero [] = true
are_zero (x ∷ xs) = if is_zero x then are_zero xs else false

abbrev pub is_negative : ℤ → Bool
is_negative (pos n) = false
is_negative (negsuc n) = true

-- the divisor divides each number
abbrev pub are_multiples : ℤ → List ℤ → Bool
are_multiples d [] = true
are_multiples d (x ∷ xs) = if is_zero (remainder x d) then are_multiples d xs else false

-- each number over the divisor, the constant rounded down
abbrev pub divided : ℤ → Affine → Affine
divided d f = form_of (floors d f.coefficients) (floor f.constant d)

-- no coefficient, and a negative constant
abbrev pub is_contradiction : Affine → Bool
is_contradiction f = if are_zero f.coefficients then is_negative f.constant else false

-- a number that 128 bits do not hold is the fault Wide
abbrev pub held : {A : Type 0} → Result A Wide → Result A Fault
held (Ok x) = Ok x
held (Err w) = Err fault.Wide

-- the sum of the rows that terms name, over n variables, if each names one: the products first, then the sums
abbrev pub sum_said : ℕ → List Term → Option (List Affine) → Result Affine Fault
sum_said n terms None = Err fault.Row
sum_said n terms (Some gs) = held (compose_run (form_of (factors_of terms) (pos 0)) gs n)

-- that sum divided, if the divisor divides its coefficients
abbrev pub quotient_said : ℤ → Result Affine Fault → Result Affine Fault
quotient_said d (Err e) = Err e
quotient_said d (Ok f) = if are_multiples d f.coefficients then Ok (divided d f) else Err fault.Division

-- the row that a line adds to those before it
abbrev pub row_said : ℕ → List Affine → Step → Result Affine Fault
row_said n rows s = quotient_said s.divisor (sum_said n s.terms (named rows s.terms))

-- a fault and the number of its line; that of the goal itself is 0
pub record Told : Type 0 where
  pub fault : Fault
  pub line : ℕ

abbrev pub told_at : Fault → ℕ → Told
told_at f k = record { fault = f; line = k }

-- what follows behind a row, if there is one: the fault of line k
abbrev pub then_row : ℕ → Result Affine Fault → (Affine → Result Bool Told) → Result Bool Told
then_row k (Err f) next = Err (told_at f k)
then_row k (Ok g) next = next g

-- lines behind k others, the last of which was a contradiction or not, over the rows so far
abbrev pub derived : ℕ → ℕ → Bool → List Affine → List Step → Result Bool Told
derived n k ended rows [] = if ended then Ok true else Err (told_at fault.Goal k)
derived n k ended rows (l ∷ lines) =
    then_row (suc k) (row_said n rows l) (λ g. derived n (suc k) (is_contradiction g) (rows ++ g ∷ []) lines)

-- the fault that a call's stop is; want of memory is none
abbrev pub fault_of : LineStop → Option Fault
fault_of (stop.Faulty f) = Some f
fault_of stop.NoMemory = None

-- a divisor and factors of at least 1
pub record IsLine (s : Step) : Type 0 where
  pub divisor : pos 1 ≤ℤ s.divisor
  pub factors : All (λ t. pos 1 ≤ℤ t.factor) s.terms

-- A derivation without the lines that nothing needs: those that are kept name rows by new numbers.

-- a step with its rows' numbers changed
abbrev pub renumbered : (ℕ → ℕ) → Step → Step
renumbered at s =
    record { divisor = s.divisor; terms = map (λ t. record { row = at t.row; factor = t.factor }) s.terms }

-- the same but at one number
abbrev pub moved : {A : Type 0} → (ℕ → A) → ℕ → A → ℕ → A
moved at k v j = if nat_eq j k then v else at j

-- of n rows the own ones, counted from 1
abbrev pub is_own : ℕ → ℕ → Bool
is_own n zero = false
is_own n (suc k) = nat_lt k n

-- the marked steps behind so many rows, of which the new derivation has so many
abbrev pub pruned : ℕ → ℕ → (ℕ → ℕ) → List Bool → List Step → List Step
pruned old new at [] steps = []
pruned old new at (mark ∷ marks) [] = []
pruned old new at (true ∷ marks) (s ∷ steps) =
    renumbered at s ∷ pruned (suc old) (suc new) (moved at (suc old) (suc new)) marks steps
pruned old new at (false ∷ marks) (s ∷ steps) = pruned (suc old) new at marks steps

-- each marked step names rows that are kept alone; the last step is marked
abbrev pub AreClosed : ℕ → (ℕ → Bool) → List Bool → List Step → Type 0
AreClosed old kept [] [] = ⊤
AreClosed old kept [] (s ∷ steps) = ⊥
AreClosed old kept (mark ∷ marks) [] = ⊥
AreClosed old kept (true ∷ marks) (s ∷ steps) =
    All (λ t. kept t.row ≡ true) s.terms × AreClosed (suc old) (moved kept (suc old) true) marks steps
AreClosed old kept (false ∷ marks) (s ∷ steps) = (marks ≡ [] → ⊥) × AreClosed (suc old) kept marks steps
