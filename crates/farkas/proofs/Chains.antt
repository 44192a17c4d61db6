-- Runs that may halt, one step after another.
use Rattle.whole_numbers.proofs.Common.{◌≡◌, ℕ, ◌≤◌, Bool, true, false, refl, ap, ◌∙◌, sym, arith, Result, Ok, Err}
use Rattle.whole_numbers.proofs.Common.{nat_lt, if◌then◌else◌, ltb-true, lt-ltb}
use Rattle.wide_math.specs.declared.Wide.{Wide}
use Rattle.affine_forms.specs.declared.stop.FormStop.{FormStop}
use Rattle.affine_forms.specs.declared.stop.FormStop.TheVariants as form_stop
use Rattle.affine_forms.specs.Gives.{Fails}
use Rattle.integer_sets.specs.Constraints.{Constraints}
use Rattle.fm_projection.specs.Runs.{eliminated_run, pairs_in}
use Rattle.fm_projection.specs.Gives.{Eliminates}
use Rattle.fm_projection.specs.declared.stop.FmStop.{FmStop}
use Rattle.fm_projection.specs.declared.stop.FmStop.TheVariants as fm
use Rattle.pip_solver.specs.Nodes.{Counted}
use Rattle.pip_solver.specs.Emptiness.{empty_run}
use Rattle.pip_solver.specs.declared.stop.Stop.TheVariants as solver
use Rattle.pip_solver.specs.Promises.{Empties}
use Rattle.farkas.specs.declared.stuck.Stuck.TheVariants as stuck
use Rattle.farkas.specs.Run.{Halt, crowded, ◌>>◌, formed, eliminating, answer, emptiness}
use Rattle.farkas.specs.Gives.{Halts}
use Rattle.farkas.specs.steps.Questions.{stuck_of_form, stuck_of_elimination, stuck_of_solver}

pub then-ok : {A B : Type 0} (r : Result A Halt) (f : A → Result B Halt) (y : B) → r >> f ≡ Ok y
    → (x : A) × (r ≡ Ok x) × (f x ≡ Ok y)
then-ok (Ok x) f y h = (x, refl, h)
then-ok (Err e) f y h = cc

pub formed-ok : {A : Type 0} (r : Result A Wide) (x : A) → formed r ≡ Ok x → r ≡ Ok x
formed-ok (Ok y) x h = let same : y ≡ x = cc in ap (λ z. Ok z) same
formed-ok (Err w) x h = cc

-- a run that halts goes no further
pub halts-then : {A B : Type 0} (budget : ℕ) (e : stuck.the_data) (r : Result A Halt) (f : A → Result B Halt)
    → Halts budget e r → Halts budget e (r >> f)
halts-then budget (stuck.Elimination (fm.Wide w)) r f h = ap (λ q. q >> f) h
halts-then budget (stuck.Elimination (fm.Crowded n)) r f h = ap (λ q. q >> f) h
halts-then budget (stuck.Elimination (fm.Large n)) r f h = absurd h
halts-then budget (stuck.Elimination fm.NoMemory) r f h = absurd h
halts-then budget (stuck.Solver (solver.Wide posed moves)) r f h = (h.0, ap (λ q. q >> f) h.1, h.2)
halts-then budget (stuck.Solver (solver.Spent posed moves)) r f h = (h.0, ap (λ q. q >> f) h.1, h.2)
halts-then budget (stuck.Solver solver.NoMemory) r f h = absurd h
halts-then budget stuck.NoMemory r f h = tt

-- where a run is another's
pub halts-same : {A : Type 0} (budget : ℕ) (e : stuck.the_data) (r q : Result A Halt) → r ≡ q → Halts budget e r
    → Halts budget e q
halts-same budget (stuck.Elimination (fm.Wide w)) r q s h = sym s ∙ h
halts-same budget (stuck.Elimination (fm.Crowded n)) r q s h = sym s ∙ h
halts-same budget (stuck.Elimination (fm.Large n)) r q s h = h
halts-same budget (stuck.Elimination fm.NoMemory) r q s h = h
halts-same budget (stuck.Solver (solver.Wide posed moves)) r q s h = (h.0, sym s ∙ h.1, h.2)
halts-same budget (stuck.Solver (solver.Spent posed moves)) r q s h = (h.0, sym s ∙ h.1, h.2)
halts-same budget (stuck.Solver solver.NoMemory) r q s h = h
halts-same budget stuck.NoMemory r q s h = tt

-- a step that gave something goes on
pub halts-after : {A B : Type 0} (budget : ℕ) (e : stuck.the_data) (r : Result A Halt) (x : A) (f : A → Result B Halt)
    → r ≡ Ok x → Halts budget e (f x) → Halts budget e (r >> f)
halts-after budget e r x f h halts = halts-same budget e (f x) (r >> f) (sym (ap (λ q. q >> f) h)) halts

-- numbers that are too wide
pub halts-formed : {A : Type 0} (budget : ℕ) (stop : FormStop) (r : Result A Wide) → Fails stop r
    → Halts budget (stuck_of_form stop) (formed r)
halts-formed budget (form_stop.Wide w) r h = ap (λ q. formed q) h
halts-formed budget form_stop.NoMemory r h = tt

-- an elimination
chosen-false : (b : Bool) (n : ℕ) (r : Result Constraints Halt) → b ≡ false → (if b then Err (crowded n) else r) ≡ r
chosen-false b n r h = rw h refl

chosen-true : (b : Bool) (n : ℕ) (r : Result Constraints Halt) → b ≡ true
    → (if b then Err (crowded n) else r) ≡ Err (crowded n)
chosen-true b n r h = rw h refl

not_below : (a b : ℕ) (x : Bool) → nat_lt a b ≡ x → b ≤ a → x ≡ false
not_below a b true h le = let s = ltb-true a b h in absurd (omega arith)
not_below a b false h le = refl

pub eliminating-ok : (i : ℕ) (s t : Constraints) → pairs_in i s ≤ 4096 → eliminated_run i s ≡ Ok t
    → eliminating i s ≡ Ok t
unfolding eliminating
eliminating-ok i s t few run =
    chosen-false (nat_lt 4096 (pairs_in i s)) (pairs_in i s) (formed (eliminated_run i s))
    (not_below 4096 (pairs_in i s) (nat_lt 4096 (pairs_in i s)) refl few)
    ∙ ap (λ q. formed q) run

pub eliminated-ok : (i : ℕ) (s t : Constraints) → eliminating i s ≡ Ok t → eliminated_run i s ≡ Ok t
unfolding eliminating
eliminated-ok i s t h = by_test (nat_lt 4096 (pairs_in i s)) h
  where
    by_test : (b : Bool) → (if b then Err (crowded (pairs_in i s)) else formed (eliminated_run i s)) ≡ Ok t
        → eliminated_run i s ≡ Ok t
    by_test true h = cc
    by_test false h = formed-ok (eliminated_run i s) t h

pub halts-eliminating : (budget i : ℕ) (s : Constraints) (stop : FmStop) → Eliminates i s (Err stop)
    → Halts budget (stuck_of_elimination stop) (eliminating i s)
unfolding eliminating
halts-eliminating budget i s (fm.Wide w) h =
    chosen-false (nat_lt 4096 (pairs_in i s)) (pairs_in i s) (formed (eliminated_run i s))
    (not_below 4096 (pairs_in i s) (nat_lt 4096 (pairs_in i s)) refl h.0)
    ∙ ap (λ q. formed q) h.1
halts-eliminating budget i s (fm.Crowded n) h =
    chosen-true (nat_lt 4096 (pairs_in i s)) (pairs_in i s) (formed (eliminated_run i s)) (lt-ltb 4096 (pairs_in i s)
    h.0)
    ∙ ap (λ m. Err (crowded m)) (sym h.1)
halts-eliminating budget i s (fm.Large number) h = h
halts-eliminating budget i s fm.NoMemory h = tt

-- a question
pub emptiness-ok : (budget : ℕ) (s : Constraints) (empty : Bool) → Empties (Ok empty) budget s
    → emptiness budget s ≡ Ok empty
unfolding emptiness
emptiness-ok budget s empty h = ap (λ q. answer s q) h.1

pub emptiness-run : (budget : ℕ) (s : Constraints) (empty : Bool) → emptiness budget s ≡ Ok empty
    → (left : ℕ) × (empty_run budget s ≡ Ok (empty, left))
unfolding emptiness
emptiness-run budget s empty h = by_run (empty_run budget s) refl h
  where
    by_run : (q : Counted Bool) → empty_run budget s ≡ q → answer s q ≡ Ok empty
        → (left : ℕ) × (empty_run budget s ≡ Ok (empty, left))
    by_run (Ok counted) is h =
        let same : counted.0 ≡ empty = cc in
        (counted.1, is ∙ ap (λ b. Ok (b, counted.1)) same)
    by_run (Err stop) is h = cc

pub halts-emptiness : (budget : ℕ) (s : Constraints) (stop : solver.the_data) → Empties (Err stop) budget s
    → Halts budget (stuck_of_solver stop) (emptiness budget s)
unfolding emptiness
halts-emptiness budget s (solver.Wide posed moves) h = (s, ap (λ q. answer s q) h.2, h)
halts-emptiness budget s (solver.Spent posed moves) h = (s, ap (λ q. answer s q) h.0, h)
halts-emptiness budget s solver.NoMemory h = tt
