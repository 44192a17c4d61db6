-- Runs over joined lists, and the first form with the variable.
use Rattle.whole_numbers.proofs.Common.{◌≡◌, ℕ, suc, ◌<◌, ◌≤◌, Bool, true, false, List, [], ◌∷◌, ◌++◌, length, get_or}
use Rattle.whole_numbers.proofs.Common.{take, drop, refl, sym, ◌∙◌, ap, append_assoc, arith, map, Result, Ok, Err, Some}
use Rattle.whole_numbers.proofs.Common.{None, map-append, Affine}
use Rattle.std.proofs.lemmas.List.{append-nil}
use Rattle.whole_numbers.specs.Content.{lowest_of_form}
use Rattle.fractions.specs.Elimination.{coefficient_of, is_zero, is_not_zero, chosen, first_with, in_front}
use Rattle.fractions.proofs.ChosenRows.{chosen-append}
use Rattle.affine_forms.specs.declared.stop.FormStop.{FormStop}
use Rattle.affine_forms.specs.declared.stop.FormStop.TheVariants as stop
use Rattle.affine_forms.specs.Gives.{Fails}
use Rattle.wide_math.specs.declared.Wide.{Wide}
use Rattle.wide_math.specs.Checked.{◌>>=◌}
use Rattle.fm_projection.specs.Runs.{forms_run, reduced_run, reduced_all_run, behind, place_of}

-- a run over a joined list is the two runs one behind the other
pub forms_run-append : (out new : List Affine) (step : Affine → Result Affine Wide) (fs gs : List Affine)
    → behind out (forms_run step fs) ≡ Ok new → behind out (forms_run step (fs ++ gs))
    ≡ behind new (forms_run step gs)
forms_run-append out new step [] gs h =
    let e : out ++ [] ≡ new = cc in
    ap (λ (zs : List Affine). behind zs (forms_run step gs)) (sym (append-nil out) ∙ e)
forms_run-append out new step (f ∷ fs) gs h = first (step f)
    (λ z. forms_run-append (out ++ z ∷ []) new step fs gs) h
  where
    first : (r : Result Affine Wide)
        → ((z : Affine) → behind (out ++ z ∷ []) (forms_run step fs) ≡ Ok new
        → behind (out ++ z ∷ []) (forms_run step (fs ++ gs)) ≡ behind new (forms_run step gs))
        → behind out (r >>= λ z. forms_run step fs >>= λ zs. Ok (z ∷ zs)) ≡ Ok new
        → behind out (r >>= λ z. forms_run step (fs ++ gs) >>= λ zs. Ok (z ∷ zs)) ≡ behind new (forms_run step gs)
    first (Err w) more k = cc
    first (Ok z) more k = sym (moved (forms_run step (fs ++ gs))) ∙ more z (moved (forms_run step fs) ∙ k)
      where
        moved : (r : Result (List Affine) Wide) → behind (out ++ z ∷ []) r ≡ behind out (r >>= λ zs. Ok (z ∷ zs))
        moved (Ok zs) = ap Ok (append_assoc out (z ∷ []) zs)
        moved (Err w) = refl

pub forms_run-stop : (step : Affine → Result Affine Wide) (fs gs : List Affine) (w : Wide)
    → forms_run step fs ≡ Err w → forms_run step (fs ++ gs) ≡ Err w
forms_run-stop step [] gs w h = cc
forms_run-stop step (f ∷ fs) gs w h = first (step f) (forms_run-stop step fs gs w) h
  where
    rest : (r s : Result (List Affine) Wide) (z : Affine) → (r ≡ Err w → s ≡ Err w) → (r >>= λ zs. Ok (z ∷ zs))
        ≡ Err w → (s >>= λ zs. Ok (z ∷ zs)) ≡ Err w
    rest (Ok zs) s z more k = cc
    rest (Err v) s z more k = let e : s ≡ Err w = more k in rw e refl

    first : (r : Result Affine Wide) → (forms_run step fs ≡ Err w → forms_run step (fs ++ gs) ≡ Err w)
        → (r >>= λ z. forms_run step fs >>= λ zs. Ok (z ∷ zs)) ≡ Err w
        → (r >>= λ z. forms_run step (fs ++ gs) >>= λ zs. Ok (z ∷ zs)) ≡ Err w
    first (Err v) more k = k
    first (Ok z) more k = rest (forms_run step fs) (forms_run step (fs ++ gs)) z more k

-- the forms before and behind the equality, all without the variable first
pub reduced_parts : (i : ℕ) (e : Affine) (before after out new : List Affine)
    → out ≡ map lowest_of_form (chosen is_zero i before) ++ map lowest_of_form (chosen is_zero i after)
    → behind out (forms_run (reduced_run i e) (chosen is_not_zero i before)) ≡ Ok new
    → reduced_all_run i e (before ++ after) ≡ behind new (forms_run (reduced_run i e) (chosen is_not_zero i after))
reduced_parts i e before after out new kept first =
    let step = reduced_run i e in
    let front : map lowest_of_form (chosen is_zero i (before ++ after)) ≡ out =
    ap (map lowest_of_form) (chosen-append is_zero i before after)
    ∙ map-append lowest_of_form (chosen is_zero i before) (chosen is_zero i after) ∙ sym kept in
    ap (λ (zs : List Affine). behind zs (forms_run step (chosen is_not_zero i (before ++ after)))) front
    ∙ ap (λ (zs : List Affine). behind out (forms_run step zs)) (chosen-append is_not_zero i before after)
    ∙ forms_run-append out new step (chosen is_not_zero i before) (chosen is_not_zero i after) first

pub reduced_parts-stop : (i : ℕ) (e : Affine) (before after : List Affine) (stop : FormStop)
    → Fails stop (forms_run (reduced_run i e) (chosen is_not_zero i before))
    → Fails stop (reduced_all_run i e (before ++ after))
reduced_parts-stop i e before after stop.NoMemory h = tt
reduced_parts-stop i e before after (stop.Wide w) h =
    let step = reduced_run i e in
    let run = forms_run-stop step (chosen is_not_zero i before) (chosen is_not_zero i after) w h in
    let all : forms_run step (chosen is_not_zero i (before ++ after))
    ≡ Err w = ap (forms_run step) (chosen-append is_not_zero i before after) ∙ run in
    rw all refl

-- a chain stops as its first step does
pub chain-stop : {A B : Type 0} (stop : FormStop) (run : Result A Wide) (f : A → Result B Wide) → Fails stop run
    → Fails stop (run >>= f)
chain-stop stop.NoMemory run f h = tt
chain-stop (stop.Wide w) run f h = rw h refl

-- the first form with the variable stands at its place, the others round it
abbrev Taken : ℕ → List Affine → Affine → Type 0
Taken i es f = first_with i es ≡ Some
    (get_or es (place_of i es) f, take (place_of i es) es ++ drop (suc (place_of i es)) es)

place_step : (i : ℕ) (e : Affine) (es : List Affine) (f : Affine) (b : Bool) → is_zero (coefficient_of i e) ≡ b
    → (place_of i es < length es → Taken i es f) → place_of i (e ∷ es) < length (e ∷ es) → Taken i (e ∷ es) f
place_step i e es f true free more h =
    let less : place_of i es < length es = let k = rw free at h in omega (arith, k) in
    rw free (ap (in_front e) (more less))
place_step i e es f false other more h = rw other refl

pub first_with_place : (i : ℕ) (es : List Affine) (f : Affine) → place_of i es < length es → Taken i es f
first_with_place i [] f h = absurd (omega arith)
first_with_place i (e ∷ es) f h = place_step i e es f (is_zero (coefficient_of i e)) refl
    (first_with_place i es f) h

none_step : (i : ℕ) (e : Affine) (es : List Affine) (b : Bool) → is_zero (coefficient_of i e) ≡ b
    → (length es ≤ place_of i es → first_with i es ≡ None) → length (e ∷ es) ≤ place_of i (e ∷ es)
    → first_with i (e ∷ es) ≡ None
none_step i e es true free more h =
    let less : length es ≤ place_of i es = let k = rw free at h in omega (arith, k) in
    rw free (ap (in_front e) (more less))
none_step i e es false other more h = let k = rw other at h in absurd (omega (arith, k))

pub first_with_none : (i : ℕ) (es : List Affine) → length es ≤ place_of i es → first_with i es ≡ None
first_with_none i [] h = refl
first_with_none i (e ∷ es) h = none_step i e es (is_zero (coefficient_of i e)) refl (first_with_none i es) h
