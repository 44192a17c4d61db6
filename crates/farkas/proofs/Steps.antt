-- The loops, step by step.
use Rattle.whole_numbers.proofs.Common.{◌≡◌, ℕ, zero, suc, ◌+◌, ◌<◌, ℤ, pos, List, [], ◌∷◌, ◌++◌, length, get_or, drop}
use Rattle.whole_numbers.proofs.Common.{set, refl, sym, ◌∙◌, ap, ap₂, subst, arith, append_assoc, add-one, drop-cons}
use Rattle.whole_numbers.proofs.Common.{Result, Ok, Err, Affine, form_of, zeros}
use Rattle.wide_math.specs.declared.Wide.{Wide}
use Rattle.wide_math.specs.Checked.{difference_of, ◌>>=◌}
use Rattle.fractions.specs.Farkas.{own_rows}
use Rattle.integer_sets.specs.Constraints.{Constraints}
use Rattle.farkas.specs.declared.matching.Entry.{Entry}
use Rattle.farkas.specs.declared.matching.Entry.TheVariants as entry
use Rattle.farkas.specs.Claims.{only}
use Rattle.farkas.specs.Matching.{entry_of, equality_columns_run, row_columns_run, matched_run, coefficients_run}
use Rattle.affine_forms.specs.declared.stop.FormStop.{FormStop}
use Rattle.affine_forms.specs.declared.stop.FormStop.TheVariants as form_stop
use Rattle.affine_forms.specs.Gives.{Fails}
use Rattle.farkas.specs.steps.Questions.{with_more}

-- what stands in front does not stop a run
pub with_more-err : {X : Type 0} (front : List X) (run : Result (List X) Wide) (w : Wide) → with_more front run ≡ Err w
    → run ≡ Err w
with_more-err front (Ok more) w h = cc
with_more-err front (Err v) w h = let same : v ≡ w = cc in ap (λ u. Err u) same

pub with_more-ok : {X : Type 0} (front new : List X) (run : Result (List X) Wide) → with_more front run ≡ Ok new
    → (more : List X) × (run ≡ Ok more) × (new ≡ front ++ more)
with_more-ok front new (Ok more) h = let same : front ++ more ≡ new = cc in (more, refl, sym same)
with_more-ok front new (Err v) h = cc

pub with_more-step : {X : Type 0} (front : List X) (x : X) (run : Result (List X) Wide)
    → with_more front (run >>= λ xs. Ok (x ∷ xs)) ≡ with_more (front ++ x ∷ []) run
with_more-step front x (Ok more) = ap (λ zs. Ok zs) (sym (append_assoc front (x ∷ []) more))
with_more-step front x (Err v) = refl

taken : (rows : List Affine) (i : ℕ) (f : Affine) → i < length rows → f ≡ get_or rows i f
    → drop i rows ≡ f ∷ drop (suc i) rows
taken rows i f inside is = drop-cons rows i f inside ∙ ap (λ (g : Affine). g ∷ drop (suc i) rows) (sym is)

pub row_stop : (e : Entry) (rows : List Affine) (i : ℕ) (f : Affine) (w : Wide) → i < length rows
    → f ≡ get_or rows i f → difference_of (pos 0) (entry_of e f) ≡ Err w → row_columns_run e (drop i rows) ≡ Err w
row_stop e rows i f w inside is h =
    ap (λ (fs : List Affine). row_columns_run e fs) (taken rows i f inside is)
    ∙ ap (λ (r : Result ℤ Wide). r >>= λ b. row_columns_run e (drop (suc i) rows) >>= λ bs. Ok (b ∷ bs)) h

pub row_more : (e : Entry) (rows : List Affine) (i : ℕ) (f : Affine) (b : ℤ) (front : List ℤ) (all : Result (List ℤ)
    Wide)
    → i < length rows → f ≡ get_or rows i f → difference_of (pos 0) (entry_of e f) ≡ Ok b
    → with_more front (row_columns_run e (drop i rows)) ≡ all
    → with_more (front ++ b ∷ []) (row_columns_run e (drop (i + 1) rows)) ≡ all
row_more e rows i f b front all inside is made h =
    ap (λ (j : ℕ). with_more (front ++ b ∷ []) (row_columns_run e (drop j rows))) (add-one i)
    ∙ sym (with_more-step front b (row_columns_run e (drop (suc i) rows)))
    ∙ sym (ap (λ (r : Result ℤ Wide). with_more front (r >>= λ b. row_columns_run e (drop (suc i) rows) >>= λ bs. Ok
    (b ∷ bs))) made)
    ∙ sym (ap (λ (fs : List Affine). with_more front (row_columns_run e fs)) (taken rows i f inside is)) ∙ h

with_more-two : {X : Type 0} (front : List X) (x y : X) (run : Result (List X) Wide)
    → with_more front (run >>= λ xs. Ok (x ∷ y ∷ xs)) ≡ with_more (front ++ x ∷ y ∷ []) run
with_more-two front x y (Ok more) = ap (λ zs. Ok zs) (sym (append_assoc front (x ∷ y ∷ []) more))
with_more-two front x y (Err v) = refl

pub equality_more : (e : Entry) (rows : List Affine) (i : ℕ) (f : Affine) (b : ℤ) (front : List ℤ) (all : Result
    (List ℤ) Wide)
    → i < length rows → f ≡ get_or rows i f → difference_of (pos 0) (entry_of e f) ≡ Ok b
    → with_more front (equality_columns_run e (drop i rows)) ≡ all
    → with_more (front ++ b ∷ entry_of e f ∷ []) (equality_columns_run e (drop (i + 1) rows)) ≡ all
equality_more e rows i f b front all inside is made h =
    ap (λ (j : ℕ). with_more (front ++ b ∷ entry_of e f ∷ []) (equality_columns_run e (drop j rows))) (add-one i)
    ∙ sym (with_more-two front b (entry_of e f) (equality_columns_run e (drop (suc i) rows)))
    ∙ sym (ap (λ (r : Result ℤ Wide). with_more front (r >>= λ b. equality_columns_run e (drop (suc i) rows) >>= λ
    bs. Ok (b ∷ entry_of e f ∷ bs))) made)
    ∙ sym (ap (λ (fs : List Affine). with_more front (equality_columns_run e fs)) (taken rows i f inside is)) ∙ h

pub equality_stop : (e : Entry) (rows : List Affine) (i : ℕ) (f : Affine) (w : Wide) → i < length rows
    → f ≡ get_or rows i f → difference_of (pos 0) (entry_of e f) ≡ Err w → equality_columns_run e (drop i rows) ≡ Err w
equality_stop e rows i f w inside is h =
    ap (λ (fs : List Affine). equality_columns_run e fs) (taken rows i f inside is)
    ∙ ap (λ (r : Result ℤ Wide). r >>= λ b. equality_columns_run e (drop (suc i) rows) >>= λ bs. Ok (b ∷ entry_of e f
    ∷ bs)) h

-- a coefficient more
pub coefficient_more : (i : ℕ) (own : List ℤ) (owns : List (List ℤ)) (s : Constraints) (front : List Affine)
    (f : Affine) (all : Result (List Affine) Wide) → matched_run (entry.Coefficient i) own (pos 0) s ≡ Ok f
    → with_more front (coefficients_run i (own ∷ owns) s) ≡ all
    → with_more (front ++ f ∷ []) (coefficients_run (suc i) owns s) ≡ all
coefficient_more i own owns s front f all made h =
    sym (with_more-step front f (coefficients_run (suc i) owns s))
    ∙ sym (ap (λ (r : Result Affine Wide). with_more front (r >>= λ g. coefficients_run (suc i) owns s >>= λ gs.
    Ok (g ∷ gs))) made)
    ∙ h

pub coefficient_fails : (stop : FormStop) (i : ℕ) (own : List ℤ) (owns : List (List ℤ)) (s : Constraints)
    (front old : List Affine) (run : Result (List Affine) Wide)
    → Fails stop (matched_run (entry.Coefficient i) own (pos 0) s)
    → with_more front (coefficients_run i (own ∷ owns) s) ≡ with_more old run → Fails stop run
coefficient_fails (form_stop.Wide w) i own owns s front old run made h =
    with_more-err old run w (sym h ∙ ap (λ (r : Result Affine Wide). with_more front (r >>= λ g.
    coefficients_run (suc i) owns s >>= λ gs. Ok (g ∷ gs))) made)
coefficient_fails form_stop.NoMemory i own owns s front old run made h = tt

-- two runs of coefficients, one behind the other
pub coefficients_append : (i : ℕ) (xs ys : List (List ℤ)) (s : Constraints)
    → coefficients_run i (xs ++ ys) s
    ≡ (coefficients_run i xs s >>= λ fs. coefficients_run (i + length xs) ys s >>= λ gs. Ok (fs ++ gs))
coefficients_append i [] ys s =
    ap (λ (j : ℕ). coefficients_run j ys s) (let e : i ≡ i + 0 = omega arith in e) ∙ sym (unchanged (coefficients_run
    (i + 0) ys s))
  where
    unchanged : (r : Result (List Affine) Wide) → (r >>= λ gs. Ok ([] ++ gs)) ≡ r
    unchanged (Ok gs) = refl
    unchanged (Err w) = refl
coefficients_append i (x ∷ xs) ys s =
    ap (λ (r : Result (List Affine) Wide). matched_run (entry.Coefficient i) x (pos 0) s >>= λ f. r >>= λ fs. Ok (f ∷
    fs))
    (coefficients_append (suc i) xs ys s ∙ ap (λ (j : ℕ). coefficients_run (suc i) xs s >>= λ fs. coefficients_run j
    ys s >>= λ gs. Ok (fs ++ gs)) (let e : suc i + length xs ≡ i + suc (length xs) = omega arith in e))
    ∙ by_first (matched_run (entry.Coefficient i) x (pos 0) s) (coefficients_run (suc i) xs s) (coefficients_run (i +
    suc (length xs)) ys s)
  where
    by_first : (a : Result Affine Wide) (b c : Result (List Affine) Wide)
        → (a >>= λ f. (b >>= λ fs. c >>= λ gs. Ok (fs ++ gs)) >>= λ fs. Ok (f ∷ fs))
        ≡ ((a >>= λ f. b >>= λ fs. Ok (f ∷ fs)) >>= λ fs. c >>= λ gs. Ok (fs ++ gs))
    by_first (Ok f) (Ok fs) (Ok gs) = refl
    by_first (Ok f) (Ok fs) (Err w) = refl
    by_first (Ok f) (Err w) c = refl
    by_first (Err w) b c = refl

-- an own row more
own_row_is : (b n : ℕ) → set (zeros (b + suc n)) b (pos 1) ≡ zeros b ++ pos 1 ∷ zeros n
own_row_is zero n = ap (λ (j : ℕ). set (zeros j) 0 (pos 1)) (let e : 0 + suc n ≡ suc n = omega arith in e)
own_row_is (suc b) n =
    ap (λ (j : ℕ). set (zeros j) (suc b) (pos 1)) (let e : suc b + suc n ≡ suc (b + suc n) = omega arith in e)
    ∙ ap (λ (zs : List ℤ). pos 0 ∷ zs) (own_row_is b n)

pub own_rows_more : (v b i n m : ℕ) (front all : List Affine) (f : Affine) → v ≡ b + i + n → n ≡ suc m
    → f ≡ form_of (only v (b + i) (pos 1)) (pos 0) → front ++ own_rows (b + i) n ≡ all
    → (front ++ f ∷ []) ++ own_rows (b + (i + 1)) m ≡ all
own_rows_more v b i n m front all f size count is h =
    let all_places : v ≡ (b + i) + suc m = omega arith in
    let own = is ∙ ap (λ (j : ℕ). form_of (set (zeros j) (b + i) (pos 1)) (pos 0)) all_places
    ∙ ap (λ (zs : List ℤ). form_of zs (pos 0)) (own_row_is (b + i) m) in
    let at : b + (i + 1) ≡ (b + i) + 1 = omega arith in
    append_assoc front (f ∷ []) (own_rows (b + (i + 1)) m)
    ∙ ap₂ (λ (g : Affine) (j : ℕ). front ++ (g ∷ own_rows j m)) own at
    ∙ subst (λ (j : ℕ). front ++ own_rows (b + i) j ≡ all) count h
