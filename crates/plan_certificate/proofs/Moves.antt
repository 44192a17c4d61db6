-- What a loop over moves keeps: what comes of the rest is what comes of all, and the rows grow.
use Rattle.scop_syntax.proofs.Common.{◌≡◌, ℕ, zero, suc, ◌+◌, ◌-◌, ◌<◌, Bool, true, false, List, [], ◌∷◌, ◌++◌, length}
use Rattle.scop_syntax.proofs.Common.{get_or, drop, drop-cons, add-one, refl, sym, ◌∙◌, ap, subst, arith, append_assoc}
use Rattle.scop_syntax.proofs.Common.{pos, nat_le, if◌then◌else◌, All-append, Affine, form_of, content}
use Rattle.affine_forms.specs.Parts.{variables_of}
use Rattle.plan_certificate.specs.Derivation.{State, Outcome, goes, and_then, row_of, times, with_terms, divided_from}
use Rattle.plan_certificate.specs.Derivation.{pair, pairs_with, pairs, eliminated, all_eliminated}
use Rattle.plan_certificate.specs.steps.States.{Grows, divided_one}

pub grows_then : (n : ℕ) (first mid last : List Affine) → Grows n first mid → Grows n mid last → Grows n first last
grows_then n first mid last a b = record {
  more = a.more ++ b.more;
  is = b.is ∙ (ap (λ (xs : List Affine). xs ++ b.more) a.is ∙ append_assoc first a.more b.more);
  sized = All-append (λ f. variables_of f ≡ n) a.more b.more a.sized b.sized;
}

-- an element more of a list that a loop goes along
next_of : (xs : List ℕ) (at : ℕ) → at < length xs → drop at xs ≡ get_or xs at 0 ∷ drop (suc at) xs
next_of xs at lt = drop-cons xs at 0 lt

pub each_goes : (n v p at : ℕ) (below : List ℕ) (s t : State) (whole : Outcome) → at < length below
    → pairs_with n v p (drop at below) s ≡ whole → pair n v p (get_or below at 0) s ≡ goes t
    → pairs_with n v p (drop (at + 1) below) t ≡ whole
each_goes n v p at below s t whole lt h e =
    let a = subst (λ (xs : List ℕ). pairs_with n v p xs s ≡ whole) (next_of below at lt) h in
    let b = subst (λ (o : Outcome). and_then o (pairs_with n v p (drop (suc at) below)) ≡ whole) e a in
    subst (λ (k : ℕ). pairs_with n v p (drop k below) t ≡ whole) (sym (add-one at)) b

pub all_goes : (n v at : ℕ) (above below : List ℕ) (s t : State) (whole : Outcome) → at < length above
    → pairs n v (drop at above) below s ≡ whole → pairs_with n v (get_or above at 0) below s ≡ goes t
    → pairs n v (drop (at + 1) above) below t ≡ whole
all_goes n v at above below s t whole lt h e =
    let a = subst (λ (xs : List ℕ). pairs n v xs below s ≡ whole) (next_of above at lt) h in
    let b = subst (λ (o : Outcome). and_then o (pairs n v (drop (suc at) above) below) ≡ whole) e a in
    subst (λ (k : ℕ). pairs n v (drop k above) below t ≡ whole) (sym (add-one at)) b

pub variable_goes : (n v : ℕ) (s t : State) (whole : Outcome) → v < n → all_eliminated n v (n - v) s ≡ whole
    → eliminated n v s ≡ goes t → all_eliminated n (v + 1) (n - (v + 1)) t ≡ whole
variable_goes n v s t whole lt h e =
    let size : n - v ≡ suc (n - (v + 1)) = omega (arith, lt) in
    let a = subst (λ (k : ℕ). all_eliminated n v k s ≡ whole) size h in
    let b = subst (λ (o : Outcome). and_then o (all_eliminated n (suc v) (n - (v + 1))) ≡ whole) e a in
    subst (λ (k : ℕ). all_eliminated n k (n - (v + 1)) t ≡ whole) (sym (add-one v)) b

divided_step : (n at : ℕ) (f : Affine) (fs : List Affine) (s : State)
    → divided_from n at (f ∷ fs) s ≡ and_then (divided_one n at f s) (divided_from n (suc at) fs)
divided_step n at f fs s = by (nat_le (content f.coefficients) 1)
  where
    by : (b : Bool) → (
        if b then divided_from n (suc at) fs (record s { going = s.going ++ at ∷ [] })
        else and_then (with_terms n s (times at 1 ∷ [])) (divided_from n (suc at) fs)
        )
        ≡ and_then (if b then goes (record s { going = s.going ++ at ∷ [] })
        else with_terms n s (times at 1 ∷ [])) (divided_from n (suc at) fs)
    by true = refl
    by false = refl

row_front : (rows more : List Affine) (at : ℕ) → at < length rows → row_of (rows ++ more) at ≡ row_of rows at
row_front [] more at h = absurd (omega (arith, h))
row_front (r ∷ rows) more zero h = refl
row_front (r ∷ rows) more (suc at) h = row_front rows more at (omega (arith, h))

pub divided_next : (n at : ℕ) (rows more now : List Affine) (s : State) (o whole : Outcome) → at < length rows
    → now ≡ rows ++ more → divided_from n at (drop at rows) s ≡ whole → divided_one n at (row_of now at) s ≡ o
    → and_then o (divided_from n (suc at) (drop (suc at) rows)) ≡ whole
divided_next n at rows more now s o whole lt is h e =
    let row : row_of now at ≡ row_of rows at = ap (λ (fs : List Affine). row_of fs at) is ∙ row_front rows more at lt in
    let own = subst (λ (f : Affine). divided_one n at f s ≡ o) row e in
    let a = subst (λ (fs : List Affine). divided_from n at fs s ≡ whole)
    (drop-cons rows at (form_of [] (pos 0)) lt) h in
    let b = sym (divided_step n at (row_of rows at) (drop (suc at) rows) s) ∙ a in
    subst (λ (p : Outcome). and_then p (divided_from n (suc at) (drop (suc at) rows)) ≡ whole) own b

pub divided_goes : (n at : ℕ) (rows more now : List Affine) (s t : State) (whole : Outcome) → at < length rows
    → now ≡ rows ++ more → divided_from n at (drop at rows) s ≡ whole → divided_one n at (row_of now at) s ≡ goes t
    → divided_from n (at + 1) (drop (at + 1) rows) t ≡ whole
divided_goes n at rows more now s t whole lt is h e =
    subst (λ (k : ℕ). divided_from n k (drop k rows) t ≡ whole) (sym (add-one at))
    (divided_next n at rows more now s (goes t) whole lt is h e)
