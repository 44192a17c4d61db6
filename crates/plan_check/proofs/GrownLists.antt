-- Lists that loops make from others: the entry at a place (`here`), one entry more, and all of them.
use Rattle.scop_syntax.proofs.Common.{◌≡◌, ◌∙◌, ap, sym, refl, ℕ, ◌+◌, ◌<◌, ◌≤◌, List, [], ◌∷◌, ◌++◌, drop, get_or}
use Rattle.scop_syntax.proofs.Common.{length, map, add-one, append-nil, append_assoc, drop-cons, drop_of_length-le}
use Rattle.scop_syntax.proofs.Common.{Option, Some, None, Affine, Result, Ok, Err, negsuc, get_or_default}
use Rattle.wide_math.specs.Checked.{◌>>=◌}
use Rattle.wide_math.specs.Gives.{IsTold}
use Rattle.wide_math.specs.declared.Wide.{Wide}
use Rattle.affine_forms.specs.Runs.{scaled_run}
use Rattle.plan_check.specs.Derivations.{behind, held, in_front, named, row_at}
use Rattle.plan_check.specs.Progress.{behind_run, both_run}
use Rattle.plan_check.specs.declared.lines.Fault.{Fault}
use Rattle.plan_check.specs.declared.lines.Fault.TheVariants as fault
use Rattle.plan_check.specs.declared.lines.Term.{Term}
use Rattle.plan_check.proofs.Progresses.{held_is}

-- the entry at a place, and those behind it
pub here : {A : Type 0} (xs : List A) (i : ℕ) (x : A) → i < length xs → x ≡ get_or xs i x
    → drop i xs ≡ x ∷ drop (i + 1) xs
here xs i x inside is =
    drop-cons xs i x inside
    ∙ (ap (λ k. get_or xs i x ∷ drop k xs) (sym (add-one i)) ∙ ap (λ y. y ∷ drop (i + 1) xs) (sym is))

-- a list made through a view
pub view_more : {A B C : Type 0} (f : B → C) (view : A → B) (xs : List A) (i : ℕ) (x : A) (y : C)
    (done next whole : List C) → i < length xs → x ≡ get_or xs i x → y ≡ f (view x) → next ≡ done ++ y ∷ []
    → done ++ map f (map view (drop i xs)) ≡ whole → next ++ map f (map view (drop (i + 1) xs)) ≡ whole
view_more {A = A} {C = C} f view xs i x y done next whole inside is made grown so_far =
    let rest = map f (map view (drop (i + 1) xs)) in
    ap (λ (ys : List C). ys ++ rest) grown
    ∙ (append_assoc done (y ∷ []) rest
    ∙ (ap (λ z. done ++ z ∷ rest) made
    ∙ (ap (λ (ys : List A). done ++ map f (map view ys)) (sym (here xs i x inside is)) ∙ so_far)))

pub view_end : {A B C : Type 0} (f : B → C) (view : A → B) (xs : List A) (i : ℕ) (done whole : List C)
    → length xs ≤ i → done ++ map f (map view (drop i xs)) ≡ whole → done ≡ whole
view_end {A = A} f view xs i done whole past so_far =
    sym (append-nil done)
    ∙ (ap (λ (ys : List A). done ++ map f (map view ys)) (sym (drop_of_length-le xs past)) ∙ so_far)

-- the rows that terms name: one that is missing, one more, and all of them
next_named : (rows : List Affine) (terms : List Term) (i : ℕ) (d : Term) (o : Option Affine) (found : List Affine)
    (whole : Option (List Affine)) → i < length terms → o ≡ row_at rows (get_or terms i d).row
    → behind found (named rows (drop i terms)) ≡ whole
    → behind found (in_front o (named rows (drop (i + 1) terms))) ≡ whole
next_named rows terms i d o found whole inside row so_far =
    let own = here terms i (get_or terms i d) inside (get_or_default terms i d _ inside) in
    ap (λ (p : Option Affine). behind found (in_front p (named rows (drop (i + 1) terms)))) row
    ∙ (ap (λ (ts : List Term). behind found (named rows ts)) (sym own) ∙ so_far)

pub named_stops : (rows : List Affine) (terms : List Term) (i : ℕ) (d : Term) (found : List Affine)
    (whole : Option (List Affine)) → i < length terms → None ≡ row_at rows (get_or terms i d).row
    → behind found (named rows (drop i terms)) ≡ whole → None ≡ whole
named_stops rows terms i d found whole inside row so_far =
    next_named rows terms i d None found whole inside row so_far

joined : (found : List Affine) (g : Affine) (o : Option (List Affine))
    → behind (found ++ g ∷ []) o ≡ behind found (in_front (Some g) o)
joined found g None = refl
joined found g (Some gs) = ap (λ (hs : List Affine). Some hs) (append_assoc found (g ∷ []) gs)

pub named_more : (rows : List Affine) (terms : List Term) (i : ℕ) (d : Term) (g : Affine) (found next : List Affine)
    (whole : Option (List Affine)) → i < length terms → Some g ≡ row_at rows (get_or terms i d).row
    → next ≡ found ++ g ∷ [] → behind found (named rows (drop i terms)) ≡ whole
    → behind next (named rows (drop (i + 1) terms)) ≡ whole
named_more rows terms i d g found next whole inside row grown so_far =
    let rest = named rows (drop (i + 1) terms) in
    ap (λ (gs : List Affine). behind gs rest) grown
    ∙ (joined found g rest ∙ next_named rows terms i d (Some g) found whole inside row so_far)

pub named_end : (rows : List Affine) (terms : List Term) (i : ℕ) (found : List Affine) (whole : Option (List Affine))
    → length terms ≤ i → behind found (named rows (drop i terms)) ≡ whole → Some found ≡ whole
named_end rows terms i found whole past so_far =
    ap (λ (gs : List Affine). Some gs) (sym (append-nil found))
    ∙ (ap (λ (ts : List Term). behind found (named rows ts)) (sym (drop_of_length-le terms past)) ∙ so_far)

-- equalities, each as two rows: one whose opposite stops, two rows more, and all of them
next_both : (es : List Affine) (i : ℕ) (e : Affine) (rows : List Affine) (whole : Result (List Affine) Wide)
    → i < length es → e ≡ get_or es i e → behind_run rows (both_run (drop i es)) ≡ whole
    → behind_run rows (scaled_run (negsuc 0) e >>= λ o. both_run (drop (i + 1) es) >>= λ os. Ok (e ∷ o ∷ os)) ≡ whole
next_both es i e rows whole inside is so_far =
    ap (λ (fs : List Affine). behind_run rows (both_run fs)) (sym (here es i e inside is)) ∙ so_far

halted : (rows : List Affine) (next : Affine → Result (List Affine) Wide) (r : Result Affine Wide)
    (whole : Result (List Affine) Wide) (o : Option Fault) → IsTold o (held r) → behind_run rows (r >>= next) ≡ whole
    → IsTold o (held whole)
halted rows next r whole None told so_far = tt
halted rows next (Ok g) whole (Some f) told so_far = absurd cc
halted rows next (Err w) whole (Some f) told so_far =
    let is : fault.Wide ≡ f = cc in
    ap (λ (q : Result (List Affine) Wide). held q) (sym so_far) ∙ ap (λ (g : Fault). Err g) is

pub both_stops : (es : List Affine) (i : ℕ) (e : Affine) (o : Option Fault) (rows : List Affine)
    (whole : Result (List Affine) Wide) → i < length es → e ≡ get_or es i e
    → IsTold o (held (scaled_run (negsuc 0) e)) → behind_run rows (both_run (drop i es)) ≡ whole
    → IsTold o (held whole)
both_stops es i e o rows whole inside is told so_far =
    halted rows _ (scaled_run (negsuc 0) e) whole o told (next_both es i e rows whole inside is so_far)

both_joined : (rows : List Affine) (e o : Affine) (run : Result (List Affine) Wide)
    → behind_run (rows ++ e ∷ o ∷ []) run ≡ behind_run rows (run >>= λ os. Ok (e ∷ o ∷ os))
both_joined rows e o (Err w) = refl
both_joined rows e o (Ok os) = ap (λ (fs : List Affine). Ok fs) (append_assoc rows (e ∷ o ∷ []) os)

pub both_more : (es : List Affine) (i : ℕ) (e o : Affine) (rows next : List Affine)
    (whole : Result (List Affine) Wide) → i < length es → e ≡ get_or es i e → held (scaled_run (negsuc 0) e) ≡ Ok o
    → next ≡ rows ++ e ∷ o ∷ [] → behind_run rows (both_run (drop i es)) ≡ whole
    → behind_run next (both_run (drop (i + 1) es)) ≡ whole
both_more es i e o rows next whole inside is told grown so_far =
    let run = both_run (drop (i + 1) es) in
    ap (λ (fs : List Affine). behind_run fs run) grown
    ∙ (both_joined rows e o run
    ∙ (ap (λ (r : Result Affine Wide). behind_run rows (r >>= λ q. run >>= λ os. Ok (e ∷ q ∷ os)))
    (sym (held_is (scaled_run (negsuc 0) e) o told)) ∙ next_both es i e rows whole inside is so_far))

pub both_end : (es : List Affine) (i : ℕ) (rows : List Affine) (whole : Result (List Affine) Wide) → length es ≤ i
    → behind_run rows (both_run (drop i es)) ≡ whole → held whole ≡ Ok rows
both_end es i rows whole past so_far =
    ap (λ (q : Result (List Affine) Wide). held q)
    (sym so_far ∙ ap (λ (fs : List Affine). behind_run rows (both_run fs)) (drop_of_length-le es past))
    ∙ ap (λ (fs : List Affine). Ok fs) (append-nil rows)
