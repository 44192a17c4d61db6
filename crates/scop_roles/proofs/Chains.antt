-- What holds along subscripts put on a place one by one, and along arguments (`makes_next`); what a place with
-- subscripts is.
use Rattle.scop_syntax.proofs.Common.{◌≡◌, ℕ, ◌+◌, ◌-◌, ◌<◌, ◌≤◌, ◌==◌, false, List, [], ◌∷◌, ◌++◌, None, length, map}
use Rattle.scop_syntax.proofs.Common.{drop, fold, get_or, drop-cons, add-one, ap, sym, subst, ◌∙◌, refl, arith}
use Rattle.scop_syntax.proofs.Common.{append_assoc, drop_all, Affine}
use Rattle.scop_expressions.specs.Op.{Op}
use Rattle.scop_roles.specs.Formula.{Formula, index, binary, place, meaning_of, subscripts}
use Rattle.scop_roles.specs.Faults.{first, place_faults}
use Rattle.scop_roles.specs.Values.{subscript_forms, read_places}

-- a formula of which R holds makes the whole when the rest is put on it
abbrev pub Makes : {A : Type 0} → (Formula → A → Formula) → (Formula → Type 0) → List A → Formula → Type 0
Makes step R rest whole = (q : Formula) × R q × (fold step q rest ≡ whole)

pub makes_next : {A B : Type 0} (view : A → B) (step : Formula → B → Formula) (R S : Formula → Type 0) (xs : List A)
    (i : ℕ) (x : A) (whole : Formula)
    → x ≡ get_or xs i x → i < length xs → ((q : Formula) → R q → S (step q (view x)))
    → Makes step R (map view (drop i xs)) whole → Makes step S (map view (drop (i + 1) xs)) whole
makes_next view step R S xs i x whole found less f h =
    let rest = map view (drop (i + 1) xs) in
    let here : map view (drop i xs) ≡ view (get_or xs i x) ∷ rest = rw (add-one, drop-cons xs i x) refl in
    let same : map view (drop i xs) ≡ view x ∷ rest = here ∙ ap (λ y. view y ∷ rest) (sym found) in
    (step h.0 (view x), f h.0 h.1, ap (λ ys. fold step h.0 ys) (sym same) ∙ h.2)

pub makes_whole : {A B : Type 0} (view : A → B) (step : Formula → B → Formula) (R : Formula → Type 0) (xs : List A)
    (i : ℕ) (whole : Formula)
    → length xs ≤ i → Makes step R (map view (drop i xs)) whole → R whole
makes_whole view step R xs i whole past h =
    let e : fold step h.0 (map view (drop i xs)) ≡ h.0 = rw (drop_all i xs past) refl in
    subst (λ q. R q) (sym e ∙ h.2) h.1

-- the last of a list is put on behind those in front of it
pub made_more : {A B : Type 0} (view : A → B) (step : Formula → B → Formula) (p : Formula) (xs : List A) (x : A)
    → fold step p (map view (xs ++ x ∷ [])) ≡ step (fold step p (map view xs)) (view x)
made_more view step p [] x = refl
made_more view step p (y ∷ ys) x = made_more view step (step p (view y)) ys x

pub place_indexed : (p : Formula) (is : List Formula) → place (fold index p is) ≡ place p
place_indexed p [] = refl
place_indexed p (i ∷ is) = place_indexed (index p i) is

meaning_indexed : (p : Formula) (is : List Formula) → meaning_of (fold index p is) ≡ meaning_of p
meaning_indexed p [] = refl
meaning_indexed p (i ∷ is) = meaning_indexed (index p i) is

subscripts_indexed : (p : Formula) (is : List Formula) → subscripts (fold index p is) ≡ subscripts p + length is
subscripts_indexed p [] = omega arith
subscripts_indexed p (i ∷ is) = let e = subscripts_indexed (index p i) is in omega arith

pub index_place : (f p i : Formula) (is : List Formula) → f ≡ index (fold index p is) i → place p ≡ place f
index_place f p i is e = sym (place_indexed p is) ∙ ap place (sym e)

pub index_meaning : (f p i : Formula) (is : List Formula) → f ≡ index (fold index p is) i → meaning_of p ≡ meaning_of f
index_meaning f p i is e = sym (meaning_indexed p is) ∙ ap meaning_of (sym e)

index_subscripts : (f p i : Formula) (is : List Formula) → f ≡ index (fold index p is) i
    → subscripts f ≡ subscripts p + length is + 1
index_subscripts f p i is e = ap subscripts e ∙ ap (λ k. k + 1) (subscripts_indexed p is)

-- a place has so many subscripts where the part in front of some has those fewer
pub index_counts : (f p i : Formula) (is : List Formula) (count : ℕ) → f ≡ index (fold index p is) i
    → length is < count → (count - 1 - length is == subscripts p) ≡ (count == subscripts f)
index_counts f p i is count e less = let all = index_subscripts f p i is e in grind arith

pub index_lacks : (f p i : Formula) (is : List Formula) (count : ℕ) → f ≡ index (fold index p is) i
    → count ≤ length is → false ≡ (count == subscripts f)
index_lacks f p i is count e less = let all = index_subscripts f p i is e in grind arith

-- the forms of the subscripts of a place, behind others, where it has no fault
abbrev pub HasForms : ℕ → List Affine → List Affine → Formula → Type 0
HasForms n forms before p = first (place_faults n p) ≡ None → forms ≡ before ++ subscript_forms n p

-- the places that a right side reads stand behind those of the left one
pub read_more : (xs old new : List ℕ) (o : Op) (f g : Formula) (at : ℕ) → old ≡ xs ++ read_places f
    → new ≡ old ++ read_places g → new ≡ xs ++ read_places (binary o f g at)
read_more xs old new o f g at before all =
    all ∙ ap (λ ys. ys ++ read_places g) before ∙ append_assoc xs (read_places f) (read_places g)
