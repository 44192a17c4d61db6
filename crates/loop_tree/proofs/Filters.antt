-- What a test leaves of a list.
use Rattle.scop_syntax.proofs.Common.{◌≡◌, Bool, true, false, List, [], ◌∷◌, inl, inr, ap, sym, refl, ◌∙◌, cond, filter}
use Rattle.scop_syntax.proofs.Common.{In, Sorted, false_from_ne_true}

pub in_filter : {A : Type 0} (p : A → Bool) (v : A) (xs : List A) → In v (filter p xs) → In v xs × (p v ≡ true)
in_filter p v [] i = absurd i
in_filter {A} p v (x ∷ xs) i = by_test (p x) refl i (in_filter p v xs)
  where
    by_test : (b : Bool) → p x ≡ b → In v (cond b (x ∷ filter p xs) (filter p xs))
        → (In v (filter p xs) → In v xs × (p v ≡ true)) → In v (x ∷ xs) × (p v ≡ true)
    by_test true e (inl f) rest = (inl f, ap p f ∙ e)
    by_test true e (inr j) rest = let r = rest j in (inr r.0, r.1)
    by_test false e j rest = let r = rest j in (inr r.0, r.1)

-- all pass, or none does
pub filter_all : {A : Type 0} (p : A → Bool) (xs : List A) → ((v : A) → In v xs → p v ≡ true) → filter p xs ≡ xs
filter_all p [] all = refl
filter_all p (x ∷ xs) all =
    ap (λ (b : Bool). cond b (x ∷ filter p xs) (filter p xs)) (all x (inl refl))
    ∙ ap (λ ys. x ∷ ys) (filter_all p xs (λ v i. all v (inr i)))

pub filter_none : {A : Type 0} (p : A → Bool) (xs : List A) → ((v : A) → In v xs → p v ≡ false) → filter p xs ≡ []
filter_none p [] none = refl
filter_none p (x ∷ xs) none =
    ap (λ (b : Bool). cond b (x ∷ filter p xs) (filter p xs)) (none x (inl refl))
    ∙ filter_none p xs (λ v i. none v (inr i))

-- a test behind one that all pass that pass it
pub filter_within : {A : Type 0} (p q : A → Bool) → ((v : A) → p v ≡ true → q v ≡ true) → (xs : List A)
    → filter p (filter q xs) ≡ filter p xs
filter_within p q within [] = refl
filter_within p q within (x ∷ xs) = by_test (q x) refl (filter_within p q within xs)
  where
    by_test : (b : Bool) → q x ≡ b → filter p (filter q xs) ≡ filter p xs
        → filter p (cond b (x ∷ filter q xs) (filter q xs)) ≡ filter p (x ∷ xs)
    by_test true e rest = ap (λ ys. cond (p x) (x ∷ ys) ys) rest
    by_test false e rest =
        let fails : p x ≡ false = false_from_ne_true (p x) (λ h. let g = within x h in absurd cc) in
        rest ∙ sym (ap (λ (b : Bool). cond b (x ∷ filter p xs) (filter p xs)) fails)

pub filter_sorted : {A : Type 0} (R : A → A → Type 0) (p : A → Bool) (xs : List A) → Sorted R xs
    → Sorted R (filter p xs)
filter_sorted R p [] s = tt
filter_sorted R p (x ∷ xs) s = by_test (p x) (filter_sorted R p xs s.1)
  where
    by_test : (b : Bool) → Sorted R (filter p xs) → Sorted R (cond b (x ∷ filter p xs) (filter p xs))
    by_test true rest = (λ y i. s.0 y (in_filter p y xs i).0, rest)
    by_test false rest = rest
