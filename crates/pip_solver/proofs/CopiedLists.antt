-- Lists made from others, entry by entry: a copy more, an entry more.
use Rattle.whole_numbers.proofs.Common.{◌≡◌, ℕ, ◌+◌, ◌<◌, List, [], ◌∷◌, ◌++◌, length, get_or, take, map, refl, sym, ap}
use Rattle.whole_numbers.proofs.Common.{◌∙◌, take_more, map-append}

-- a copy more
pub copied_more : {A : Type 0} (xs : List A) (k : ℕ) (x : A) (all new : List A) → k < length xs → x ≡ get_or xs k x
    → all ≡ take k xs → new ≡ all ++ x ∷ []
    → new ≡ take (k + 1) xs
copied_more {A = A} xs k x all new inside is done gained =
    gained ∙ ap (λ (ys : List A). ys ++ x ∷ []) done
    ∙ sym (take_more xs k x inside ∙ ap (λ (y : A). take k xs ++ y ∷ []) (sym is))

-- an entry more, made from another list's
pub mapped_more : {A B : Type 0} (f : A → B) (xs : List A) (k : ℕ) (x : A) (all new : List B) → k < length xs
    → x ≡ get_or xs k x → all ≡ map f (take k xs) → new ≡ all ++ f x ∷ []
    → new ≡ map f (take (k + 1) xs)
mapped_more {A = A} {B = B} f xs k x all new inside is done gained =
    gained ∙ ap (λ (ys : List B). ys ++ f x ∷ []) done
    ∙ sym (map-append f (take k xs) (x ∷ []))
    ∙ ap (λ (ys : List A). map f ys) (copied_more xs k x (take k xs) (take k xs ++ x ∷ []) inside is refl refl)
