-- A list's elements one by one: what stands before one and behind it.
use Rattle.scop_syntax.proofs.Common.{◌≡◌, ℕ, suc, ◌+◌, ◌<◌, List, ◌∷◌, ◌++◌, length, map, get_or, drop, take, sym, ap}
use Rattle.scop_syntax.proofs.Common.{◌∙◌, add-one, drop-cons, take-append-drop, map-append}

pub next_of : {A : Type 0} (i : ℕ) (xs : List A) (x : A) → i < length xs → x ≡ get_or xs i x
    → drop i xs ≡ x ∷ drop (i + 1) xs
next_of i xs x lt is =
    drop-cons xs i x lt ∙ (ap (λ y. y ∷ drop (suc i) xs) (sym is) ∙ ap (λ (k : ℕ). x ∷ drop k xs) (sym (add-one i)))

pub map_around : {A B : Type 0} (f : A → B) (i : ℕ) (xs : List A) (x : A) → i < length xs → x ≡ get_or xs i x
    → map f xs ≡ map f (take i xs) ++ f x ∷ map f (drop (i + 1) xs)
map_around f i xs x lt is =
    ap (λ ys. map f ys) (sym (take-append-drop i xs))
    ∙ (map-append f (take i xs) (drop i xs) ∙ ap (λ ys. map f (take i xs) ++ map f ys) (next_of i xs x lt is))
