-- A list gone through element by element.
use Rattle.scop_syntax.proofs.Common.{◌≡◌, ◌<◌, ◌+◌, ℕ, List, [], ◌∷◌, ◌++◌, length, map, get_or, take, sym, ap, ◌∙◌}
use Rattle.scop_syntax.proofs.Common.{take_more, get_or-map, map-set, map-append, get_or_default_zero, Some, slice_get}
use Rattle.scop_syntax.proofs.Common.{slice_set, get_or_from_slice_get, there_is}

-- one more is taken
pub taken_more : {A : Type 0} (xs : List A) (k : ℕ) (x : A) → k < length xs → x ≡ get_or xs k x
    → take (k + 1) xs ≡ take k xs ++ x ∷ []
taken_more {A = A} xs k x inside is =
    take_more xs k x inside ∙ ap (λ (y : A). take k xs ++ y ∷ []) (sym is)

-- a number of a list
pub number_at : (xs : List ℕ) (k : ℕ) → k < length xs → get_or xs k 0 ≡ get_or xs k (get_or xs k 0)
number_at xs k inside = sym (get_or_default_zero xs k (get_or xs k 0) inside)

-- an element of a list that is seen through a function
pub seen_at : {A : Type 0} (f : A → List ℕ) (rows : List A) (row : A) (i : ℕ) → i < length rows
    → row ≡ get_or rows i row → get_or (map f rows) i [] ≡ f row
seen_at f rows row i inside taken = get_or-map f rows i row [] inside ∙ ap f (sym taken)

-- and one that is replaced
pub seen_set : {A : Type 0} (f : A → List ℕ) (rows : List A) (new : A) (i : ℕ) (row : List ℕ) → f new ≡ row
    → map f (slice_set rows i new) ≡ slice_set (map f rows) i row
seen_set f rows new i row is = map-set f rows i new ∙ ap (λ (r : List ℕ). slice_set (map f rows) i r) is

-- one more is put that is told by the element there
pub map_told : {A : Type 0} (f : A → ℕ) (xs : List A) (k y : ℕ) (all new : List ℕ) → k < length xs
    → ((x : A) → slice_get xs k ≡ Some x → y ≡ f x) → all ≡ map f (take k xs) → new ≡ all ++ y ∷ []
    → new ≡ map f (take (k + 1) xs)
map_told {A = A} f xs k y all new inside told done e =
    let t = there_is xs k inside in
    let is = sym (get_or_from_slice_get xs k t.0 t.0 t.1) in
    e ∙ (ap (λ (zs : List ℕ). zs ++ y ∷ []) done
    ∙ (ap (λ (z : ℕ). map f (take k xs) ++ z ∷ []) (told t.0 t.1)
    ∙ (sym (map-append f (take k xs) (t.0 ∷ []))
    ∙ ap (λ (zs : List A). map f zs) (sym (taken_more xs k t.0 inside is)))))
