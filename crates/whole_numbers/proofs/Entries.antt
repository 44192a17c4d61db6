-- Entries of lists, their fronts and backs, and what holds of each entry; a list made from another entry by entry
-- (`map_more`, `map_end`).
use Rattle.std.proofs.Common.{◌≡◌, ℕ, zero, suc, ◌+◌, ◌<◌, ◌≤◌, List, [], ◌∷◌, ◌++◌, length, get_or, take, drop}
use Rattle.std.proofs.Common.{drop-cons, drop_of_length-le, append_assoc, append-nil, add-one, Some, All, refl, sym}
use Rattle.std.proofs.Common.{◌∙◌, ap, subst, arith, map, slice_get}
use Rattle.std.proofs.lemmas.List.{take_all}
use Rattle.std.proofs.lemmas.List.Elements.{All-head, All-tail, All-cons, All-nil, All-more}

-- what holds of each entry of a joined list holds in its front and in its back
pub all_front : {A : Type 0} (P : A → Type 0) (xs ys : List A) → All P (xs ++ ys) → All P xs
all_front P [] ys all = All-nil P
all_front P (x ∷ xs) ys all =
    All-cons P x xs (All-head P x (xs ++ ys) all) (all_front P xs ys (All-tail P x (xs ++ ys) all))

pub all_back : {A : Type 0} (P : A → Type 0) (xs ys : List A) → All P (xs ++ ys) → All P ys
all_back P [] ys all = all
all_back P (x ∷ xs) ys all = all_back P xs ys (All-tail P x (xs ++ ys) all)

-- one entry more of those gone through, and all of them at the end
pub all_next : {A : Type 0} (P : A → Type 0) (xs : List A) (i : ℕ) (x : A) → x ≡ get_or xs i x → i < length xs
    → All P (take i xs) → P x → All P (take (i + 1) xs)
all_next P xs i x is inside all own = All-more P xs i x inside all (subst P is own)

pub all_taken : {A : Type 0} (P : A → Type 0) (xs : List A) (i : ℕ) → length xs ≤ i → All P (take i xs) → All P xs
all_taken {A = A} P xs i past all = subst (λ (ys : List A). All P ys) (take_all i xs past) all

-- what holds of each image holds so of each entry
pub all_unmapped : {A B : Type 0} (P : B → Type 0) (f : A → B) (xs : List A) → All P (map f xs) → All (λ x. P (f x)) xs
all_unmapped P f [] all = All-nil (λ x. P (f x))
all_unmapped P f (x ∷ xs) all =
    All-cons (λ y. P (f y)) x xs (All-head P (f x) (map f xs) all)
    (all_unmapped P f xs (All-tail P (f x) (map f xs) all))

-- what stands at a place, whatever stands for a missing one
pub get_or_same : {A : Type 0} (xs : List A) (i : ℕ) (d e : A) → i < length xs → get_or xs i d ≡ get_or xs i e
get_or_same [] i d e inside = absurd (omega (arith, inside))
get_or_same (x ∷ xs) zero d e inside = refl
get_or_same (x ∷ xs) (suc i) d e inside = get_or_same xs i d e (omega (arith, inside))

-- an entry of the front of a joined list, and of its back
pub get_front : {A : Type 0} (xs ys : List A) (i : ℕ) → i < length xs → slice_get (xs ++ ys) i ≡ slice_get xs i
get_front [] ys i inside = absurd (omega (arith, inside))
get_front (x ∷ xs) ys zero inside = refl
get_front (x ∷ xs) ys (suc i) inside = get_front xs ys i (omega (arith, inside))

pub found_front : {A : Type 0} (xs ys : List A) (i : ℕ) (x : A) → slice_get xs i ≡ Some x
    → slice_get (xs ++ ys) i ≡ Some x
found_front [] ys i x h = absurd cc
found_front (y ∷ xs) ys zero x h = h
found_front (y ∷ xs) ys (suc i) x h = found_front xs ys i x h

pub get_behind : {A : Type 0} (xs ys : List A) (i : ℕ) → slice_get (xs ++ ys) (length xs + i) ≡ slice_get ys i
get_behind [] ys i = let e : 0 + i ≡ i = omega arith in ap (slice_get ys) e
get_behind (x ∷ xs) ys i =
    let e : suc (length xs) + i ≡ suc (length xs + i) = omega arith in
    ap (slice_get (x ∷ (xs ++ ys))) e ∙ get_behind xs ys i

-- an entry of a list that is made from another
pub get_map : {A B : Type 0} (f : A → B) (xs : List A) (i : ℕ) (x : A) → slice_get xs i ≡ Some x
    → slice_get (map f xs) i ≡ Some (f x)
get_map f [] i x e = absurd cc
get_map f (y ∷ ys) zero x e = let z : y ≡ x = cc in ap (λ w. Some (f w)) z
get_map f (y ∷ ys) (suc i) x e = get_map f ys i x e

-- a list made from another entry by entry: one entry more, and all of them
pub map_more : {A B : Type 0} (f : A → B) (xs : List A) (i : ℕ) (x : A) (y : B) (done next whole : List B)
    → i < length xs
    → x ≡ get_or xs i x → y ≡ f x → next ≡ done ++ y ∷ [] → done ++ map f (drop i xs) ≡ whole
    → next ++ map f (drop (i + 1) xs) ≡ whole
map_more f xs i x y done next whole inside is made grown so_far =
    let rest = map f (drop (i + 1) xs) in
    let here : map f (drop i xs) ≡ f x ∷ rest = rw (drop-cons xs i x inside, ← is, add-one i) refl in
    ap (λ ys. ys ++ rest) grown
    ∙ (append_assoc done (y ∷ []) rest
    ∙ (ap (λ z. done ++ z ∷ rest) made ∙ (ap (λ ys. done ++ ys) (sym here) ∙ so_far)))

pub map_end : {A B : Type 0} (f : A → B) (xs : List A) (i : ℕ) (done whole : List B) → length xs ≤ i
    → done ++ map f (drop i xs) ≡ whole → done ≡ whole
map_end f xs i done whole past so_far =
    sym (append-nil done)
    ∙ (ap (λ (ys : List _). done ++ map f ys) (sym (drop_of_length-le xs past)) ∙ so_far)
