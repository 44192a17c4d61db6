-- The multiples of the numbers of a list, and the sums of two lists' numbers, made one by one.
use Rattle.scop_syntax.proofs.Common.{◌≡◌, ℕ, ◌+◌, ◌<◌, ◌≤◌, ℤ, pos, List, [], ◌∷◌, ◌++◌, length, drop, get_or, add-one}
use Rattle.scop_syntax.proofs.Common.{drop-cons, append_assoc, ap, sym, ◌∙◌, refl, arith, ◌*ℤ◌, ◌+ℤ◌, drop_all}
use Rattle.scop_syntax.proofs.Common.{multiples, sums}
use Rattle.std.proofs.lemmas.List.{append-nil}

pub multiples_next : (f x : ℤ) (xs done next : List ℤ) (i : ℕ) → i < length xs → x ≡ f *ℤ get_or xs i (pos 0)
    → next ≡ done ++ x ∷ [] → done ++ multiples f (drop i xs) ≡ multiples f xs
    → next ++ multiples f (drop (i + 1) xs) ≡ multiples f xs
multiples_next f x xs done next i less x_is next_is so_far =
    let rest = multiples f (drop (i + 1) xs) in
    let here : multiples f (drop i xs) ≡ (f *ℤ get_or xs i (pos 0)) ∷ rest =
    rw (add-one, drop-cons xs i (pos 0)) refl in
    ap (λ ys. ys ++ rest) next_is ∙ append_assoc done (x ∷ []) rest ∙ ap (λ y. done ++ y ∷ rest) x_is
    ∙ ap (λ ys. done ++ ys) (sym here) ∙ so_far

pub multiples_all : (f : ℤ) (xs done : List ℤ) (i : ℕ) → length xs ≤ i
    → done ++ multiples f (drop i xs) ≡ multiples f xs → done ≡ multiples f xs
multiples_all f xs done i past so_far =
    let all : done ++ multiples f (drop i xs) ≡ done = rw (drop_all i xs past) (append-nil done) in
    sym all ∙ so_far

pub sums_next : (x : ℤ) (xs ys done next : List ℤ) (i : ℕ) → i < length xs → length xs ≡ length ys
    → x ≡ get_or xs i (pos 0) +ℤ get_or ys i (pos 0) → next ≡ done ++ x ∷ []
    → done ++ sums (drop i xs) (drop i ys) ≡ sums xs ys
    → next ++ sums (drop (i + 1) xs) (drop (i + 1) ys) ≡ sums xs ys
sums_next x xs ys done next i less same x_is next_is so_far =
    let rest = sums (drop (i + 1) xs) (drop (i + 1) ys) in
    let other : i < length ys = omega (arith, same) in
    let here : sums (drop i xs) (drop i ys) ≡ (get_or xs i (pos 0) +ℤ get_or ys i (pos 0)) ∷ rest =
    rw (add-one, drop-cons xs i (pos 0), drop-cons ys i (pos 0)) refl in
    ap (λ zs. zs ++ rest) next_is ∙ append_assoc done (x ∷ []) rest ∙ ap (λ z. done ++ z ∷ rest) x_is
    ∙ ap (λ zs. done ++ zs) (sym here) ∙ so_far

pub sums_all : (xs ys done : List ℤ) (i : ℕ) → length xs ≤ i → length xs ≡ length ys
    → done ++ sums (drop i xs) (drop i ys) ≡ sums xs ys → done ≡ sums xs ys
sums_all xs ys done i past same so_far =
    let other : length ys ≤ i = omega (arith, same) in
    let all : done ++ sums (drop i xs) (drop i ys) ≡ done =
    rw (drop_all i xs past, drop_all i ys other) (append-nil done) in
    sym all ∙ so_far
