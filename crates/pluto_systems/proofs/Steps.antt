-- Steps of loops.
use Rattle.scop_syntax.proofs.Common.{◌≡◌, ℕ, ◌+◌, ◌<◌, ℤ, pos, List, [], ◌∷◌, ◌++◌, refl, sym, ◌∙◌, ap, arith, length}
use Rattle.scop_syntax.proofs.Common.{drop, add-one, drop-cons, append_assoc, get_or, ◌≤◌, ◌+ℤ◌, sums, All-nil}
use Rattle.scop_syntax.proofs.Common.{All-cons, All-head, All-tail}
use Rattle.null_space.specs.Sizes.{IsWithin, AreWithin}
use Rattle.null_space.proofs.Sizes.{within_add}
use Rattle.null_space.specs.Narrowing.{kernel_vectors}
use Rattle.pluto_systems.specs.Posing.{added, growth_rows, growth_from, vectors_for}

pub more : {X : Type 0} (xs ys new rest rest' whole : List X) → new ≡ xs ++ ys → ys ++ rest' ≡ rest
    → xs ++ rest ≡ whole → new ++ rest' ≡ whole
more xs ys new rest rest' whole e f h =
    ap (λ z. z ++ rest') e ∙ (append_assoc xs ys rest' ∙ (ap (λ z. xs ++ z) f ∙ h))

pub sums_step : (xs ys : List ℤ) (i : ℕ) → i < length xs → length xs ≡ length ys
    → (get_or xs i (pos 0) +ℤ get_or ys i (pos 0)) ∷ sums (drop (i + 1) xs) (drop (i + 1) ys)
    ≡ sums (drop i xs) (drop i ys)
sums_step xs ys i h e = rw (add-one i, drop-cons xs i (pos 0) h, drop-cons ys i (pos 0) (omega arith)) refl

-- one vector more is added up
pub added_step : (sum new : List ℤ) (vs : List (List ℤ)) (i : ℕ) (whole : List ℤ) → i < length vs
    → new ≡ sums sum (get_or vs i [])
    → added sum (drop i vs) ≡ whole → added new (drop (i + 1) vs) ≡ whole
added_step sum new vs i whole h e k =
    ap (λ z. added z (drop (i + 1) vs)) e
    ∙ (ap (λ n. added (sums sum (get_or vs i [])) (drop n vs)) (add-one i)
    ∙ (sym (ap (λ z. added sum z) (drop-cons vs i [] h)) ∙ k))

pub sums_within : (k m n : ℕ) (xs ys : List ℤ) → m + n ≤ k → length xs ≡ length ys → AreWithin m xs
    → AreWithin n ys → AreWithin k (sums xs ys)
sums_within k m n [] [] l h a b = All-nil (IsWithin k)
sums_within k m n [] (y ∷ ys) l h a b = absurd (omega (arith, h))
sums_within k m n (x ∷ xs) [] l h a b = absurd (omega (arith, h))
sums_within k m n (x ∷ xs) (y ∷ ys) l h a b =
    let s = within_add m n x y (All-head (IsWithin m) x xs a) (All-head (IsWithin n) y ys b) in
    All-cons (IsWithin k) (x +ℤ y) (sums xs ys) (omega (arith, s, l))
    (sums_within k m n xs ys l (omega (arith, h)) (All-tail (IsWithin m) x xs a) (All-tail (IsWithin n) y ys b))

-- the rows of one statement more
pub growth_step : (m : ℕ) (loops : List ℕ) (vectors : List (List (List ℤ))) (i : ℕ) (vs : List (List ℤ))
    → i < length vectors → vs ≡ get_or vectors i []
    → growth_rows m loops i vs ++ growth_from m loops (i + 1) (drop (i + 1) vectors)
    ≡ growth_from m loops i (drop i vectors)
growth_step m loops vectors i vs h e =
    ap (λ z. growth_rows m loops i z ++ growth_from m loops (i + 1) (drop (i + 1) vectors)) e
    ∙ rw (add-one i, drop-cons vectors i [] h) refl

-- the kernel vectors of one statement more
pub vectors_step : (loops : List ℕ) (rows : List (List (List ℤ))) (s : ℕ) → s < length loops
    → length rows ≡ length loops
    → kernel_vectors (get_or loops s 0) (get_or rows s []) ∷ vectors_for (drop (s + 1) loops) (drop (s + 1) rows)
    ≡ vectors_for (drop s loops) (drop s rows)
vectors_step loops rows s h e = rw (add-one s, drop-cons loops s 0 h, drop-cons rows s [] (omega (arith, h, e))) refl
