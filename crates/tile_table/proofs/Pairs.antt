-- Lists whose elements stand in a relation, place by place.
use Rattle.scop_syntax.proofs.Common.{◌≡◌, ℕ, zero, suc, List, [], ◌∷◌, ◌++◌, length, subst, Some, slice_get}

-- as far as both go
abbrev pub ArePaired : {A B : Type 0} → (A → B → Type 0) → List A → List B → Type 0
ArePaired {A} {B} P xs ys =
    (i : ℕ) (x : A) (y : B) → slice_get xs i ≡ Some x → slice_get ys i ≡ Some y → P x y

-- one more of the second list
pub paired_more : {A B : Type 0} (P : A → B → Type 0) (xs : List A) (ys : List B) (x : A) (y : B)
    → ArePaired P xs ys → slice_get xs (length ys) ≡ Some x → P x y → ArePaired P xs (ys ++ y ∷ [])
paired_more P [] ys x y all at p i c d e f = absurd cc
paired_more {A} {B} P (a ∷ xs) [] x y all at p zero c d e f =
    let first : x ≡ c = cc in
    let second : y ≡ d = cc in
    subst (λ (u : A). P u d) first (subst (λ (w : B). P x w) second p)
paired_more P (a ∷ xs) [] x y all at p (suc i) c d e f = absurd cc
paired_more P (a ∷ xs) (b ∷ ys) x y all at p zero c d e f = all 0 c d e f
paired_more P (a ∷ xs) (b ∷ ys) x y all at p (suc i) c d e f =
    paired_more P xs ys x y (λ j. all (suc j)) at p i c d e f
