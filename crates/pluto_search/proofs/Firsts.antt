-- The first of a list that meets one thing, all before it meeting another; going through the list one by one.
use Rattle.scop_syntax.proofs.Common.{◌≡◌, ℕ, List, [], ◌∷◌, ◌++◌, sym, ◌∙◌, ap, subst, inl, inr, map}
use Rattle.scop_syntax.proofs.Common.{All, take, drop, take-append-drop, All-head}
use Rattle.scop_syntax.proofs.Common.{All-tail}
use Rattle.pluto_search.specs.Questions.{IsFirst}

-- behind others that meet P
pub first_behind : {A : Type 0} (P Q : A → Type 0) (xs ys : List A) → All P xs → IsFirst P Q ys
    → IsFirst P Q (xs ++ ys)
first_behind P Q [] ys h k = k
first_behind P Q (x ∷ xs) ys h k = inr (All-head P x xs h, first_behind P Q xs ys (All-tail P x xs h) k)

-- the next one does
pub first_next : {A : Type 0} (P Q : A → Type 0) (xs rest : List A) (i : ℕ) (x : A) → drop i xs ≡ x ∷ rest
    → All P (take i xs) → Q x → IsFirst P Q xs
first_next {A} P Q xs rest i x e h q =
    subst (IsFirst P Q) (ap (λ (z : List A). take i xs ++ z) (sym e) ∙ take-append-drop i xs)
    (first_behind P Q (take i xs) (x ∷ rest) h (inl q))

-- of a list that is made from another
pub first_mapped : {A B : Type 0} (f : A → B) (P Q : B → Type 0) (xs : List A)
    → IsFirst (λ x. P (f x)) (λ x. Q (f x)) xs → IsFirst P Q (map f xs)
first_mapped f P Q [] h = h
first_mapped f P Q (x ∷ xs) (inl q) = inl q
first_mapped f P Q (x ∷ xs) (inr h) = inr (h.0, first_mapped f P Q xs h.1)

-- where P leaves no room for Q: no first
pub none_first : {A : Type 0} (P Q : A → Type 0) (xs : List A) → ((x : A) → P x → Q x → ⊥) → All P xs → IsFirst P Q xs
    → ⊥
none_first P Q [] apart h k = k
none_first P Q (x ∷ xs) apart h (inl q) = apart x (All-head P x xs h) q
none_first P Q (x ∷ xs) apart h (inr k) = none_first P Q xs apart (All-tail P x xs h) k.1

-- nor for R: the two are first at one
pub one_first : {A : Type 0} (P Q R : A → Type 0) (S : Type 0) (xs : List A) → ((x : A) → P x → Q x → ⊥)
    → ((x : A) → P x → R x → ⊥) → ((x : A) → Q x → R x → S) → IsFirst P Q xs → IsFirst P R xs → S
one_first P Q R S [] q r both h k = absurd h
one_first P Q R S (x ∷ xs) q r both (inl h) (inl k) = both x h k
one_first P Q R S (x ∷ xs) q r both (inl h) (inr k) = absurd (q x k.0 h)
one_first P Q R S (x ∷ xs) q r both (inr h) (inl k) = absurd (r x h.0 k)
one_first P Q R S (x ∷ xs) q r both (inr h) (inr k) = one_first P Q R S xs q r both h.1 k.1
