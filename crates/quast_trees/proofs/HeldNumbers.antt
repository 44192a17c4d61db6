-- Opposites of numbers that 128 bits hold, also where zeros are put in, and the numbers of a tree's rows where other
-- leaves stand.
use Rattle.whole_numbers.proofs.Common.{◌≡◌, ℕ, zero, suc, true, ℤ, pos, negsuc, ◌*ℤ◌, List, [], ◌∷◌, refl, All}
use Rattle.whole_numbers.proofs.Common.{All-cons, All-head, All-nil, All-tail, fits, multiples, zeros}

-- 128 bits hold the opposite of each number
abbrev pub Opposed : List ℤ → Type 0
Opposed cs = All (λ c. fits (negsuc 0 *ℤ c) ≡ true) cs

pub opposed_of : (cs : List ℤ) → All (λ c. fits c ≡ true) (multiples (negsuc 0) cs) → Opposed cs
opposed_of [] h = All-nil (λ c. fits (negsuc 0 *ℤ c) ≡ true)
opposed_of (c ∷ cs) h =
    All-cons (λ c. fits (negsuc 0 *ℤ c) ≡ true) c cs
    (All-head (λ c. fits c ≡ true) (negsuc 0 *ℤ c) (multiples (negsuc 0) cs) h)
    (opposed_of cs (All-tail (λ c. fits c ≡ true) (negsuc 0 *ℤ c) (multiples (negsuc 0) cs) h))

pub opposed_to : (cs : List ℤ) → Opposed cs → All (λ c. fits c ≡ true) (multiples (negsuc 0) cs)
opposed_to [] h = All-nil (λ c. fits c ≡ true)
opposed_to (c ∷ cs) h =
    All-cons (λ c. fits c ≡ true) (negsuc 0 *ℤ c) (multiples (negsuc 0) cs)
    (All-head (λ c. fits (negsuc 0 *ℤ c) ≡ true) c cs h)
    (opposed_to cs (All-tail (λ c. fits (negsuc 0 *ℤ c) ≡ true) c cs h))

pub opposed_zeros : (k : ℕ) → Opposed (zeros k)
opposed_zeros zero = All-nil (λ c. fits (negsuc 0 *ℤ c) ≡ true)
opposed_zeros (suc k) = All-cons (λ c. fits (negsuc 0 *ℤ c) ≡ true) (pos 0) (zeros k) refl (opposed_zeros k)
