-- Facts on each of the chosen rows, and on each pair.
use Rattle.whole_numbers.proofs.Common.{◌≡◌, ℕ, zero, suc, ℤ, pos, negsuc, ◌<ℤ◌, Bool, true, false, List, [], ◌∷◌, ◌++◌}
use Rattle.whole_numbers.proofs.Common.{ap, ◌∙◌, ◌↔◌, refl, All, arith, if◌then◌else◌, ints, false≢true, All-append}
use Rattle.whole_numbers.proofs.Common.{All-cons, All-nil, All-head, All-tail, Affine, all_front, all_back}
use Rattle.fractions.specs.Elimination.{coefficient_of, is_zero, is_positive, is_negative, chosen, combined}
use Rattle.fractions.specs.Elimination.{paired, pairs}

-- the tests
pub is_zero_iff : (z : ℤ) → (is_zero z ≡ true) ↔ (z ≡ pos 0)
is_zero_iff (pos zero) = (λ _. refl, λ _. refl)
is_zero_iff (pos (suc n)) = (λ h. absurd (false≢true h), λ h. absurd (omega (arith, ints)))
is_zero_iff (negsuc n) = (λ h. absurd (false≢true h), λ h. absurd (omega (arith, ints)))

pub is_positive_iff : (z : ℤ) → (is_positive z ≡ true) ↔ (pos 0 <ℤ z)
is_positive_iff (pos zero) = (λ h. absurd (false≢true h), λ h. absurd (omega (arith, ints)))
is_positive_iff (pos (suc n)) = (λ _. omega (arith, ints), λ _. refl)
is_positive_iff (negsuc n) = (λ h. absurd (false≢true h), λ h. absurd (omega (arith, ints)))

pub is_negative_iff : (z : ℤ) → (is_negative z ≡ true) ↔ (z <ℤ pos 0)
is_negative_iff (pos n) = (λ h. absurd (false≢true h), λ h. absurd (omega (arith, ints)))
is_negative_iff (negsuc n) = (λ _. omega (arith, ints), λ _. refl)

-- each chosen form is one of the list that passes the test
abbrev pub Passing : (Affine → Type 0) → (ℤ → Bool) → ℕ → Affine → Type 0
Passing P test i f = test (coefficient_of i f) ≡ true → P f

choice_from : (P : Affine → Type 0) (f : Affine) (b : Bool) (fs : List Affine) → (b ≡ true → P f) → All P fs
    → All P (if b then f ∷ fs else fs)
choice_from P f true fs h all = All-cons P f fs (h refl) all
choice_from P f false fs h all = all

choice_to : (P : Affine → Type 0) (f : Affine) (b : Bool) (fs : List Affine) → All P (if b then f ∷ fs else fs)
    → (b ≡ true → P f) × All P fs
choice_to P f true fs all = (λ _. All-head P f fs all, All-tail P f fs all)
choice_to P f false fs all = (λ h. absurd (false≢true h), all)

pub chosen_from : (P : Affine → Type 0) (test : ℤ → Bool) (i : ℕ) (fs : List Affine)
    → All (Passing P test i) fs → All P (chosen test i fs)
chosen_from P test i [] h = All-nil P
chosen_from P test i (f ∷ fs) h =
    choice_from P f (test (coefficient_of i f)) (chosen test i fs) (All-head (Passing P test i) f fs h)
    (chosen_from P test i fs (All-tail (Passing P test i) f fs h))

pub chosen_to : (P : Affine → Type 0) (test : ℤ → Bool) (i : ℕ) (fs : List Affine)
    → All P (chosen test i fs) → All (Passing P test i) fs
chosen_to P test i [] h = All-nil (Passing P test i)
chosen_to P test i (f ∷ fs) h =
    let c = choice_to P f (test (coefficient_of i f)) (chosen test i fs) h in
    All-cons (Passing P test i) f fs c.0 (chosen_to P test i fs c.1)

-- each pair
pub paired_from : (P : Affine → Type 0) (i : ℕ) (p : Affine) (ns : List Affine)
    → All (λ n. P (combined i p n)) ns → All P (paired i p ns)
paired_from P i p [] h = All-nil P
paired_from P i p (n ∷ ns) h =
    All-cons P (combined i p n) (paired i p ns) (All-head (λ n. P (combined i p n)) n ns h)
    (paired_from P i p ns (All-tail (λ n. P (combined i p n)) n ns h))

pub paired_to : (P : Affine → Type 0) (i : ℕ) (p : Affine) (ns : List Affine)
    → All P (paired i p ns) → All (λ n. P (combined i p n)) ns
paired_to P i p [] h = All-nil (λ n. P (combined i p n))
paired_to P i p (n ∷ ns) h =
    All-cons (λ n. P (combined i p n)) n ns (All-head P (combined i p n) (paired i p ns) h)
    (paired_to P i p ns (All-tail P (combined i p n) (paired i p ns) h))

pub pairs_from : (P : Affine → Type 0) (i : ℕ) (ps ns : List Affine)
    → All (λ p. All (λ n. P (combined i p n)) ns) ps → All P (pairs i ps ns)
pairs_from P i [] ns h = All-nil P
pairs_from P i (p ∷ ps) ns h =
    let Each : Affine → Type 0 = λ q. All (λ n. P (combined i q n)) ns in
    All-append P (paired i p ns) (pairs i ps ns) (paired_from P i p ns (All-head Each p ps h))
    (pairs_from P i ps ns (All-tail Each p ps h))

pub pairs_to : (P : Affine → Type 0) (i : ℕ) (ps ns : List Affine)
    → All P (pairs i ps ns) → All (λ p. All (λ n. P (combined i p n)) ns) ps
pairs_to P i [] ns h = All-nil (λ q. All (λ n. P (combined i q n)) ns)
pairs_to P i (p ∷ ps) ns h =
    All-cons (λ q. All (λ n. P (combined i q n)) ns) p ps
    (paired_to P i p ns (all_front P (paired i p ns) (pairs i ps ns) h))
    (pairs_to P i ps ns (all_back P (paired i p ns) (pairs i ps ns) h))

-- the chosen ones of two lists, one behind the other
pub chosen-append : (test : ℤ → Bool) (i : ℕ) (fs gs : List Affine) → chosen test i (fs ++ gs)
    ≡ chosen test i fs ++ chosen test i gs
chosen-append test i [] gs = refl
chosen-append test i (f ∷ fs) gs = ap (λ (rest : List Affine). if test (coefficient_of i f) then f ∷ rest else rest)
    (chosen-append test i fs gs)
    ∙ choice (test (coefficient_of i f)) f (chosen test i fs) (chosen test i gs)
  where
    choice : (b : Bool) (f : Affine) (xs ys : List Affine) → (if b then f ∷ (xs ++ ys) else xs ++ ys)
        ≡ (if b then f ∷ xs else xs) ++ ys
    choice true f xs ys = refl
    choice false f xs ys = refl
