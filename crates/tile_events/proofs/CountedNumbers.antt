-- How many numbers pass a test.
use Rattle.scop_syntax.proofs.Common.{◌≡◌, ℕ, zero, suc, ◌+◌, ◌<◌, ◌≤◌, Bool, true, false, ap, refl, ◌∙◌, sym, arith}
use Rattle.scop_syntax.proofs.Common.{if◌then◌else◌, nat_cases}
use Rattle.tile_events.specs.Plan.{count_of}

pub count_within : (f : ℕ → Bool) (n : ℕ) → count_of f n ≤ n
count_within f zero = omega arith
count_within f (suc n) = by_test (count_within f n) (f n)
  where
    by_test : count_of f n ≤ n → (b : Bool) → (if b then suc (count_of f n) else count_of f n) ≤ suc n
    by_test ih true = omega (arith, ih)
    by_test ih false = omega (arith, ih)

-- tests that agree are passed by as many
pub count_same : (f g : ℕ → Bool) (n : ℕ) → ((i : ℕ) → i < n → f i ≡ g i) → count_of f n ≡ count_of g n
count_same f g zero h = refl
count_same f g (suc n) h = rw (h n (omega arith), count_same f g n (λ i l. h i (omega (arith, l)))) refl

-- where none of the first m numbers passes, as many pass as of those behind them
pub count_behind : (f : ℕ → Bool) (m n : ℕ) → ((i : ℕ) → i < m → f i ≡ false)
    → count_of f (m + n) ≡ count_of (λ i. f (m + i)) n
count_behind f m zero h = ap (count_of f) (let e : m + 0 ≡ m = omega arith in e) ∙ none f m h
  where
    none : (f : ℕ → Bool) (m : ℕ) → ((i : ℕ) → i < m → f i ≡ false) → count_of f m ≡ 0
    none f zero h = refl
    none f (suc m) h = rw (h m (omega arith)) (none f m (λ i l. h i (omega (arith, l))))
count_behind f m (suc n) h = ap (count_of f) (let e : m + suc n ≡ suc (m + n) = omega arith in e)
    ∙ ap (λ (k : ℕ). if f (m + n) then suc k else k) (count_behind f m n h)

-- no more numbers pass a test than one that is passed wherever it is
count_le : (f g : ℕ → Bool) (n : ℕ) → ((i : ℕ) → f i ≡ true → g i ≡ true) → count_of f n ≤ count_of g n
count_le f g zero h = omega arith
count_le f g (suc n) h = by_test (count_le f g n h) (f n) (g n) (h n)
  where
    by_test : count_of f n ≤ count_of g n → (a b : Bool) → (a ≡ true → b ≡ true)
        → (if a then suc (count_of f n) else count_of f n) ≤ (if b then suc (count_of g n) else count_of g n)
    by_test ih true true k = omega (arith, ih)
    by_test ih true false k = let e = k refl in absurd cc
    by_test ih false true k = omega (arith, ih)
    by_test ih false false k = ih

-- and where as many pass, the same pass
pub count_all : (f g : ℕ → Bool) (n : ℕ) → ((i : ℕ) → f i ≡ true → g i ≡ true) → count_of g n ≤ count_of f n
    → (i : ℕ) → i < n → g i ≡ true → f i ≡ true
count_all f g zero h most i l e = absurd (omega (arith, l))
count_all f g (suc n) h most i l e = by_test (λ m a. count_all f g n h m i a e) (f n) (g n) refl refl most
  where
    by_test : (count_of g n ≤ count_of f n → i < n → f i ≡ true) → (a b : Bool) → f n ≡ a → g n ≡ b
        → (if b then suc (count_of g n) else count_of g n) ≤ (if a then suc (count_of f n) else count_of f n)
        → f i ≡ true
    by_test ih true true is there m = nat_cases i n (λ a. ih (omega (arith, m)) a) (λ a. ap f a ∙ is)
        (λ a. absurd (omega (arith, a, l)))
    by_test ih true false is there m = let x = h n is in absurd cc
    by_test ih false true is there m = let x = count_le f g n h in absurd (omega (arith, m, x))
    by_test ih false false is there m = nat_cases i n (λ a. ih m a)
        (λ a. let x : g n ≡ true = ap g (sym a) ∙ e in absurd cc) (λ a. absurd (omega (arith, a, l)))
