-- A loop whose condition falls walks the bodies of the turns at which it holds.
use Rattle.whole_numbers.proofs.Common.{◌≡◌, ℕ, zero, suc, ◌+◌, ◌<◌, ◌≤◌, false, List, ◌++◌, ap, subst, refl, arith}
use Rattle.whole_numbers.proofs.Common.{below_more, ℤ, pos, negsuc, ◌+ℤ◌, ◌≤ℤ◌, ◌<ℤ◌, flat_map, range_with_len, le_z}
use Rattle.whole_numbers.proofs.Common.{ints, by_lt_z}
use Rattle.scop_syntax.proofs.Members.{le_z_holds, fallen}
use Rattle.scop_syntax.specs.Walk.{turns, most_turns, loop_walk, Falls, RunsFor}

-- the test that the walk makes
test_fails : (z : ℤ) → z <ℤ pos 0 → le_z (pos 0) z ≡ false
test_fails z h = grind (arith, ints)

-- with turns to spare, the bodies of the d turns from k on at which the condition holds
turns_while : {A : Type 0} (condition : ℕ → ℤ) (body : ℕ → List A) (n d k : ℕ) → d ≤ n
    → ((j : ℕ) → j < d → pos 0 ≤ℤ condition (k + j)) → condition (k + d) <ℤ pos 0
    → turns condition body n k ≡ flat_map body (range_with_len k d)
turns_while condition body zero zero k few holds fails = refl
turns_while condition body zero (suc d) k few holds fails = absurd (omega arith)
turns_while condition body (suc n) zero k few holds fails =
    let here : k + 0 ≡ k = omega arith in
    rw (test_fails (condition k) (subst (λ i. condition i <ℤ pos 0) here fails)) refl
turns_while condition body (suc n) (suc d) k few holds fails =
    let here : k + 0 ≡ k = omega arith in
    let far : k + suc d ≡ k + 1 + d = omega arith in
    let rest = turns_while condition body n d (k + 1) (omega arith)
    (λ j h. let there : k + suc j ≡ k + 1 + j = omega arith in
    subst (λ i. pos 0 ≤ℤ condition i) there (holds (suc j) (omega arith)))
    (subst (λ i. condition i <ℤ pos 0) far fails) in
    rw (le_z_holds (pos 0) (condition k) (subst (λ i. pos 0 ≤ℤ condition i) here (holds 0 (omega arith))))
    (ap (λ xs. body k ++ xs) rest)

-- so it runs for no more turns than its first value says
few_turns : (z : ℤ) (m : ℕ) → (0 < m → pos m ≤ℤ (z +ℤ pos 1)) → m ≤ most_turns z
few_turns z zero bound = omega arith
few_turns (pos n) (suc m) bound = let b = bound (omega arith) in omega (arith, ints)
few_turns (negsuc n) (suc m) bound = let b = bound (omega arith) in absurd (omega (arith, ints))

last_turn : (condition : ℕ → ℤ) (m : ℕ) → Falls condition → RunsFor condition m → 0 < m
    → pos m ≤ℤ (condition 0 +ℤ pos 1)
last_turn condition zero falls runs some = absurd (omega arith)
last_turn condition (suc m) falls runs some =
    let before = fallen condition m falls in
    let last = runs.holds m (omega arith) in
    omega (arith, ints)

pub loop_turns : {A : Type 0} (condition : ℕ → ℤ) (body : ℕ → List A) (m : ℕ) → Falls condition → RunsFor condition m
    → loop_walk condition body ≡ flat_map body (range_with_len 0 m)
loop_turns condition body m falls runs =
    let few : m ≤ most_turns (condition 0) = few_turns (condition 0) m
    (λ some. last_turn condition m falls runs some) in
    turns_while condition body (most_turns (condition 0)) m 0 few
    (λ j h. let there : j ≡ 0 + j = omega arith in subst (λ i. pos 0 ≤ℤ condition i) there (runs.holds j h))
    (let there : m ≡ 0 + m = omega arith in subst (λ i. condition i <ℤ pos 0) there runs.fails)

pub below_most : (z : ℤ) → z <ℤ pos (most_turns z)
below_most (pos n) = omega (arith, ints)
below_most (negsuc n) = omega (arith, ints)

-- a condition that falls fails at some turn: the first one from k on, where its value there lies below n
first_failure : (condition : ℕ → ℤ) → Falls condition → (n k : ℕ) → condition k <ℤ pos n
    → ((j : ℕ) → j < k → pos 0 ≤ℤ condition j) → (m : ℕ) × RunsFor condition m
first_failure condition falls zero k below holds = (k, record { holds = holds; fails = below })
first_failure condition falls (suc n) k below holds =
    by_lt_z (condition k) (pos 0) (λ fails. (k, record { holds = holds; fails = fails }))
    (λ here. first_failure condition falls n (k + 1) (let less = falls k in omega (arith, ints))
    (below_more (λ j. pos 0 ≤ℤ condition j) k holds here))

pub loop_ends : (condition : ℕ → ℤ) → Falls condition → (m : ℕ) × RunsFor condition m
loop_ends condition falls =
    first_failure condition falls (most_turns (condition 0)) 0 (below_most (condition 0))
    (λ j h. absurd (omega arith))

pub ruleset loop_laws = (loop_turns, loop_ends)
