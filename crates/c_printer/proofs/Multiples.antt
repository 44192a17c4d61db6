-- Sums of entries and multiples of others, entry by entry.
use Rattle.scop_syntax.proofs.Common.{◌≡◌, ◌∙◌, ap, ap₂, sym, refl, ℕ, zero, suc, ◌+◌, ◌<◌, ◌≤◌, pos, List, [], ◌∷◌}
use Rattle.scop_syntax.proofs.Common.{length, drop, ◌++◌, get_or, add-one, append-nil, arith, FitsSigned, w64, w128}
use Rattle.scop_syntax.proofs.Common.{ints, drop_all, ℤ, ◌+ℤ◌, ◌*ℤ◌, max, sums, multiples, sums-nil, mul_zero_right}
use Rattle.scop_syntax.proofs.Common.{add_zero_left}
use Rattle.std.proofs.lemmas.List.{append_assoc}
use Rattle.wide_math.proofs.Narrow.{product_at_most, product_at_least}
use Rattle.whole_numbers.proofs.Ring.{add_comm_int}

nothing_added : (k x : ℤ) → x +ℤ (k *ℤ pos 0) ≡ x
nothing_added k x = ap (λ (z : ℤ). x +ℤ z) (mul_zero_right k) ∙ (add_comm_int x (pos 0) ∙ add_zero_left x)

-- the entries of one list alone
of_one : (xs : List ℤ) (i : ℕ) → i < length xs → drop i xs ≡ get_or xs i (pos 0) ∷ drop (suc i) xs
of_one [] i h = absurd (omega (arith, h))
of_one (x ∷ xs) zero h = refl
of_one (x ∷ xs) (suc i) h = of_one xs i (omega (arith, h))

-- the entry at a place of both lists, and those behind it
entry_ahead : (k : ℤ) (xs ys : List ℤ) (i : ℕ) → i < max (length xs) (length ys)
    → sums (drop i xs) (multiples k (drop i ys))
    ≡ (get_or xs i (pos 0) +ℤ (k *ℤ get_or ys i (pos 0))) ∷ sums (drop (suc i) xs) (multiples k (drop (suc i) ys))
entry_ahead k [] [] i h = absurd (omega (arith, h))
entry_ahead k (x ∷ xs) [] zero h = ap₂ (λ (z : ℤ) (zs : List ℤ). z ∷ zs) (sym (nothing_added k x)) (sym (sums-nil xs))
entry_ahead k (x ∷ xs) [] (suc i) h =
    sums-nil (drop i xs)
    ∙ (of_one xs i (omega (arith, h))
    ∙ ap₂ (λ (z : ℤ) (zs : List ℤ). z ∷ zs) (sym (nothing_added k (get_or xs i (pos 0))))
    (sym (sums-nil (drop (suc i) xs))))
entry_ahead k [] (y ∷ ys) zero h = ap (λ (z : ℤ). z ∷ multiples k ys) (sym (add_zero_left (k *ℤ y)))
entry_ahead k [] (y ∷ ys) (suc i) h =
    ap (multiples k) (of_one ys i (omega (arith, h)))
    ∙ ap (λ (z : ℤ). z ∷ multiples k (drop (suc i) ys)) (sym (add_zero_left (k *ℤ get_or ys i (pos 0))))
entry_ahead k (x ∷ xs) (y ∷ ys) zero h = refl
entry_ahead k (x ∷ xs) (y ∷ ys) (suc i) h = entry_ahead k xs ys i (omega (arith, h))

-- one sum more
pub sums_more : (k : ℤ) (xs ys all next whole : List ℤ) (i : ℕ) (z : ℤ) → i < max (length xs) (length ys)
    → next ≡ all ++ z ∷ [] → z ≡ get_or xs i (pos 0) +ℤ (k *ℤ get_or ys i (pos 0))
    → all ++ sums (drop i xs) (multiples k (drop i ys)) ≡ whole
    → next ++ sums (drop (i + 1) xs) (multiples k (drop (i + 1) ys)) ≡ whole
sums_more k xs ys all next whole i z h pushed is so_far =
    let rest = sums (drop (i + 1) xs) (multiples k (drop (i + 1) ys)) in
    let ahead : sums (drop i xs) (multiples k (drop i ys))
    ≡ (get_or xs i (pos 0) +ℤ (k *ℤ get_or ys i (pos 0))) ∷ rest = rw (add-one i) (entry_ahead k xs ys i h) in
    ap (λ (t : List ℤ). t ++ rest) pushed
    ∙ (append_assoc all (z ∷ []) rest
    ∙ (ap (λ (y : ℤ). all ++ y ∷ rest) is ∙ (ap (λ (t : List ℤ). all ++ t) (sym ahead) ∙ so_far)))

-- all sums are there
pub sums_all : (k : ℤ) (xs ys all whole : List ℤ) (i : ℕ) → max (length xs) (length ys) ≤ i
    → all ++ sums (drop i xs) (multiples k (drop i ys)) ≡ whole → all ≡ whole
sums_all k xs ys all whole i h so_far =
    sym (append-nil all)
    ∙ (ap₂ (λ (a b : List ℤ). all ++ sums a (multiples k b)) (sym (drop_all i xs (omega (arith, h))))
    (sym (drop_all i ys (omega (arith, h)))) ∙ so_far)

-- a number and a product of others, all of 64 bits, have 128 bits
pub sum_fits : (x y z : ℤ) → FitsSigned w64 x → FitsSigned w64 y → FitsSigned w64 z → FitsSigned w128 (x +ℤ (y *ℤ z))
sum_fits x y z fx fy fz =
    let p = product_at_most y z fy fz in
    let q = product_at_least y z fy fz in
    omega (arith, ints)
