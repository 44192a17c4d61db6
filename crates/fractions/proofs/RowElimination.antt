-- The elimination of a variable from rows, over fractions.
use Rattle.whole_numbers.proofs.Common.{◌≡◌, ℕ, ◌<◌, ℤ, pos, ◌*ℤ◌, ◌≤ℤ◌, ◌<ℤ◌, List, length, set, get_or, ap, All}
use Rattle.whole_numbers.proofs.Common.{arith, ints, All-append, multiples, Affine, cancel_le, all_front, all_back}
use Rattle.fractions.specs.Fractions.{value_over}
use Rattle.fractions.specs.Elimination.{coefficient_of, is_zero, is_positive, is_negative, chosen, combined}
use Rattle.fractions.specs.Elimination.{pairs, projected_rows}
use Rattle.fractions.proofs.PointValues.{rest_over, value_over-set, value_over-combined}
use Rattle.fractions.proofs.TightestBounds.{PairHolds, Asks, pair_from_fraction, fraction_from_pairs}
use Rattle.fractions.proofs.ChosenRows.{Passing, is_zero_iff, is_positive_iff, is_negative_iff, chosen_from}
use Rattle.fractions.proofs.ChosenRows.{chosen_to, pairs_from, pairs_to}

-- each row is at least 0 at numerators / d
abbrev pub NotNegative : ℤ → List ℤ → Affine → Type 0
NotNegative d xs f = pos 0 ≤ℤ value_over f d xs

-- each row is at least 0 where variable i is n / (k d)
abbrev pub NotNegativeAt : ℕ → ℤ → List ℤ → ℤ → ℤ → Affine → Type 0
NotNegativeAt i d xs k n f = pos 0 ≤ℤ value_over f (k *ℤ d) (set (multiples k xs) i n)

-- a row without the variable
zero_row : (i : ℕ) (d : ℤ) (xs : List ℤ) (f : Affine) → coefficient_of i f ≡ pos 0
    → rest_over i d xs f ≡ value_over f d xs
zero_row i d xs f e =
    let g = ap (λ (c : ℤ). c *ℤ get_or xs i (pos 0)) e in
    omega (arith, ints)

-- one way: where a fraction serves each row, the result holds
pub project_to : (i : ℕ) (rows : List Affine) (d : ℤ) (xs : List ℤ) (k n : ℤ) → i < length xs → pos 0 <ℤ k
    → All (NotNegativeAt i d xs k n) rows → All (NotNegative d xs) (projected_rows i rows)
project_to i rows d xs k n h hk all =
    All-append (NotNegative d xs) (chosen is_zero i rows)
    (pairs i (chosen is_positive i rows) (chosen is_negative i rows))
    (chosen_from (NotNegative d xs) is_zero i rows (λ j e inside. kept (get_or rows j e) (asked j e inside)))
    (pairs_from (NotNegative d xs) i (chosen is_positive i rows) (chosen is_negative i rows)
    (chosen_from EachPair is_positive i rows (λ j e inside. λ up.
    chosen_from (λ m. NotNegative d xs (combined i (get_or rows j e) m)) is_negative i rows (λ l c within. λ down.
    paired_up (get_or rows j e) (get_or rows l c) ((is_positive_iff (coefficient_of i (get_or rows j e))).0 up)
    ((is_negative_iff (coefficient_of i (get_or rows l c))).0 down) (asked j e inside) (asked l c within)))))
  where
    r : Affine → ℤ
    r f = rest_over i d xs f

    EachPair : Affine → Type 0
    EachPair p = All (λ m. NotNegative d xs (combined i p m)) (chosen is_negative i rows)

    asked : All (Asks (coefficient_of i) r k n) rows
    asked j e inside =
        let a = all j e inside in
        let v = value_over-set (get_or rows j e) k d xs i n h in
        rw v at a

    kept : (f : Affine) → Asks (coefficient_of i) r k n f → Passing (NotNegative d xs) is_zero i f
    kept f a zero =
        let e = (is_zero_iff (coefficient_of i f)).0 zero in
        let s = zero_row i d xs f e in
        let t = ap (λ (c : ℤ). c *ℤ n) e in
        let u = ap (λ (c : ℤ). k *ℤ c) s in
        cancel_le (pos 0) (value_over f d xs) k hk (omega (arith, ints))

    paired_up : (p m : Affine) → pos 0 <ℤ coefficient_of i p → coefficient_of i m <ℤ pos 0
        → Asks (coefficient_of i) r k n p
        → Asks (coefficient_of i) r k n m → NotNegative d xs (combined i p m)
    paired_up p m up down a b =
        let v = value_over-combined i p m d xs in
        let w = pair_from_fraction (coefficient_of i p) (r p) (coefficient_of i m) (r m) k n hk up down a b in
        omega (arith, ints)

-- the other way: where the result holds, some fraction serves each row
pub project_from : (i : ℕ) (rows : List Affine) (d : ℤ) (xs : List ℤ) → i < length xs
    → All (NotNegative d xs) (projected_rows i rows)
    → (k : ℤ) × (n : ℤ) × (pos 0 <ℤ k) × All (NotNegativeAt i d xs k n) rows
project_from i rows d xs h all = served (fraction_from_pairs (coefficient_of i) r rows zero both)
  where
    r : Affine → ℤ
    r f = rest_over i d xs f

    EachPair : Affine → Type 0
    EachPair p = All (λ m. NotNegative d xs (combined i p m)) (chosen is_negative i rows)

    front : All (NotNegative d xs) (chosen is_zero i rows)
    front = all_front (NotNegative d xs) (chosen is_zero i rows)
        (pairs i (chosen is_positive i rows) (chosen is_negative i rows)) all

    back : All (NotNegative d xs) (pairs i (chosen is_positive i rows) (chosen is_negative i rows))
    back = all_back (NotNegative d xs) (chosen is_zero i rows)
        (pairs i (chosen is_positive i rows) (chosen is_negative i rows)) all

    zero : All (λ f. coefficient_of i f ≡ pos 0 → pos 0 ≤ℤ r f) rows
    zero j e inside = λ z.
        let f = get_or rows j e in
        let a = chosen_to (NotNegative d xs) is_zero i rows front j e inside
        ((is_zero_iff (coefficient_of i f)).1 z) in
        let s = zero_row i d xs f z in
        omega (arith, ints)

    both : All (λ p. pos 0 <ℤ coefficient_of i p → All
        (λ m. coefficient_of i m <ℤ pos 0 → PairHolds (coefficient_of i) r p m) rows)
        rows
    both j e inside = λ up. λ l c within. λ down.
        let p = get_or rows j e in
        let m = get_or rows l c in
        let each = pairs_to (NotNegative d xs) i (chosen is_positive i rows) (chosen is_negative i rows) back in
        let one = chosen_to EachPair is_positive i rows each j e inside
        ((is_positive_iff (coefficient_of i p)).1 up) in
        let two = chosen_to (λ q. NotNegative d xs (combined i p q)) is_negative i rows one l c within
        ((is_negative_iff (coefficient_of i m)).1 down) in
        let v = value_over-combined i p m d xs in
        omega (arith, ints)

    served : (k : ℤ) × (n : ℤ) × (pos 0 <ℤ k) × All (Asks (coefficient_of i) r k n) rows
        → (k : ℤ) × (n : ℤ) × (pos 0 <ℤ k) × All (NotNegativeAt i d xs k n) rows
    served s = (
      s.0,
      s.1,
      s.2,
      λ j e inside.
          let a = s.3 j e inside in
          let v = value_over-set (get_or rows j e) s.0 d xs i s.1 h in
          rw v a,
    )
