-- Lexicographic order under sums and under positive factors, one for all entries or one for each.
use Rattle.std.proofs.Common.{◌≡◌, ℤ, pos, ◌*ℤ◌, ◌≤ℤ◌, ◌<ℤ◌, inl, inr, List, [], ◌∷◌, length, ◌↔◌, ap, ◌∙◌, arith}
use Rattle.std.proofs.lemmas.Int.{ints, by_lt_z}
use Rattle.whole_numbers.specs.Lists.{sums, multiples, products, Positive}
use Rattle.whole_numbers.specs.Lexicographic.{LexLe, LexNotNegative}
use Rattle.whole_numbers.proofs.Ring.{mul_comm_int, mul_zero_left, mul_zero_right}
use Rattle.whole_numbers.proofs.Order.{mul_positive, mul_lt_left, cancel_lt, cancel_eq}

-- sums keep the order
pub lex_sums : (xs ys us vs : List ℤ) → length xs ≡ length us → length ys ≡ length vs
    → LexLe xs ys → LexLe us vs → LexLe (sums xs us) (sums ys vs)
lex_sums [] ys [] vs e f h k = tt
lex_sums [] ys (u ∷ us) vs e f h k = absurd (omega arith)
lex_sums (x ∷ xs) ys [] vs e f h k = absurd (omega arith)
lex_sums (x ∷ xs) [] (u ∷ us) vs e f h k = absurd h
lex_sums (x ∷ xs) (y ∷ ys) (u ∷ us) [] e f h k = absurd k
lex_sums (x ∷ xs) (y ∷ ys) (u ∷ us) (v ∷ vs) e f (inl l) (inl m) = inl (omega (arith, ints))
lex_sums (x ∷ xs) (y ∷ ys) (u ∷ us) (v ∷ vs) e f (inl l) (inr m) = let g = m.0 in inl (omega (arith, ints))
lex_sums (x ∷ xs) (y ∷ ys) (u ∷ us) (v ∷ vs) e f (inr l) (inl m) = let g = l.0 in inl (omega (arith, ints))
lex_sums (x ∷ xs) (y ∷ ys) (u ∷ us) (v ∷ vs) e f (inr l) (inr m) =
    let g = l.0 in
    let h = m.0 in
    inr (omega (arith, ints), lex_sums xs ys us vs (omega arith) (omega arith) l.1 m.1)

-- one entry with a positive factor in front of lists whose order is the same
scaled_head : (k x y : ℤ) (us vs xs ys : List ℤ) → pos 0 <ℤ k → LexLe us vs ↔ LexLe xs ys
    → LexLe ((k *ℤ x) ∷ us) ((k *ℤ y) ∷ vs) ↔ LexLe (x ∷ xs) (y ∷ ys)
scaled_head k x y us vs xs ys p more = (shown, kept)
  where
    shown : LexLe ((k *ℤ x) ∷ us) ((k *ℤ y) ∷ vs) → LexLe (x ∷ xs) (y ∷ ys)
    shown (inl l) =
        let c = mul_comm_int k x in
        let d = mul_comm_int k y in
        inl (cancel_lt x y k (omega (arith, ints)) (omega (arith, ints)))
    shown (inr h) =
        let c = mul_comm_int k x in
        let d = mul_comm_int k y in
        let g = h.0 in
        inr (cancel_eq x y k p (omega (arith, ints)), more.0 h.1)

    kept : LexLe (x ∷ xs) (y ∷ ys) → LexLe ((k *ℤ x) ∷ us) ((k *ℤ y) ∷ vs)
    kept (inl l) = inl (mul_lt_left x y k l p)
    kept (inr h) = inr (ap (λ (z : ℤ). k *ℤ z) h.0, more.1 h.1)

-- a positive factor for each entry keeps the order and shows it
pub lex_products : (ks xs ys : List ℤ) → Positive ks → length ks ≡ length xs → length ks ≡ length ys
    → LexLe (products ks xs) (products ks ys) ↔ LexLe xs ys
lex_products [] [] ys p e f = (λ h. tt, λ h. tt)
lex_products [] (x ∷ xs) ys p e f = absurd (omega arith)
lex_products (k ∷ ks) [] ys p e f = absurd (omega arith)
lex_products (k ∷ ks) (x ∷ xs) [] p e f = absurd (omega arith)
lex_products (k ∷ ks) (x ∷ xs) (y ∷ ys) p e f =
    scaled_head k x y (products ks xs) (products ks ys) xs ys p.0
    (lex_products ks xs ys p.1 (omega arith) (omega arith))

-- one positive factor for all
pub lex_multiples : (k : ℤ) (xs ys : List ℤ) → pos 0 <ℤ k → LexLe (multiples k xs) (multiples k ys) ↔ LexLe xs ys
lex_multiples k [] ys p = (λ h. tt, λ h. tt)
lex_multiples k (x ∷ xs) [] p = (λ h. h, λ h. h)
lex_multiples k (x ∷ xs) (y ∷ ys) p =
    scaled_head k x y (multiples k xs) (multiples k ys) xs ys p (lex_multiples k xs ys p)

-- what is added decides whether a sum comes behind
pub lex_more : (xs us : List ℤ) → length us ≡ length xs → LexLe xs (sums xs us) ↔ LexNotNegative us
lex_more [] [] e = (λ h. tt, λ h. tt)
lex_more [] (u ∷ us) e = absurd (omega arith)
lex_more (x ∷ xs) [] e = absurd (omega arith)
lex_more (x ∷ xs) (u ∷ us) e = by_rest (lex_more xs us (omega arith))
  where
    by_rest : LexLe xs (sums xs us) ↔ LexNotNegative us
        → LexLe (x ∷ xs) (sums (x ∷ xs) (u ∷ us)) ↔ LexNotNegative (u ∷ us)
    by_rest more = (shown, kept)
      where
        shown : LexLe (x ∷ xs) (sums (x ∷ xs) (u ∷ us)) → LexNotNegative (u ∷ us)
        shown (inl l) = inl (omega (arith, ints))
        shown (inr h) = let g = h.0 in inr (omega (arith, ints), more.0 h.1)

        kept : LexNotNegative (u ∷ us) → LexLe (x ∷ xs) (sums (x ∷ xs) (u ∷ us))
        kept (inl l) = inl (omega (arith, ints))
        kept (inr h) = let g = h.0 in inr (omega (arith, ints), more.1 h.1)

-- lists that are not before zeros: their sums, their multiples, and those with a positive factor for each entry
pub lex_not_negative-sums : (xs ys : List ℤ) → LexNotNegative xs → LexNotNegative ys → LexNotNegative (sums xs ys)
lex_not_negative-sums [] ys h k = k
lex_not_negative-sums (x ∷ xs) [] h k = h
lex_not_negative-sums (x ∷ xs) (y ∷ ys) (inl l) (inl m) = inl (omega (arith, ints))
lex_not_negative-sums (x ∷ xs) (y ∷ ys) (inl l) (inr m) = let g = m.0 in inl (omega (arith, ints))
lex_not_negative-sums (x ∷ xs) (y ∷ ys) (inr l) (inl m) = let g = l.0 in inl (omega (arith, ints))
lex_not_negative-sums (x ∷ xs) (y ∷ ys) (inr l) (inr m) =
    let g = l.0 in
    let h = m.0 in
    inr (omega (arith, ints), lex_not_negative-sums xs ys l.1 m.1)

pub lex_not_negative-multiples : (k : ℤ) (xs : List ℤ) → pos 0 ≤ℤ k → LexNotNegative xs
    → LexNotNegative (multiples k xs)
lex_not_negative-multiples k [] p h = tt
lex_not_negative-multiples k (x ∷ xs) p (inr h) =
    let e = ap (λ (z : ℤ). k *ℤ z) h.0 in
    let z = mul_zero_right k in
    inr (omega (arith, ints), lex_not_negative-multiples k xs p h.1)
lex_not_negative-multiples k (x ∷ xs) p (inl l) =
    by_lt_z (pos 0) k
    (λ (m : pos 0 <ℤ k). inl (mul_positive k x m l))
    (λ (m : k ≤ℤ pos 0). let e : k ≡ pos 0 = omega (arith, ints) in all_zero k (x ∷ xs) e)
  where
    all_zero : (k : ℤ) (zs : List ℤ) → k ≡ pos 0 → LexNotNegative (multiples k zs)
    all_zero k [] e = tt
    all_zero k (z ∷ zs) e =
        inr (ap (λ (l : ℤ). l *ℤ z) e ∙ mul_zero_left z, all_zero k zs e)

pub lex_not_negative-products : (ks xs : List ℤ) → Positive ks → length ks ≡ length xs
    → LexNotNegative (products ks xs) ↔ LexNotNegative xs
lex_not_negative-products [] [] p e = (λ h. tt, λ h. tt)
lex_not_negative-products [] (x ∷ xs) p e = absurd (omega arith)
lex_not_negative-products (k ∷ ks) [] p e = absurd (omega arith)
lex_not_negative-products (k ∷ ks) (x ∷ xs) p e = by_rest (lex_not_negative-products ks xs p.1 (omega arith))
  where
    by_rest : LexNotNegative (products ks xs) ↔ LexNotNegative xs
        → LexNotNegative (products (k ∷ ks) (x ∷ xs)) ↔ LexNotNegative (x ∷ xs)
    by_rest more = (shown, kept)
      where
        shown : LexNotNegative (products (k ∷ ks) (x ∷ xs)) → LexNotNegative (x ∷ xs)
        shown (inl l) =
            let c = mul_comm_int k x in
            let z = mul_zero_left k in
            let positive = p.0 in
            inl (cancel_lt (pos 0) x k (omega (arith, ints)) (omega (arith, ints)))
        shown (inr h) =
            let c = mul_comm_int k x in
            let z = mul_zero_left k in
            let g = h.0 in
            inr (cancel_eq x (pos 0) k p.0 (omega (arith, ints)), more.0 h.1)

        kept : LexNotNegative (x ∷ xs) → LexNotNegative (products (k ∷ ks) (x ∷ xs))
        kept (inl l) = inl (mul_positive k x p.0 l)
        kept (inr h) = inr (ap (λ (z : ℤ). k *ℤ z) h.0 ∙ mul_zero_right k, more.1 h.1)

pub ruleset sum_laws = (lex_sums, lex_more)

pub ruleset factor_laws = (lex_multiples, lex_products)

pub ruleset not_negative_laws = (lex_not_negative-sums, lex_not_negative-multiples, lex_not_negative-products)
