-- Fourier's and Motzkin's lemma on lists of any things x that ask 0 <= k r(x) + a(x) n of a fraction n / k: the
-- tightest bound of such a list.
use Rattle.whole_numbers.proofs.Common.{◌≡◌, ℤ, pos, ◌+ℤ◌, ◌*ℤ◌, ◌≤ℤ◌, ◌<ℤ◌, neg_ℤ, List, [], ◌∷◌, get_or, ◌⊎◌, inl}
use Rattle.whole_numbers.proofs.Common.{inr, All, ap, arith, ⊤, ints, by_lt_z, All-cons, All-nil, All-head, All-tail}
use Rattle.whole_numbers.proofs.Common.{mul_neg_left, mul_neg_right, mul_distrib_left, left_comm, le_or_lt}
use Rattle.whole_numbers.proofs.Common.{mul_not_negative, mul_le_left, cancel_le}

-- the bound of p is at least that of q, and that of q at least that of x
pub bound_trans : (ap rp aq rq ax rx : ℤ) → pos 0 <ℤ ap → pos 0 <ℤ aq → pos 0 <ℤ ax
    → (ap *ℤ rq) ≤ℤ (aq *ℤ rp)
    → (ax *ℤ rp) ≤ℤ (ap *ℤ rx) → (ax *ℤ rq) ≤ℤ (aq *ℤ rx)
bound_trans ap rp aq rq ax rx hp hq hx h k =
    let m = mul_le_left (ap *ℤ rq) (aq *ℤ rp) ax h (omega (arith, ints)) in
    let n = mul_le_left (ax *ℤ rp) (ap *ℤ rx) aq k (omega (arith, ints)) in
    let s = left_comm ax ap rq in
    let t = left_comm ax aq rp in
    let u = left_comm aq ap rx in
    cancel_le (ax *ℤ rq) (aq *ℤ rx) ap hp (omega (arith, ints))

-- no x with 0 < a(x), or one of them whose bound -r / a is the greatest
pub record IsBest {X : Type 0} (a r : X → ℤ) (Q : X → Type 0) (xs : List X) : Type 0 where
  pub best : X
  pub positive : pos 0 <ℤ a best
  pub among : Q best
  pub greatest : All (λ x. pos 0 <ℤ a x → (a x *ℤ r best) ≤ℤ (a best *ℤ r x)) xs

-- one more x in front of a list with a best
best_cons : {X : Type 0} (a r : X → ℤ) (Q : X → Type 0) (x : X) (xs : List X) → pos 0 <ℤ a x → Q x
    → IsBest a r Q xs → IsBest a r Q (x ∷ xs)
best_cons {X} a r Q x xs up0 q b =
    decided (le_or_lt (a x *ℤ r b.best) (a b.best *ℤ r x))
  where
    Bound : X → X → Type 0
    Bound p y = pos 0 <ℤ a y → (a y *ℤ r p) ≤ℤ (a p *ℤ r y)

    decided : ((a x *ℤ r b.best) ≤ℤ (a b.best *ℤ r x)) ⊎ ((a b.best *ℤ r x) <ℤ (a x *ℤ r b.best))
        → IsBest a r Q (x ∷ xs)
    decided (inl kept) = record {
      best = b.best;
      positive = b.positive;
      among = b.among;
      greatest = All-cons (Bound b.best) x xs
          (λ _. kept) b.greatest;
    }
    decided (inr new) =
        record {
          best = x;
          positive = up0;
          among = q;
          greatest = All-cons (Bound x) x xs (λ _. omega (arith, ints))
              (λ k d inside. λ up. bound_trans (a b.best) (r b.best) (a x) (r x) (a (get_or xs k d))
              (r (get_or xs k d)) b.positive up0 up (omega (arith, ints)) (b.greatest k d inside up));
        }

pub best_of : {X : Type 0} (a r : X → ℤ) (Q : X → Type 0) (xs : List X) → All (λ x. pos 0 <ℤ a x → Q x) xs
    → All (λ x. a x ≤ℤ pos 0) xs ⊎ IsBest a r Q xs
best_of a r Q [] h = inl (All-nil (λ x. a x ≤ℤ pos 0))
best_of {X} a r Q (x ∷ xs) h =
    decided (le_or_lt (a x) (pos 0)) (best_of a r Q xs (All-tail Fine x xs h))
  where
    Fine : X → Type 0
    Fine y = pos 0 <ℤ a y → Q y

    Low : X → Type 0
    Low y = a y ≤ℤ pos 0

    Bound : X → X → Type 0
    Bound p y = pos 0 <ℤ a y → (a y *ℤ r p) ≤ℤ (a p *ℤ r y)

    decided : (a x ≤ℤ pos 0) ⊎ (pos 0 <ℤ a x) → All Low xs ⊎ IsBest a r Q xs → All Low (x ∷ xs)
        ⊎ IsBest a r Q (x ∷ xs)
    decided (inl low0) (inl none) = inl (All-cons Low x xs low0 none)
    decided (inl low0) (inr b) =
        inr (record {
          best = b.best;
          positive = b.positive;
          among = b.among;
          greatest = All-cons (Bound b.best) x xs (λ up. absurd (omega (arith, ints))) b.greatest;
        })
    decided (inr up0) (inl none) =
        inr (record {
          best = x;
          positive = up0;
          among = All-head Fine x xs h up0;
          greatest = All-cons (Bound x) x xs (λ _. omega (arith, ints))
              (λ k d inside. λ up. let low = none k d inside in absurd (omega (arith, ints)));
        })
    decided (inr up0) (inr b) = inr (best_cons a r Q x xs up0 (All-head Fine x xs h up0) b)

-- what a pair asks: b r(p) + a r(n) is not negative
abbrev pub PairHolds : {X : Type 0} → (X → ℤ) → (X → ℤ) → X → X → Type 0
PairHolds a r p n = pos 0 ≤ℤ ((neg_ℤ (a n) *ℤ r p) +ℤ (a p *ℤ r n))

-- what x asks of a fraction n / k
abbrev pub Asks : {X : Type 0} → (X → ℤ) → (X → ℤ) → ℤ → ℤ → X → Type 0
Asks a r k n x = pos 0 ≤ℤ ((k *ℤ r x) +ℤ (a x *ℤ n))

-- a fraction that each x allows makes each pair hold
pub pair_from_fraction : (a_p r_p a_n r_n k n : ℤ) → pos 0 <ℤ k → pos 0 <ℤ a_p → a_n <ℤ pos 0
    → pos 0 ≤ℤ ((k *ℤ r_p) +ℤ (a_p *ℤ n)) → pos 0 ≤ℤ ((k *ℤ r_n) +ℤ (a_n *ℤ n))
    → pos 0 ≤ℤ ((neg_ℤ a_n *ℤ r_p) +ℤ (a_p *ℤ r_n))
pair_from_fraction a_p r_p a_n r_n k n hk hp hn h g =
    let b = neg_ℤ a_n in
    let m = mul_not_negative b ((k *ℤ r_p) +ℤ (a_p *ℤ n)) (omega (arith, ints)) h in
    let o = mul_not_negative a_p ((k *ℤ r_n) +ℤ (a_n *ℤ n)) (omega (arith, ints)) g in
    let s = mul_distrib_left (k *ℤ r_p) (a_p *ℤ n) b in
    let t = mul_distrib_left (k *ℤ r_n) (a_n *ℤ n) a_p in
    let u = left_comm b k r_p in
    let v = left_comm a_p k r_n in
    let w = mul_neg_left a_n (a_p *ℤ n) in
    let x = left_comm a_p a_n n in
    let z = mul_distrib_left (b *ℤ r_p) (a_p *ℤ r_n) k in
    cancel_le (pos 0) ((b *ℤ r_p) +ℤ (a_p *ℤ r_n)) k hk (omega (arith, ints))

-- some fraction is allowed by each x, where those with a(x) = 0 hold and all pairs do
pub fraction_from_pairs : {X : Type 0} (a r : X → ℤ) (xs : List X)
    → All (λ x. a x ≡ pos 0 → pos 0 ≤ℤ r x) xs
    → All (λ p. pos 0 <ℤ a p → All (λ n. a n <ℤ pos 0 → PairHolds a r p n) xs) xs
    → (k : ℤ) × (n : ℤ) × (pos 0 <ℤ k) × All (Asks a r k n) xs
fraction_from_pairs {X} a r xs zero pairs = lower
    (best_of a r (λ p. All (λ n. a n <ℤ pos 0 → PairHolds a r p n) xs) xs pairs)
  where
    turned : X → ℤ
    turned x = neg_ℤ (a x)

    upper : All (λ x. a x ≤ℤ pos 0) xs → All (λ x. turned x ≤ℤ pos 0) xs ⊎ IsBest turned r (λ _. ⊤) xs
        → (k : ℤ) × (n : ℤ) × (pos 0 <ℤ k) × All (Asks a r k n) xs
    upper low (inl high) = (
      pos 1,
      pos 0,
      omega (arith, ints),
      λ k d inside.
          let x = get_or xs k d in
          let l = low k d inside in
          let h = high k d inside in
          let z = zero k d inside (omega (arith, ints)) in
          omega (arith, ints),
    )
    upper low (inr b) = (
      turned b.best,
      r b.best,
      b.positive,
      λ k d inside.
          let x = get_or xs k d in
          let l = low k d inside in
          by_sign x (zero k d inside) l (b.greatest k d inside),
    )
      where
        by_sign : (x : X) → (a x ≡ pos 0 → pos 0 ≤ℤ r x) → a x ≤ℤ pos 0
            → (pos 0 <ℤ turned x → (turned x *ℤ r b.best) ≤ℤ (turned b.best *ℤ r x))
            → Asks a r (turned b.best) (r b.best) x
        by_sign x z l g = by_lt_z (a x) (pos 0)
            (λ (h : a x <ℤ pos 0). let m = g (omega (arith, ints)) in let s = mul_neg_left (a x) (r b.best) in omega
            (arith, ints))
            (λ (h : pos 0 ≤ℤ a x).
            let e : a x ≡ pos 0 = omega (arith, ints) in
            let f = ap (λ (c : ℤ). c *ℤ r b.best) e in
            let m = mul_not_negative (turned b.best) (r x) (let p = b.positive in omega (arith, ints)) (z e) in
            omega (arith, ints))

    lower : All (λ x. a x ≤ℤ pos 0) xs ⊎ IsBest a r (λ p. All (λ n. a n <ℤ pos 0 → PairHolds a r p n) xs) xs
        → (k : ℤ) × (n : ℤ) × (pos 0 <ℤ k) × All (Asks a r k n) xs
    lower (inl low) = upper low (best_of turned r (λ _. ⊤) xs (λ k d inside. λ _. tt))
    lower (inr b) = (
      a b.best,
      neg_ℤ (r b.best),
      b.positive,
      λ k d inside.
          let x = get_or xs k d in
          by_sign x (zero k d inside) (b.among k d inside) (b.greatest k d inside),
    )
      where
        by_sign : (x : X) → (a x ≡ pos 0 → pos 0 ≤ℤ r x) → (a x <ℤ pos 0 → PairHolds a r b.best x)
            → (pos 0 <ℤ a x → (a x *ℤ r b.best) ≤ℤ (a b.best *ℤ r x)) → Asks a r (a b.best) (neg_ℤ (r b.best)) x
        by_sign x z u g =
            let s = mul_neg_right (a x) (r b.best) in
            by_lt_z (a x) (pos 0)
            (λ (h : a x <ℤ pos 0). let m = u h in let t = mul_neg_left (a x) (r b.best) in omega (arith, ints))
            (λ (h : pos 0 ≤ℤ a x). by_lt_z (pos 0) (a x)
            (λ (up : pos 0 <ℤ a x). let m = g up in omega (arith, ints))
            (λ (low : a x ≤ℤ pos 0).
            let e : a x ≡ pos 0 = omega (arith, ints) in
            let f = ap (λ (c : ℤ). c *ℤ r b.best) e in
            let m = mul_not_negative (a b.best) (r x) (let p = b.positive in omega (arith, ints)) (z e) in
            omega (arith, ints)))
