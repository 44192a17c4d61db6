-- A walk over values block by block, so many values at once, but for those outside of a range.
use Rattle.tree_simplification.proofs.Common.{◌≡◌, ℕ, zero, suc, ◌+◌, ◌*◌, ◌<◌, Bool, true, false, ℤ, pos, negsuc, List}
use Rattle.tree_simplification.proofs.Common.{[], ◌++◌, ap, ap₂, subst, sym, ◌∙◌, refl, arith, inl, inr, map, ◌⊎◌, ◌+ℤ◌}
use Rattle.tree_simplification.proofs.Common.{◌-ℤ◌, ◌*ℤ◌, ◌≤ℤ◌, ◌<ℤ◌, if◌then◌else◌, le_z, ints, map-append, le_or_lt}
use Rattle.tree_simplification.proofs.Common.{mul_comm_int, mul_distrib_left, mul_one_right, mul_sub_left, most_turns}
use Rattle.tree_simplification.proofs.Common.{holds_le_z, le_z_holds, append_assoc, append-nil, along, between_none}
use Rattle.tree_simplification.proofs.Common.{lies, masked}
use Rattle.std.proofs.Math.IntN.{pos-*ℤ-pos}
use Rattle.loop_tree.specs.Walk.{between}
use Rattle.tree_simplification.proofs.Walks.{along_same}

-- a walk that gives nothing
along_none : {A : Type 0} (f : ℤ → List A) (n : ℕ) (x : ℤ) → ((y : ℤ) → x ≤ℤ y → y <ℤ (x +ℤ pos n) → f y ≡ [])
    → along f x n ≡ []
along_none f zero x none = refl
along_none {A} f (suc n) x none =
    ap₂ (λ (us vs : List A). us ++ vs) (none x (omega (arith, ints)) (omega (arith, ints)))
    (along_none f n (x +ℤ pos 1) (λ y a b. none y (omega (arith, ints)) (omega (arith, ints))))

-- a walk over some values and others behind them
pub along_more : {A : Type 0} (f : ℤ → List A) (i j : ℕ) (x : ℤ)
    → along f x (i + j) ≡ along f x i ++ along f (x +ℤ pos i) j
along_more {A} f zero j x =
    let e : 0 + j ≡ j = omega arith in
    let z : x ≡ x +ℤ pos 0 = omega (arith, ints) in
    ap (λ (k : ℕ). along f x k) e ∙ ap (λ (y : ℤ). along f y j) z
along_more {A} f (suc i) j x =
    let e : suc i + j ≡ suc (i + j) = omega arith in
    let z : (x +ℤ pos 1) +ℤ pos i ≡ x +ℤ pos (suc i) = omega (arith, ints) in
    ap (λ (k : ℕ). along f x k) e
    ∙ (ap (λ (us : List A). f x ++ us)
    (along_more f i j (x +ℤ pos 1) ∙ ap (λ (y : ℤ). along f (x +ℤ pos 1) i ++ along f y j) z)
    ∙ sym (append_assoc (f x) (along f (x +ℤ pos 1) i) (along f (x +ℤ pos (suc i)) j)))

-- one value more
pub along_next : {A : Type 0} (f : ℤ → List A) (n : ℕ) (x : ℤ) → along f x (n + 1) ≡ along f x n ++ f (x +ℤ pos n)
along_next {A} f n x =
    along_more f n 1 x ∙ ap (λ (us : List A). along f x n ++ us) (append-nil (f (x +ℤ pos n)))

-- what a change of each element makes of a walk
pub map_along : {A B : Type 0} (g : A → B) (f : ℤ → List A) (n : ℕ) (x : ℤ)
    → map g (along f x n) ≡ along (λ y. map g (f y)) x n
map_along g f zero x = refl
map_along {A} {B} g f (suc n) x =
    map-append g (f x) (along f (x +ℤ pos 1) n)
    ∙ ap (λ (us : List B). map g (f x) ++ us) (map_along g f n (x +ℤ pos 1))

-- whether a value lies within
pub lies_in : (first last x : ℤ) → first ≤ℤ x → x ≤ℤ last → lies first last x ≡ true
lies_in first last x a b =
    ap₂ (λ (p q : Bool). if p then q else false) (le_z_holds first x a) (le_z_holds x last b)

le_z_fails : (a b : ℤ) → b <ℤ a → le_z a b ≡ false
le_z_fails a b h = at (le_z a b) refl
  where
    at : (p : Bool) → p ≡ le_z a b → p ≡ false
    at true e = let k = holds_le_z a b (sym e) in absurd (omega (arith, ints))
    at false e = refl

pub lies_below : (first last x : ℤ) → x <ℤ first → lies first last x ≡ false
lies_below first last x h = ap (λ (p : Bool). if p then le_z x last else false) (le_z_fails first x h)

pub lies_above : (first last x : ℤ) → last <ℤ x → lies first last x ≡ false
lies_above first last x h =
    ap (λ (q : Bool). if le_z first x then q else false) (le_z_fails x last h) ∙ never (le_z first x)
  where
    never : (p : Bool) → (if p then false else false) ≡ false
    never true = refl
    never false = refl

masked_not : {A : Type 0} (first last x : ℤ) (f : ℤ → List A) → lies first last x ≡ false → masked first last f x ≡ []
masked_not {A} first last x f h = ap (λ (p : Bool). if p then f x else []) h

masked_in : {A : Type 0} (first last x : ℤ) (f : ℤ → List A) → lies first last x ≡ true
    → masked first last f x ≡ f x
masked_in {A} first last x f h = ap (λ (p : Bool). if p then f x else []) h

-- as a natural number
count_of : (x y : ℤ) → x ≤ℤ y → (d : ℕ) × (y ≡ x +ℤ pos d)
count_of x y h = at (y -ℤ x) refl
  where
    at : (z : ℤ) → z ≡ y -ℤ x → (d : ℕ) × (y ≡ x +ℤ pos d)
    at (pos d) e = (d, omega (arith, ints))
    at (negsuc d) e = absurd (omega (arith, ints))

-- a walk over more than a range
covers : {A : Type 0} (f : ℤ → List A) (first last a : ℤ) (n : ℕ)
    → (first ≤ℤ last → (a ≤ℤ first) × (last <ℤ (a +ℤ pos n))) → along (masked first last f) a n ≡ between f first last
covers {A} f first last a n inside = elim (le_or_lt first last) [
  | inr less ↦
      along_none (masked first last f) n a (λ y b c. masked_not first last y f (outside y less (le_or_lt first y)))
      ∙ sym (between_none f first last less)
  | inl some ↦
      let i = count_of a first (inside some).0 in
      let c = count_of first last some in
      let j = count_of (last +ℤ pos 1) (a +ℤ pos n) (let k = (inside some).1 in omega (arith, ints)) in
      whole i.0 c.0 j.0 i.1 c.1 j.1
]
  where
    outside : (y : ℤ) → last <ℤ first → (first ≤ℤ y) ⊎ (y <ℤ first) → lies first last y ≡ false
    outside y less (inl b) = lies_above first last y (omega (arith, ints))
    outside y less (inr b) = lies_below first last y b

    whole : (i c j : ℕ) → first ≡ a +ℤ pos i → last ≡ first +ℤ pos c → a +ℤ pos n ≡ (last +ℤ pos 1) +ℤ pos j
        → along (masked first last f) a n ≡ between f first last
    whole i c j p q r =
        let m : ℤ → List A = masked first last f in
        let e : n ≡ i + (suc c + j) = omega (arith, ints) in
        let s : a +ℤ pos i ≡ first = sym p in
        let t : last -ℤ first ≡ pos c = omega (arith, ints) in
        let before = along_none m i a
        (λ y b d. masked_not first last y f (lies_below first last y (omega (arith, ints)))) in
        let here = along_same m f (suc c) first
        (λ y b d. masked_in first last y f (lies_in first last y b (omega (arith, ints)))) in
        let behind = along_none m j (first +ℤ pos (suc c))
        (λ y b d. masked_not first last y f (lies_above first last y (omega (arith, ints)))) in
        ap (λ (k : ℕ). along m a k) e
        ∙ (along_more m i (suc c + j) a
        ∙ (ap₂ (λ (us : List A) (x : ℤ). us ++ along m x (suc c + j)) before s
        ∙ (along_more m (suc c) j first
        ∙ (ap₂ (λ (us vs : List A). us ++ vs) here behind
        ∙ (append-nil (along f first (suc c)) ∙ sym (ap (λ (z : ℤ). along f first (most_turns z)) t))))))

-- a range of one value at most
pub masked_once : {A : Type 0} (f : ℤ → List A) (first last x : ℤ) → x ≤ℤ first → last ≤ℤ x
    → masked first last f x ≡ between f first last
masked_once f first last x a b =
    sym (append-nil (masked first last f x)) ∙ covers f first last x 1 (λ h. (a, omega (arith, ints)))

-- blocks, one after another
blocks_are : {A : Type 0} (f : ℤ → List A) (by n : ℕ) (q : ℤ)
    → along (λ p. along f (pos by *ℤ p) by) q n ≡ along f (pos by *ℤ q) (n * by)
blocks_are f by zero q =
    let e : 0 * by ≡ 0 = omega arith in sym (ap (λ (k : ℕ). along f (pos by *ℤ q) k) e)
blocks_are {A} f by (suc n) q =
    let e : suc n * by ≡ by + n * by = omega arith in
    let d = mul_distrib_left q (pos 1) (pos by) in
    let o = mul_one_right (pos by) in
    let z : pos by *ℤ (q +ℤ pos 1) ≡ (pos by *ℤ q) +ℤ pos by = omega (arith, ints, d, o) in
    ap (λ (us : List A). along f (pos by *ℤ q) by ++ us)
    (blocks_are f by n (q +ℤ pos 1) ∙ ap (λ (y : ℤ). along f y (n * by)) z)
    ∙ (sym (along_more f by (n * by) (pos by *ℤ q)) ∙ ap (λ (k : ℕ). along f (pos by *ℤ q) k) (sym e))

-- a block's number lies between these where the block has a value at least the first, and one at most the last
pub record AreBlocksOf (by : ℕ) (first last low high : ℤ) : Type 0 where
  pub above : (q : ℤ) → low ≤ℤ q → first ≤ℤ ((pos by *ℤ q) +ℤ (pos by -ℤ pos 1))
  pub from : (q : ℤ) → first ≤ℤ ((pos by *ℤ q) +ℤ (pos by -ℤ pos 1)) → low ≤ℤ q
  pub below : (q : ℤ) → q ≤ℤ high → (pos by *ℤ q) ≤ℤ last
  pub to : (q : ℤ) → (pos by *ℤ q) ≤ℤ last → q ≤ℤ high

-- the blocks' values are those of the range
pub blockwise : {A : Type 0} (f : ℤ → List A) (by : ℕ) (first last low high : ℤ) → 0 < by
    → AreBlocksOf by first last low high
    → between (λ q. along (masked first last f) (pos by *ℤ q) by) low high ≡ between f first last
blockwise {A} f by first last low high some are =
    let n = most_turns (high -ℤ low) in
    blocks_are (masked first last f) by n low
    ∙ covers f first last (pos by *ℤ low) (n * by) (λ h. (begins, ends h))
  where
    begins : (pos by *ℤ low) ≤ℤ first
    begins = elim (le_or_lt (pos by *ℤ low) first) [
      | inl h ↦ h
      | inr h ↦
          let d = mul_sub_left low (pos 1) (pos by) in
          let o = mul_one_right (pos by) in
          let l = are.from (low -ℤ pos 1) (omega (arith, ints, d, o)) in
          absurd (omega (arith, ints, l))
    ]

    ends : first ≤ℤ last → last <ℤ ((pos by *ℤ low) +ℤ pos (most_turns (high -ℤ low) * by))
    ends h =
        let c = count_of low high (are.to low (omega (arith, ints, begins, h))) in
        reach c.0 c.1
      where
        reach : (c : ℕ) → high ≡ low +ℤ pos c → last <ℤ ((pos by *ℤ low) +ℤ pos (most_turns (high -ℤ low) * by))
        reach c e =
            let t : high -ℤ low ≡ pos c = omega (arith, ints) in
            subst (λ (z : ℤ). last <ℤ ((pos by *ℤ low) +ℤ pos (most_turns z * by))) (sym t) (over c e)
          where
            over : (c : ℕ) → high ≡ low +ℤ pos c → last <ℤ ((pos by *ℤ low) +ℤ pos (suc c * by))
            over c e = elim (le_or_lt (pos by *ℤ (high +ℤ pos 1)) last) [
              | inl l ↦ let k = are.to (high +ℤ pos 1) l in absurd (omega (arith, ints, k))
              | inr l ↦
                  let p = pos-*ℤ-pos (suc c) by in
                  let m = mul_comm_int (pos (suc c)) (pos by) in
                  let d = mul_distrib_left low (pos (suc c)) (pos by) in
                  let z : high +ℤ pos 1 ≡ low +ℤ pos (suc c) = omega (arith, ints) in
                  let y = ap (λ (x : ℤ). pos by *ℤ x) z in
                  omega (arith, ints, l, p, m, d, y)
            ]
