-- The sizes of kernel vectors: with each vector that goes the others become minors of one row more, up to four rows.
use Rattle.whole_numbers.proofs.Common.{◌≡◌, ℕ, zero, suc, ◌+◌, ◌*◌, ◌<◌, ◌≤◌, ◌^◌, ℤ, pos, negsuc, ◌-ℤ◌, ◌*ℤ◌, neg_ℤ}
use Rattle.whole_numbers.proofs.Common.{Bool, true, false, List, [], ◌∷◌, map, refl, sym, ◌∙◌, ap, subst, ◌⊎◌, inl, inr}
use Rattle.whole_numbers.proofs.Common.{arith, length, All, if◌then◌else◌, ints, length-map, All-cons, All-nil}
use Rattle.whole_numbers.proofs.Common.{All-head, All-tail, All-same, All-weaker, get_or-set_same, length-set}
use Rattle.whole_numbers.proofs.Common.{All-get_or, get_or, set, dot, multiples, zeros, Divides, divides_sizes}
use Rattle.whole_numbers.proofs.Common.{content_divides, dot-unit, length-zeros, content, lowest, mul_one_left}
use Rattle.std.proofs.Math.Nat.{mul-le-mul}
use Rattle.std.proofs.lemmas.Nat.Gcd.{le_of_dvd}
use Rattle.null_space.specs.Narrowing.{is_zero, made_flat, against, narrowed_by, narrowed_all, kernel_vectors}
use Rattle.null_space.specs.Narrowing.{units_from}
use Rattle.null_space.specs.Echelon.{at}
use Rattle.null_space.proofs.Minors.{minor₂, minor₃, minor₄}
use Rattle.null_space.specs.Sizes.{IsWithin, AreWithin, AreNarrow}
use Rattle.null_space.proofs.Minors.{minor₂_divided, minor₃_divided}
use Rattle.null_space.proofs.Sizes.{two, three, four, minor₂_within, minor₃_within, minor₄_within, units_length}
use Rattle.null_space.proofs.Sizes.{within_factor, are_within_more, are_within_factor, are_within_multiples}
use Rattle.null_space.proofs.Sizes.{are_within_sums, within_at}
use Rattle.null_space.proofs.Functionals.{Along, unit, along_within, product_some, against_along, front_along}
use Rattle.null_space.proofs.Functionals.{lowest_factor}

pub zero_of : (z : ℤ) → ((is_zero z ≡ true) × (z ≡ pos 0)) ⊎ ((is_zero z ≡ false) × (z ≡ pos 0 → ⊥))
zero_of (pos zero) = inl (refl, refl)
zero_of (pos (suc n)) = inr (refl, λ e. omega (arith, ints))
zero_of (negsuc n) = inr (refl, λ e. omega (arith, ints))

pub narrowed_yes : (c n : List ℤ) (ns : List (List ℤ)) → is_zero (dot n c) ≡ true
    → narrowed_by c (n ∷ ns) ≡ n ∷ narrowed_by c ns
narrowed_yes c n ns h = ap (λ (b : Bool). if b then n ∷ narrowed_by c ns else map (against c n) ns) h

pub narrowed_off : (c n : List ℤ) (ns : List (List ℤ)) → is_zero (dot n c) ≡ false
    → narrowed_by c (n ∷ ns) ≡ map (against c n) ns
narrowed_off c n ns h = ap (λ (b : Bool). if b then n ∷ narrowed_by c ns else map (against c n) ns) h

-- each vector is along its column's functional
abbrev pub Each : (ℕ → List ℤ → ℤ) → List (List ℤ) → Type 0
Each F ns = All (λ v. (j : ℕ) × Along v (F j)) ns

module _ (F : ℕ → List ℤ → ℤ) (G : ℕ → ℕ → List ℤ → ℤ) (c : List ℤ) (q : ℤ) (some : q ≡ pos 0 → ⊥)
    (divided : (e j : ℕ) (w : List ℤ) → (F e c *ℤ F j w) -ℤ (F j c *ℤ F e w) ≡ q *ℤ G e j w) where
  each_against : (n : List ℤ) (e : ℕ) → Along n (F e) → (ns : List (List ℤ)) → Each F ns
      → Each (G e) (map (against c n) ns)
  each_against n e a [] all = All-nil (λ v. (j : ℕ) × Along v (G e j))
  each_against n e a (v ∷ ns) all =
      let b = All-head (λ u. (j : ℕ) × Along u (F j)) v ns all in
      All-cons (λ u. (j : ℕ) × Along u (G e j)) (against c n v) (map (against c n) ns)
      (b.0, against_along c n v (F e) (F b.0) (G e b.0) q a b.1 some (divided e b.0))
      (each_against n e a ns (All-tail (λ u. (j : ℕ) × Along u (F j)) v ns all))

  -- nothing changes, or one vector goes and the others are along what its functional leaves of theirs
  pub narrowed_each : (ns : List (List ℤ)) → Each F ns → (narrowed_by c ns ≡ ns)
      ⊎ ((e : ℕ) × (F e c ≡ pos 0 → ⊥) × (suc (length (narrowed_by c ns)) ≡ length ns) × Each (G e)
      (narrowed_by c ns))
  narrowed_each [] all = inl refl
  narrowed_each (n ∷ ns) all =
      let a = All-head (λ u. (j : ℕ) × Along u (F j)) n ns all in
      let more = All-tail (λ u. (j : ℕ) × Along u (F j)) n ns all in
      elim (zero_of (dot n c)) [
        | inl z ↦ elim (narrowed_each ns more) [
          | inl same ↦ inl (narrowed_yes c n ns z.0 ∙ ap (λ (l : List (List ℤ)). n ∷ l) same)
          | inr r ↦ inr (
            r.0,
            r.1,
            let f = ap length (narrowed_yes c n ns z.0) in let g = r.2 in omega (arith, f, g),
            All-same (λ u. (j : ℕ) × Along u (G r.0 j)) (narrowed_by c (n ∷ ns)) (n ∷ narrowed_by c ns)
                (narrowed_yes c n ns z.0)
                (All-cons (λ u. (j : ℕ) × Along u (G r.0 j)) n (narrowed_by c ns)
                (a.0, front_along c n (F r.0) (F a.0) (G r.0 a.0) q r.1 a.1 some z.1 (divided r.0 a.0)) r.3),
          )
        ]
        | inr z ↦ inr (
          a.0,
          (λ e. product_some a.1.factor (dot n c) a.1.some z.1 (a.1.is c ∙ e)),
          (let f = ap length (narrowed_off c n ns z.0) in let g = length-map ns
              (against c n) in omega (arith, f, g)),
          All-same (λ u. (j : ℕ) × Along u (G a.0 j)) (narrowed_by c (n ∷ ns)) (map (against c n) ns)
              (narrowed_off c n ns z.0)
              (each_against n a.0 a.1 ns more),
        )
      ]

-- sizes where the vectors are no minors any more
flat_within : (k l : ℕ) (p b : ℤ) (n v : List ℤ) → IsWithin l p → IsWithin l b → AreWithin k n → AreWithin k v
    → AreWithin (l * k + l * k) (made_flat p b n v)
flat_within k l (pos a) b n v h i f g =
    are_within_sums (l * k) (l * k) (multiples (pos a) v) (multiples (neg_ℤ b) n)
    (are_within_multiples k l (pos a) v h g) (are_within_multiples k l (neg_ℤ b) n (omega (arith, ints)) f)
flat_within k l (negsuc a) b n v h i f g =
    are_within_sums (l * k) (l * k) (multiples (pos (suc a)) v) (multiples b n)
    (are_within_multiples k l (pos (suc a)) v (omega (arith, ints)) g) (are_within_multiples k l b n i f)

against_within : (k l : ℕ) (c n v : List ℤ) → IsWithin l (dot n c) → IsWithin l (dot v c) → AreWithin k n
    → AreWithin k v
    → AreWithin (k + (l * k + l * k)) (against c n v)
against_within k l c n v h i f g =
    let x = made_flat (dot n c) (dot v c) n v in
    let e = lowest_factor x in
    let all = flat_within k l (dot n c) (dot v c) n v h i f g in
    are_within_more (l * k + l * k) (k + (l * k + l * k)) (lowest x) (omega arith)
    (are_within_factor (l * k + l * k) e.0 (lowest x) (λ z. let o = e.1 in omega (arith, ints))
    (subst (AreWithin (l * k + l * k)) e.2 all))

module _ (k l : ℕ) (c : List ℤ) where
  abbrev Fine : List ℤ → Type 0
  Fine v = AreWithin k v × IsWithin l (dot v c)

  all_against : (n : List ℤ) → Fine n → (ns : List (List ℤ)) → All Fine ns
      → All (AreWithin (k + (l * k + l * k))) (map (against c n) ns)
  all_against n a [] all = All-nil (AreWithin (k + (l * k + l * k)))
  all_against n a (v ∷ ns) all =
      let b = All-head Fine v ns all in
      All-cons (AreWithin (k + (l * k + l * k))) (against c n v) (map (against c n) ns)
      (against_within k l c n v a.1 b.1 a.0 b.0) (all_against n a ns (All-tail Fine v ns all))

  narrowed_great : (ns : List (List ℤ)) → All Fine ns → (narrowed_by c ns ≡ ns)
      ⊎ ((suc (length (narrowed_by c ns)) ≡ length ns) × All (AreWithin (k + (l * k + l * k)))
      (narrowed_by c ns))
  narrowed_great [] all = inl refl
  narrowed_great (n ∷ ns) all =
      let a = All-head Fine n ns all in
      let more = All-tail Fine n ns all in
      let P = AreWithin (k + (l * k + l * k)) in
      elim (zero_of (dot n c)) [
        | inl z ↦ elim (narrowed_great ns more) [
          | inl same ↦ inl (narrowed_yes c n ns z.0 ∙ ap (λ (l : List (List ℤ)). n ∷ l) same)
          | inr r ↦ inr (
            let f = ap length (narrowed_yes c n ns z.0) in let g = r.0 in omega (arith, f, g),
            All-same P (narrowed_by c (n ∷ ns)) (n ∷ narrowed_by c ns) (narrowed_yes c n ns z.0)
                (All-cons P n (narrowed_by c ns)
                (are_within_more k (k + (l * k + l * k)) n (omega arith) a.0) r.1),
          )
        ]
        | inr z ↦ inr (
          let f = ap length (narrowed_off c n ns z.0) in let g = length-map ns (against c n) in
              omega (arith, f, g),
          All-same P (narrowed_by c (n ∷ ns)) (map (against c n) ns) (narrowed_off c n ns z.0)
              (all_against n a ns more),
        )
      ]

-- where the vectors stand after as many have gone
unfoldable pub great : ℕ → ℕ
great m = four m 1 + (four m m * four m 1 + four m m * four m 1)

pub data Stage (m n : ℕ) (ns : List (List ℤ)) : Type 0 where
  units : length ns ≤ n → Each (λ j w. at w j) ns → Stage m n ns
  of_one : (r : List ℤ) (a : ℕ) → length ns + 1 ≤ n → AreWithin m r → (at r a ≡ pos 0 → ⊥)
      → Each (minor₂ r a) ns → Stage m n ns
  of_two : (r c : List ℤ) (a b : ℕ) → length ns + 2 ≤ n → AreWithin m r → AreWithin m c
      → (minor₂ r a b c ≡ pos 0 → ⊥)
      → Each (minor₃ r c a b) ns → Stage m n ns
  of_three : (r c d : List ℤ) (a b e : ℕ) → length ns + 3 ≤ n → AreWithin m r → AreWithin m c → AreWithin m d
      → Each (minor₄ r c d a b e) ns → Stage m n ns
  of_four : length ns + 4 ≤ n → All (AreWithin (great m)) ns → Stage m n ns

one_some : pos 1 ≡ pos 0 → ⊥
one_some e = omega (arith, ints)

unit_within : (i : ℕ) → AreWithin 1 (unit i)
unfolding unit
unit_within zero = All-cons (IsWithin 1) (pos 1) [] (omega (arith, ints)) (All-nil (IsWithin 1))
unit_within (suc i) = All-cons (IsWithin 1) (pos 0) (unit i) (omega (arith, ints)) (unit_within i)

same_stage : (m n : ℕ) (c : List ℤ) (ns : List (List ℤ)) → narrowed_by c ns ≡ ns → Stage m n ns
    → Stage m n (narrowed_by c ns)
same_stage m n c ns e s = subst (Stage m n) (sym e) s

few : (n : ℕ) (c : List ℤ) (P : List ℤ → Type 0) (ns : List (List ℤ)) → length ns ≤ 1 → All P ns
    → All P (narrowed_by c ns) × (length (narrowed_by c ns) ≤ length ns)
few n c P [] h all = (all, omega arith)
few n c P (v ∷ []) h all = elim (zero_of (dot v c)) [
  | inl z ↦ (
    All-same P (narrowed_by c (v ∷ [])) (v ∷ []) (narrowed_yes c v [] z.0) all,
    let f = ap length
        (narrowed_yes c v [] z.0) in omega (arith, f),
  )
  | inr z ↦ (
    All-same P (narrowed_by c (v ∷ [])) [] (narrowed_off c v [] z.0) (All-nil P),
    let f = ap length
        (narrowed_off c v [] z.0) in omega (arith, f),
  )
]
few n c P (v ∷ u ∷ ns) h all = absurd (omega arith)

pub stage_narrowed : (m n : ℕ) (c : List ℤ) (ns : List (List ℤ)) → n ≤ 5 → AreWithin m c → Stage m n ns
    → Stage m n (narrowed_by c ns)
unfolding great
stage_narrowed m n c ns five h (units l each) =
    elim (narrowed_each (λ j w. at w j) (minor₂ c) c (pos 1) one_some
    (λ e j w. sym (mul_one_left (minor₂ c e j w))) ns each) [
      | inl e ↦ same_stage m n c ns e (units l each)
      | inr r ↦ of_one c r.0 (let f = r.2 in omega (arith, f)) h r.1 r.3
    ]
stage_narrowed m n c ns five h (of_one r a l i some each) =
    elim (narrowed_each (minor₂ r a) (minor₃ r c a) c (at r a) some
    (λ e j w. minor₂_divided r c a e j w) ns each) [
      | inl e ↦ same_stage m n c ns e (of_one r a l i some each)
      | inr s ↦ of_two r c a s.0 (let f = s.2 in omega (arith, f)) i h s.1 s.3
    ]
stage_narrowed m n d ns five h (of_two r c a b l i k some each) =
    elim (narrowed_each (minor₃ r c a b) (minor₄ r c d a b) d (minor₂ r a b c) some
    (λ e j w. minor₃_divided r c d a b e j w) ns each) [
      | inl e ↦ same_stage m n d ns e (of_two r c a b l i k some each)
      | inr s ↦ of_three r c d a b s.0 (let f = s.2 in omega (arith, f)) i k h s.3
    ]
stage_narrowed m n x ns five h (of_three r c d a b e l i k o each) =
    let fine : (v : List ℤ) → (j : ℕ) × Along v
    (minor₄ r c d a b e j) → AreWithin (four m 1) v × IsWithin (four m m) (dot v x) = λ v s. (
      along_within (four m 1) v (minor₄ r c d a b e s.0) s.1
          (λ u. minor₄_within m 1 r c d a b e s.0 (unit u) i k o (unit_within u)),
      within_factor (four m m) s.1.factor (dot v x) s.1.some
          (subst (IsWithin (four m m)) (sym (s.1.is x)) (minor₄_within m m r c d a b e s.0 x i k o h)),
    ) in
    elim (narrowed_great (four m 1) (four m m) x ns
    (All-weaker (λ v. (j : ℕ) × Along v (minor₄ r c d a b e j))
    (λ v. AreWithin (four m 1) v × IsWithin (four m m) (dot v x)) fine ns each)) [
      | inl same ↦ same_stage m n x ns same (of_three r c d a b e l i k o each)
      | inr s ↦ of_four (let f = s.0 in omega (arith, f)) s.1
    ]
stage_narrowed m n c ns five h (of_four l all) =
    let s = few n c (AreWithin (great m)) ns (omega arith) all in
    let f = s.1 in
    of_four (omega (arith, f)) s.0

pub stage_narrowed_all : (m n : ℕ) (cs ns : List (List ℤ)) → n ≤ 5 → All (AreWithin m) cs → Stage m n ns
    → Stage m n (narrowed_all cs ns)
stage_narrowed_all m n [] ns five all s = s
stage_narrowed_all m n (c ∷ cs) ns five all s =
    stage_narrowed_all m n cs (narrowed_by c ns) five (All-tail (AreWithin m) c cs all)
    (stage_narrowed m n c ns five (All-head (AreWithin m) c cs all) s)

-- the units
one_divisor : (c : ℕ) → Divides (pos c) (pos 1) → c ≤ 1
one_divisor c d = le_of_dvd (omega arith) (divides_sizes (pos c) (pos 1) d)

pub unit_along : (n i : ℕ) → i < n → Along (set (zeros n) i (pos 1)) (λ w. at w i)
unit_along n i h =
    let v = set (zeros n) i (pos 1) in
    let f = length-zeros n in
    let same : get_or v i (pos 0) ≡ pos 1 = get_or-set_same (zeros n) i (pos 1) (pos 0) (omega (arith, f)) in
    let sized : i < length v = let g = length-set (zeros n) i (pos 1) in omega (arith, f, g) in
    record {
      low = one_divisor (content v)
          (subst (Divides (pos (content v))) same
          (All-get_or (Divides (pos (content v))) v i (pos 0) sized (content_divides v)));
      factor = pos 1;
      some = one_some;
      is = λ w. mul_one_left (dot v w) ∙ dot-unit n i w h;
    }

units_each : (n i k : ℕ) → i + k ≤ n → Each (λ j w. at w j) (units_from n i k)
units_each n i zero h = All-nil (λ v. (j : ℕ) × Along v (λ w. at w j))
units_each n i (suc k) h =
    All-cons (λ v. (j : ℕ) × Along v (λ w. at w j)) (set (zeros n) i (pos 1)) (units_from n (i + 1) k)
    (i, unit_along n i (omega arith)) (units_each n (i + 1) k (omega arith))

pub kernel_stage : (m n : ℕ) (rows : List (List ℤ)) → n ≤ 5 → All (AreWithin m) rows
    → Stage m n (kernel_vectors n rows)
kernel_stage m n rows five all =
    stage_narrowed_all m n rows (units_from n 0 n) five all
    (units (let e = units_length n 0 n in omega (arith, e)) (units_each n 0 n (omega arith)))

stage_within : (m k n : ℕ) (ns : List (List ℤ)) → 1 ≤ k → two m 1 ≤ k → three m 1 ≤ k → four m 1 ≤ k
    → (length ns + 4 ≤ n → great m ≤ k)
    → Stage m n ns → All (AreWithin k) ns
stage_within m k n ns a b c d e (units l each) =
    All-weaker (λ v. (j : ℕ) × Along v (λ w. at w j)) (AreWithin k)
    (λ v s. along_within k v (λ w. at w s.0) s.1
    (λ u. within_at k (unit u) s.0 (are_within_more 1 k (unit u) a (unit_within u)))) ns each
stage_within m k n ns a b c d e (of_one r x l i some each) =
    All-weaker (λ v. (j : ℕ) × Along v (minor₂ r x j)) (AreWithin k)
    (λ v s. are_within_more (two m 1) k v b
    (along_within (two m 1) v (minor₂ r x s.0) s.1
    (λ u. minor₂_within m 1 r x s.0 (unit u) i (unit_within u)))) ns each
stage_within m k n ns a b c d e (of_two r y x z l i o some each) =
    All-weaker (λ v. (j : ℕ) × Along v (minor₃ r y x z j)) (AreWithin k)
    (λ v s. are_within_more (three m 1) k v c
    (along_within (three m 1) v (minor₃ r y x z s.0) s.1
    (λ u. minor₃_within m 1 r y x z s.0 (unit u) i o (unit_within u)))) ns each
stage_within m k n ns a b c d e (of_three r y t x z q l i o p each) =
    All-weaker (λ v. (j : ℕ) × Along v (minor₄ r y t x z q j)) (AreWithin k)
    (λ v s. are_within_more (four m 1) k v d
    (along_within (four m 1) v (minor₄ r y t x z q s.0) s.1
    (λ u. minor₄_within m 1 r y t x z q s.0 (unit u) i o p (unit_within u)))) ns each
stage_within m k n ns a b c d e (of_four l all) =
    All-weaker (AreWithin (great m)) (AreWithin k) (λ v. are_within_more (great m) k v (e l)) ns all

pub kernel_narrow : (n : ℕ) (rows : List (List ℤ)) → n ≤ 5 → All (AreWithin (2 ^ 14)) rows
    → AreNarrow (kernel_vectors n rows)
unfolding two three four great
kernel_narrow n rows five all =
    let s = kernel_stage (2 ^ 14) n rows five all in
    record {
      last = stage_within (2 ^ 14) (2 ^ 109) n (kernel_vectors n rows) (omega arith) (omega arith)
          (omega arith) (omega arith) (λ l. omega arith) s;
      several = λ more. stage_within (2 ^ 14) (2 ^ 47) n (kernel_vectors n rows) (omega arith) (omega arith)
          (omega arith) (omega arith) (λ l. absurd (omega (arith, more, l, five))) s;
    }

-- for coefficients of any size
pub kernel_sizes : (m n : ℕ) (rows : List (List ℤ)) → n ≤ 5 → 0 < m → All (AreWithin m) rows
    → 2 ≤ length (kernel_vectors n rows)
    → All (AreWithin (24 * (m * m * m))) (kernel_vectors n rows)
unfolding two three four
kernel_sizes m n rows five some all more =
    let a : 1 * m ≤ m * m = mul-le-mul some (omega arith) in
    let b : 1 * (m * m) ≤ m * (m * m) = mul-le-mul some (omega arith) in
    stage_within m (24 * (m * m * m)) n (kernel_vectors n rows) (omega (arith, a, b, some))
    (omega (arith, a, b, some)) (omega (arith, a, b, some))
    (omega (arith, a, b, some)) (λ l. absurd (omega (arith, more, l, five))) (kernel_stage m n rows five all)
