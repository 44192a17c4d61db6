-- What loops over lists come to.
use Rattle.whole_numbers.proofs.Common.{◌≡◌, ℕ, zero, suc, ◌+◌, ◌-◌, ◌<◌, ◌≤◌, ℤ, pos, negsuc, ◌+ℤ◌, ◌*ℤ◌, neg_ℤ, List}
use Rattle.whole_numbers.proofs.Common.{[], ◌∷◌, ◌++◌, drop, take, map, set, replicate, get_or, refl, sym, ◌∙◌, ap}
use Rattle.whole_numbers.proofs.Common.{subst, arith, length, ◌^◌, Vec, Global, add-one, drop-cons, append_assoc, inl}
use Rattle.whole_numbers.proofs.Common.{inr, ints, ◌≤ℤ◌, length-set, length-map, map-append, take_more, All-cons}
use Rattle.whole_numbers.proofs.Common.{All-nil, All-head, All-tail, All-same, All-weaker, All-map, All-get_or, dot}
use Rattle.whole_numbers.proofs.Common.{sums, multiples, zeros, content, length-sums, length-multiples, length-zeros}
use Rattle.whole_numbers.proofs.Remainders.{length-floors}
use Rattle.null_space.specs.Narrowing.{made_flat, against, narrowed_by, narrowed_all, units_from}
use Rattle.null_space.specs.Narrowing.{kernel_vectors, Grows}
use Rattle.null_space.specs.Sizes.{AreWithin, AreLong, AreNarrow}
use Rattle.null_space.proofs.KernelSizes.{zero_of, narrowed_yes, narrowed_off}

pub dot_step : (xs ys : List ℤ) (i : ℕ) → i < length xs → length xs ≡ length ys
    → (get_or xs i (pos 0) *ℤ get_or ys i (pos 0)) +ℤ dot (drop (i + 1) xs) (drop (i + 1) ys) ≡ dot
    (drop i xs) (drop i ys)
dot_step xs ys i h e = rw (add-one i, drop-cons xs i (pos 0) h, drop-cons ys i (pos 0) (omega arith)) refl

pub sums_step : (a b : ℤ) (xs ys : List ℤ) (i : ℕ) → i < length xs → length xs ≡ length ys
    → ((a *ℤ get_or xs i (pos 0)) +ℤ (b *ℤ get_or ys i (pos 0))) ∷ sums (multiples a (drop (i + 1) xs))
    (multiples b (drop (i + 1) ys))
    ≡ sums (multiples a (drop i xs)) (multiples b (drop i ys))
sums_step a b xs ys i h e =
    rw (add-one i, drop-cons xs i (pos 0) h, drop-cons ys i (pos 0) (omega arith)) refl

pub zeros_are : (n : ℕ) → zeros n ≡ replicate n (pos 0)
zeros_are zero = refl
zeros_are (suc n) = ap (λ (l : List ℤ). pos 0 ∷ l) (zeros_are n)

pub goes : (c : List ℤ) (vs : List (List ℤ)) (i : ℕ) → i < length vs → (dot (get_or vs i []) c ≡ pos 0 → ⊥)
    → map (against c (get_or vs i [])) (drop (i + 1) vs) ≡ narrowed_by c (drop i vs)
goes c vs i h some = elim (zero_of (dot (get_or vs i []) c)) [
  | inl z ↦ absurd (some z.1)
  | inr z ↦ rw (add-one i, drop-cons vs i [] h) (sym (narrowed_off c (get_or vs i []) (drop (suc i) vs) z.0))
]

pub units_step : (n i : ℕ) → i < n
    → set (zeros n) i (pos 1) ∷ units_from n (i + 1) (n - (i + 1)) ≡ units_from n i (n - i)
units_step n i h = let e : n - i ≡ suc (n - (i + 1)) = omega arith in rw e refl

pub narrowed_append : (cs ds ns : List (List ℤ))
    → narrowed_all (cs ++ ds) ns ≡ narrowed_all ds (narrowed_all cs ns)
narrowed_append [] ds ns = refl
narrowed_append (c ∷ cs) ds ns = narrowed_append cs ds (narrowed_by c ns)

pub kernel_step : (n : ℕ) (rows : List (List ℤ)) (i : ℕ) → i < length rows
    → narrowed_by (get_or rows i []) (kernel_vectors n (take i rows)) ≡ kernel_vectors n (take (i + 1) rows)
kernel_step n rows i h =
    sym (ap (λ (l : List (List ℤ)). kernel_vectors n l) (take_more rows i [] h)
    ∙ narrowed_append (take i rows) (get_or rows i [] ∷ []) (units_from n 0 n))

-- the vectors keep their length
pub against_length : (n : ℕ) (c u v : List ℤ) → length u ≡ n → length v ≡ n → length (against c u v) ≡ n
against_length n c u v h k =
    length-floors (pos (content (made_flat (dot u c) (dot v c) u v))) (made_flat (dot u c) (dot v c) u v)
    ∙ flat (dot u c) (dot v c)
  where
    flat : (a b : ℤ) → length (made_flat a b u v) ≡ n
    flat (pos a) b =
        let e = length-multiples (pos a) v ∙ k in
        length-sums (multiples (pos a) v) (multiples (neg_ℤ b) u) (e ∙ sym (length-multiples (neg_ℤ b) u ∙ h))
        ∙ e
    flat (negsuc a) b =
        let e = length-multiples (pos (suc a)) v ∙ k in
        length-sums (multiples (pos (suc a)) v) (multiples b u) (e ∙ sym (length-multiples b u ∙ h)) ∙ e

narrowed_long : (n : ℕ) (c : List ℤ) (ns : List (List ℤ)) → AreLong n ns → AreLong n (narrowed_by c ns)
narrowed_long n c [] all = all
narrowed_long n c (v ∷ ns) all =
    let P : List ℤ → Type 0 = λ u. length u ≡ n in
    let h = All-head P v ns all in
    let more = All-tail P v ns all in
    elim (zero_of (dot v c)) [
      | inl z ↦ All-same P (narrowed_by c (v ∷ ns)) (v ∷ narrowed_by c ns) (narrowed_yes c v ns z.0)
          (All-cons P v (narrowed_by c ns) h (narrowed_long n c ns more))
      | inr z ↦ All-same P (narrowed_by c (v ∷ ns)) (map (against c v) ns) (narrowed_off c v ns z.0)
          (All-map P (against c v) ns
          (All-weaker P (λ u. P (against c v u)) (λ u k. against_length n c v u h k) ns more))
    ]

narrowed_all_long : (n : ℕ) (cs ns : List (List ℤ)) → AreLong n ns → AreLong n (narrowed_all cs ns)
narrowed_all_long n [] ns all = all
narrowed_all_long n (c ∷ cs) ns all = narrowed_all_long n cs (narrowed_by c ns) (narrowed_long n c ns all)

units_long : (n i k : ℕ) → AreLong n (units_from n i k)
units_long n i zero = All-nil (λ u. length u ≡ n)
units_long n i (suc k) =
    All-cons (λ u. length u ≡ n) (set (zeros n) i (pos 1)) (units_from n (i + 1) k)
    (length-set (zeros n) i (pos 1) ∙ length-zeros n) (units_long n (i + 1) k)

pub kernel_long : (n : ℕ) (rows : List (List ℤ)) → AreLong n (kernel_vectors n rows)
kernel_long n rows = narrowed_all_long n rows (units_from n 0 n) (units_long n 0 n)

-- one of the vectors, as a call gives it
pub long_at : (n i : ℕ) (vs : List (List ℤ)) (xs : List ℤ) → xs ≡ get_or vs i [] → i < length vs
    → AreLong n vs → length xs ≡ n
long_at n i vs xs e h all = ap length e ∙ All-get_or (λ (v : List ℤ). length v ≡ n) vs i [] h all

pub small_at : (i : ℕ) (vs : List (List ℤ)) (xs : List ℤ) → xs ≡ get_or vs i [] → i < length vs
    → 2 ≤ length vs → AreNarrow vs → AreWithin (2 ^ 47) xs
small_at i vs xs e h two s =
    subst (AreWithin (2 ^ 47)) (sym e) (All-get_or (AreWithin (2 ^ 47)) vs i [] h (s.several two))

-- what the code's vectors stand for
abbrev pub views : List (Vec ℤ Global) → List (List ℤ)
views vs = map (λ (v : Vec ℤ Global). v.items) vs

pub views_length : (vs : List (Vec ℤ Global)) → length (views vs) ≡ length vs
views_length vs = length-map vs (λ (v : Vec ℤ Global). v.items)

pub views_more : (vs : List (Vec ℤ Global)) (v : Vec ℤ Global) (xs : List ℤ) (rest : List (List ℤ))
    → v.items ≡ xs
    → views (vs ++ v ∷ []) ++ rest ≡ views vs ++ (xs ∷ rest)
views_more vs v xs rest e =
    ap (λ (l : List (List ℤ)). l ++ rest) (map-append (λ (u : Vec ℤ Global). u.items) vs (v ∷ []))
    ∙ (append_assoc (views vs) (v.items ∷ []) rest ∙ ap (λ (l : List ℤ). views vs ++ (l ∷ rest)) e)

pub kernel_more : (n : ℕ) (rows : List (List ℤ)) (row : List ℤ)
    → kernel_vectors n (rows ++ row ∷ []) ≡ narrowed_by row (kernel_vectors n rows)
kernel_more n rows row = narrowed_append rows (row ∷ []) (units_from n 0 n)

-- there are no more than before
pub narrowed_length : (c : List ℤ) (ns : List (List ℤ)) → length (narrowed_by c ns) ≤ length ns
narrowed_length c [] = omega arith
narrowed_length c (n ∷ ns) = elim (zero_of (dot n c)) [
  | inl z ↦ let e = ap length (narrowed_yes c n ns z.0) in let k = narrowed_length c ns in omega arith
  | inr z ↦ let e = ap length (narrowed_off c n ns z.0) in let k = length-map ns (against c n) in omega arith
]

-- a row that grows the rank takes exactly one
pub narrowed_grows : (c : List ℤ) (ns : List (List ℤ)) → Grows c ns
    → suc (length (narrowed_by c ns)) ≡ length ns
narrowed_grows c [] h = let k = h.1 in absurd (omega (arith, ints))
narrowed_grows c (n ∷ ns) h = elim (zero_of (dot n c)) [
  | inl z ↦
      let e = ap length (narrowed_yes c n ns z.0) in
      let s = h.1 in
      let q = z.1 in
      let k = narrowed_grows c ns (All-tail (λ v. pos 0 ≤ℤ dot v c) n ns h.0, omega (arith, ints)) in
      omega arith
  | inr z ↦ let e = ap length (narrowed_off c n ns z.0) in let k = length-map ns (against c n) in omega arith
]

pub ruleset kept_laws = (kernel_long, kernel_more)

pub ruleset narrowed_laws = (narrowed_length, narrowed_grows)
