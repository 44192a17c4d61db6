-- What is orthogonal to all rows is spanned by the kernel vectors.
use Rattle.whole_numbers.proofs.Common.{◌≡◌, ℕ, zero, suc, ◌+◌, false, ℤ, pos, negsuc, ◌*ℤ◌, neg_ℤ, List, [], ◌∷◌, map}
use Rattle.whole_numbers.proofs.Common.{refl, sym, ◌∙◌, ap, ap₂, inl, inr, arith, length, All, get_or, drop, ◌<ℤ◌, ◌+ℤ◌}
use Rattle.whole_numbers.proofs.Common.{◌-ℤ◌, ◌≤◌, ints, All-head, All-tail, dot, multiples, dot-sums, dot-multiples}
use Rattle.whole_numbers.proofs.Common.{dot-nil, dot-unit, mul_distrib_left, mul_distrib_right, mul_sub_left}
use Rattle.whole_numbers.proofs.Common.{mul_assoc_int, mul_one_left, mul_comm_int, left_comm, mul_neg_right}
use Rattle.whole_numbers.proofs.Common.{mul_zero_right, mul_zero_left, lowest, mul_positive, le_or_lt}
use Rattle.std.proofs.Math.Seq.{drop-nil}
use Rattle.null_space.specs.Narrowing.{is_zero, made_flat, against, narrowed_by, narrowed_all, kernel_vectors}
use Rattle.null_space.specs.Narrowing.{units_from}
use Rattle.null_space.proofs.KernelSizes.{zero_of, narrowed_yes, narrowed_off}
use Rattle.null_space.proofs.Functionals.{lowest_factor}

-- each vector's product with w times its weight, added up
abbrev pub weighted : List ℤ → List (List ℤ) → List ℤ → ℤ
weighted [] ns w = pos 0
weighted (a ∷ ws) [] w = pos 0
weighted (a ∷ ws) (n ∷ ns) w = (a *ℤ dot n w) +ℤ weighted ws ns w

pub primitive_value : (v : List ℤ) → (g : ℤ) × (pos 0 <ℤ g) × ((w : List ℤ) → g *ℤ dot (lowest v) w ≡ dot v w)
primitive_value v =
    let l = lowest_factor v in
    (l.0, l.1, λ w. sym (ap (λ (u : List ℤ). dot u w) l.2 ∙ dot-multiples l.0 (lowest v) w))

abbrev pub size : ℤ → ℤ
size (pos a) = pos a
size (negsuc a) = pos (suc a)

abbrev pub turned : ℤ → ℤ → ℤ
turned (pos a) b = neg_ℤ b
turned (negsuc a) b = b

pub flat_value : (p b : ℤ) (n v w : List ℤ)
    → dot (made_flat p b n v) w ≡ (size p *ℤ dot v w) +ℤ (turned p b *ℤ dot n w)
flat_value (pos a) b n v w =
    let s = dot-sums (multiples (pos a) v) (multiples (neg_ℤ b) n) w in
    let x = dot-multiples (pos a) v w in
    let y = dot-multiples (neg_ℤ b) n w in
    s ∙ ap₂ (λ (c : ℤ) (d : ℤ). c +ℤ d) x y
flat_value (negsuc a) b n v w =
    let s = dot-sums (multiples (pos (suc a)) v) (multiples b n) w in
    let x = dot-multiples (pos (suc a)) v w in
    let y = dot-multiples b n w in
    s ∙ ap₂ (λ (c : ℤ) (d : ℤ). c +ℤ d) x y

pub turned_zero : (p : ℤ) → turned p (pos 0) ≡ pos 0
turned_zero (pos a) = refl
turned_zero (negsuc a) = refl

turned_sum : (p a b s : ℤ) → turned p ((a *ℤ b) +ℤ s) ≡ (a *ℤ turned p b) +ℤ turned p s
turned_sum (pos k) a b s = let e = mul_neg_right a b in omega (arith, ints)
turned_sum (negsuc k) a b s = refl

pub turned_size : (p a s : ℤ) → (a *ℤ p) +ℤ s ≡ pos 0 → turned p s ≡ size p *ℤ a
turned_size (pos k) a s h = let e = mul_comm_int a (pos k) in omega (arith, ints)
turned_size (negsuc k) a s h =
    let e = mul_comm_int a (pos (suc k)) in
    let f = mul_neg_right a (pos (suc k)) in
    omega (arith, ints)

pub size_positive : (p : ℤ) → is_zero p ≡ false → pos 0 <ℤ size p
size_positive (pos zero) h = absurd cc
size_positive (pos (suc n)) h = omega (arith, ints)
size_positive (negsuc n) h = omega (arith, ints)

spread_one : (P a V W t s N : ℤ)
    → (P *ℤ ((a *ℤ V) +ℤ W)) +ℤ (((a *ℤ t) +ℤ s) *ℤ N) ≡ (a *ℤ ((P *ℤ V) +ℤ (t *ℤ N))) +ℤ ((P *ℤ W) +ℤ (s *ℤ N))
spread_one P a V W t s N =
    let e = mul_distrib_left (a *ℤ V) W P in
    let f = left_comm P a V in
    let g = mul_distrib_right (a *ℤ t) s N in
    let h = mul_assoc_int a t N in
    let k = mul_distrib_left (P *ℤ V) (t *ℤ N) a in
    omega (arith, ints)

spread_off : (P a N W s : ℤ) → s ≡ P *ℤ a → P *ℤ ((a *ℤ N) +ℤ W) ≡ (P *ℤ W) +ℤ (s *ℤ N)
spread_off P a N W s e =
    let f = mul_distrib_left (a *ℤ N) W P in
    let g = mul_assoc_int P a N in
    let h = ap (λ (z : ℤ). z *ℤ N) e in
    omega (arith, ints)

nothing_behind : (p N : ℤ) → (size p *ℤ pos 0) +ℤ (turned p (pos 0) *ℤ N) ≡ pos 0
nothing_behind p N =
    let a = mul_zero_right (size p) in
    let b = ap (λ (z : ℤ). z *ℤ N) (turned_zero p) in
    let c = mul_zero_left N in
    omega (arith, ints)

-- the vectors behind the one that goes
behind : (c n : List ℤ) (ws : List ℤ) (ns : List (List ℤ)) → (vs : List ℤ)
    × ((w : List ℤ) → (size (dot n c) *ℤ weighted ws ns w) +ℤ (turned (dot n c) (weighted ws ns c) *ℤ dot n w)
    ≡ weighted vs (map (against c n) ns) w)
behind c n [] ns = ([], λ w. nothing_behind (dot n c) (dot n w))
behind c n (a ∷ ws) [] = ([], λ w. nothing_behind (dot n c) (dot n w))
behind c n (a ∷ ws) (v ∷ ns) =
    let rest = behind c n ws ns in
    let one = primitive_value (made_flat (dot n c) (dot v c) n v) in (
      (a *ℤ one.0) ∷ rest.0,
      λ w.
          let p = dot n c in
          let x = one.2 w ∙ flat_value p (dot v c) n v w in
          let y = ap (λ (z : ℤ). (size p *ℤ ((a *ℤ dot v w) +ℤ weighted ws ns w)) +ℤ (z *ℤ dot n w))
          (turned_sum p a (dot v c) (weighted ws ns c)) in
          let z = spread_one (size p) a (dot v w) (weighted ws ns w) (turned p (dot v c))
          (turned p (weighted ws ns c)) (dot n w) in
          let t = mul_assoc_int a one.0 (dot (against c n v) w) ∙ ap (λ (k : ℤ). a *ℤ k) x in
          y ∙ (z ∙ ap₂ (λ (k : ℤ) (l : ℤ). k +ℤ l) (sym t) (rest.1 w)),
    )

-- a sum that is orthogonal to c is spanned by the narrowed vectors
pub narrowed_spans : (c : List ℤ) (ws : List ℤ) (ns : List (List ℤ)) → weighted ws ns c ≡ pos 0
    → (f : ℤ) × (pos 0 <ℤ f) × (vs : List ℤ) ×
    ((w : List ℤ) → f *ℤ weighted ws ns w ≡ weighted vs (narrowed_by c ns) w)
narrowed_spans c [] ns h = (pos 1, omega (arith, ints), [], λ w. refl)
narrowed_spans c (a ∷ ws) [] h = (pos 1, omega (arith, ints), [], λ w. refl)
narrowed_spans c (a ∷ ws) (n ∷ ns) h = elim (zero_of (dot n c)) [
  | inl z ↦
      let q = ap (λ (k : ℤ). a *ℤ k) z.1 ∙ mul_zero_right a in
      let rest = narrowed_spans c ws ns (omega (arith, ints)) in (
        rest.0,
        rest.1,
        (rest.0 *ℤ a) ∷ rest.2,
        λ w.
            mul_distrib_left (a *ℤ dot n w) (weighted ws ns w) rest.0
            ∙ (ap₂ (λ (k : ℤ) (l : ℤ). k +ℤ l) (sym (mul_assoc_int rest.0 a (dot n w))) (rest.3 w)
            ∙ sym (ap (λ (l : List (List ℤ)). weighted ((rest.0 *ℤ a) ∷ rest.2) l w)
            (narrowed_yes c n ns z.0))),
      )
  | inr z ↦
      let rest = behind c n ws ns in (
        size (dot n c),
        size_positive (dot n c) z.0,
        rest.0,
        λ w.
            spread_off (size (dot n c)) a (dot n w) (weighted ws ns w) (turned (dot n c) (weighted ws ns c))
            (turned_size (dot n c) a (weighted ws ns c) h)
            ∙ (rest.1 w ∙ sym (ap (λ (l : List (List ℤ)). weighted rest.0 l w) (narrowed_off c n ns z.0))),
      )
]

-- so is a vector that is orthogonal to all rows
pub all_spans : (cs : List (List ℤ)) (ns : List (List ℤ)) (v : List ℤ) (k : ℤ) (ws : List ℤ) → pos 0 <ℤ k
    → ((w : List ℤ) → k *ℤ dot v w ≡ weighted ws ns w) → All (λ c. dot v c ≡ pos 0) cs
    → (f : ℤ) × (pos 0 <ℤ f) × (vs : List ℤ) ×
    ((w : List ℤ) → f *ℤ dot v w ≡ weighted vs (narrowed_all cs ns) w)
all_spans [] ns v k ws h e all = (k, h, ws, e)
all_spans (c ∷ cs) ns v k ws h e all =
    let z = All-head (λ d. dot v d ≡ pos 0) c cs all in
    let one = narrowed_spans c ws ns (sym (e c) ∙ (ap (λ (y : ℤ). k *ℤ y) z ∙ mul_zero_right k)) in
    all_spans cs (narrowed_by c ns) v (one.0 *ℤ k) one.2 (mul_positive one.0 k one.1 h)
    (λ w. mul_assoc_int one.0 k (dot v w) ∙ (ap (λ (y : ℤ). one.0 *ℤ y) (e w) ∙ one.3 w))
    (All-tail (λ d. dot v d ≡ pos 0) c cs all)

from_place : (x : ℤ) (xs w : List ℤ) (i : ℕ)
    → (x *ℤ get_or w i (pos 0)) +ℤ dot xs (drop (suc i) w) ≡ dot (x ∷ xs) (drop i w)
from_place x xs [] i =
    let a = mul_zero_right x in
    let b = ap (λ (l : List ℤ). dot xs l) (drop-nil (suc i)) ∙ dot-nil xs in
    let c = ap (λ (l : List ℤ). dot (x ∷ xs) l) (drop-nil i) in
    omega (arith, ints)
from_place x xs (y ∷ w) zero = refl
from_place x xs (y ∷ w) (suc i) = from_place x xs w i

next_place : (i : ℕ) → i + 1 ≡ suc i
next_place i = omega arith

pub units_weighted : (n i : ℕ) (xs w : List ℤ) → i + length xs ≤ n
    → weighted xs (units_from n i (length xs)) w ≡ dot xs (drop i w)
units_weighted n i [] w h = refl
units_weighted n i (x ∷ xs) w h =
    ap₂ (λ (k : ℤ) (l : ℤ). (x *ℤ k) +ℤ l) (dot-unit n i w (omega arith))
    (units_weighted n (i + 1) xs w (omega arith) ∙ ap (λ (k : ℕ). dot xs (drop k w)) (next_place i))
    ∙ from_place x xs w i

pub nothing : (ws w : List ℤ) → weighted ws [] w ≡ pos 0
nothing [] w = refl
nothing (a ∷ ws) w = refl

pub zero_factor : (f z : ℤ) → pos 0 <ℤ f → f *ℤ z ≡ pos 0 → z ≡ pos 0
zero_factor f z h e = elim (le_or_lt z (pos 0)) [
  | inl l ↦ elim (le_or_lt (pos 0) z) [
    | inl k ↦ omega (arith, ints)
    | inr k ↦ let p = mul_positive f (pos 0 -ℤ z) h (omega (arith, ints)) in let q = mul_sub_left
        (pos 0) z f in let r = mul_zero_right f in absurd (omega (arith, ints))
  ]
  | inr k ↦ let p = mul_positive f z h k in absurd (omega (arith, ints))
]

-- what is orthogonal to all rows is spanned by the kernel vectors
pub kernel_spans : (n : ℕ) (cs : List (List ℤ)) (v : List ℤ) → length v ≡ n → All (λ c. dot v c ≡ pos 0) cs
    → (f : ℤ) × (pos 0 <ℤ f) × (vs : List ℤ) ×
    ((w : List ℤ) → f *ℤ dot v w ≡ weighted vs (kernel_vectors n cs) w)
kernel_spans n cs v size all =
    all_spans cs (units_from n 0 n) v (pos 1) v (omega (arith, ints)) (λ w.
    mul_one_left (dot v w) ∙ (sym (units_weighted n 0 v w (omega arith))
    ∙ ap (λ (k : ℕ). weighted v (units_from n 0 k) w) size)) all

-- with no kernel vector left only 0 is orthogonal to all rows
pub full_rank : (n : ℕ) (cs : List (List ℤ)) (v : List ℤ) → length v ≡ n → kernel_vectors n cs ≡ []
    → All (λ c. dot v c ≡ pos 0) cs → (w : List ℤ) → dot v w ≡ pos 0
full_rank n cs v size none all w =
    let end = kernel_spans n cs v size all in
    let e = end.3 w ∙ (ap (λ (l : List (List ℤ)). weighted end.2 l w) none ∙ nothing end.2 w) in
    zero_factor end.0 (dot v w) end.1 e
