-- The kernel vectors are orthogonal to all rows.
use Rattle.whole_numbers.proofs.Common.{◌≡◌, ℕ, suc, ℤ, pos, negsuc, ◌*ℤ◌, List, [], ◌∷◌, map, ◌∙◌, ap, ap₂, inl, inr}
use Rattle.whole_numbers.proofs.Common.{arith, All, ◌+ℤ◌, ints, All-nil, All-cons, All-head, All-tail, All-same, dot}
use Rattle.whole_numbers.proofs.Common.{mul_comm_int, mul_neg_left, mul_neg_right, mul_zero_right}
use Rattle.null_space.specs.Narrowing.{made_flat, against, narrowed_by, narrowed_all, kernel_vectors}
use Rattle.null_space.specs.Narrowing.{units_from}
use Rattle.null_space.proofs.KernelSizes.{zero_of, narrowed_yes, narrowed_off}
use Rattle.null_space.proofs.Spans.{size, turned, flat_value, zero_factor, primitive_value}

size_turned : (p b : ℤ) → (size p *ℤ b) +ℤ (turned p b *ℤ p) ≡ pos 0
size_turned (pos a) b =
    let e = mul_neg_left b (pos a) in let f = mul_comm_int b (pos a) in omega (arith, ints)
size_turned (negsuc a) b =
    let e = mul_neg_right b (pos (suc a)) in let f = mul_comm_int b (pos (suc a)) in omega (arith, ints)

-- against is orthogonal to c, and to what both were orthogonal to
against_zero : (c n v w : List ℤ) → dot (made_flat (dot n c) (dot v c) n v) w ≡ pos 0
    → dot (against c n v) w ≡ pos 0
against_zero c n v w h =
    let one = primitive_value (made_flat (dot n c) (dot v c) n v) in
    zero_factor one.0 (dot (against c n v) w) one.1 (one.2 w ∙ h)

against_own : (c n v : List ℤ) → dot (against c n v) c ≡ pos 0
against_own c n v =
    against_zero c n v c (flat_value (dot n c) (dot v c) n v c ∙ size_turned (dot n c) (dot v c))

pub against_old : (c n v w : List ℤ) → dot n w ≡ pos 0 → dot v w ≡ pos 0 → dot (against c n v) w ≡ pos 0
against_old c n v w h k =
    let p = dot n c in
    let a = ap (λ (z : ℤ). size p *ℤ z) k ∙ mul_zero_right (size p) in
    let b = ap (λ (z : ℤ). turned p (dot v c) *ℤ z) h ∙ mul_zero_right (turned p (dot v c)) in
    against_zero c n v w (flat_value p (dot v c) n v w ∙ ap₂ (λ (y : ℤ) (z : ℤ). y +ℤ z) a b)

all_own : (c n : List ℤ) (ns : List (List ℤ)) → All (λ v. dot v c ≡ pos 0) (map (against c n) ns)
all_own c n [] = All-nil (λ v. dot v c ≡ pos 0)
all_own c n (v ∷ ns) =
    All-cons (λ u. dot u c ≡ pos 0) (against c n v) (map (against c n) ns) (against_own c n v)
    (all_own c n ns)

all_old : (c n w : List ℤ) (ns : List (List ℤ)) → dot n w ≡ pos 0 → All (λ v. dot v w ≡ pos 0) ns
    → All (λ v. dot v w ≡ pos 0) (map (against c n) ns)
all_old c n w [] h all = All-nil (λ v. dot v w ≡ pos 0)
all_old c n w (v ∷ ns) h all =
    All-cons (λ u. dot u w ≡ pos 0) (against c n v) (map (against c n) ns)
    (against_old c n v w h (All-head (λ u. dot u w ≡ pos 0) v ns all))
    (all_old c n w ns h (All-tail (λ u. dot u w ≡ pos 0) v ns all))

pub narrowed_own : (c : List ℤ) (ns : List (List ℤ)) → All (λ v. dot v c ≡ pos 0) (narrowed_by c ns)
narrowed_own c [] = All-nil (λ v. dot v c ≡ pos 0)
narrowed_own c (n ∷ ns) = elim (zero_of (dot n c)) [
  | inl z ↦ All-same (λ v. dot v c ≡ pos 0) (narrowed_by c (n ∷ ns)) (n ∷ narrowed_by c ns)
      (narrowed_yes c n ns z.0)
      (All-cons (λ v. dot v c ≡ pos 0) n (narrowed_by c ns) z.1 (narrowed_own c ns))
  | inr z ↦ All-same (λ v. dot v c ≡ pos 0) (narrowed_by c (n ∷ ns)) (map (against c n) ns)
      (narrowed_off c n ns z.0) (all_own c n ns)
]

pub narrowed_old : (c w : List ℤ) (ns : List (List ℤ)) → All (λ v. dot v w ≡ pos 0) ns
    → All (λ v. dot v w ≡ pos 0) (narrowed_by c ns)
narrowed_old c w [] all = All-nil (λ v. dot v w ≡ pos 0)
narrowed_old c w (n ∷ ns) all = elim (zero_of (dot n c)) [
  | inl z ↦ All-same (λ v. dot v w ≡ pos 0) (narrowed_by c (n ∷ ns)) (n ∷ narrowed_by c ns)
      (narrowed_yes c n ns z.0)
      (All-cons (λ v. dot v w ≡ pos 0) n (narrowed_by c ns) (All-head (λ v. dot v w ≡ pos 0) n ns all)
      (narrowed_old c w ns (All-tail (λ v. dot v w ≡ pos 0) n ns all)))
  | inr z ↦ All-same (λ v. dot v w ≡ pos 0) (narrowed_by c (n ∷ ns)) (map (against c n) ns)
      (narrowed_off c n ns z.0)
      (all_old c n w ns (All-head (λ v. dot v w ≡ pos 0) n ns all) (All-tail (λ v. dot v w ≡ pos 0) n ns all))
]

all_kept : (cs : List (List ℤ)) (w : List ℤ) (ns : List (List ℤ)) → All (λ v. dot v w ≡ pos 0) ns
    → All (λ v. dot v w ≡ pos 0) (narrowed_all cs ns)
all_kept [] w ns all = all
all_kept (c ∷ cs) w ns all = all_kept cs w (narrowed_by c ns) (narrowed_old c w ns all)

all_rows : (cs ns : List (List ℤ)) → All (λ c. All (λ v. dot v c ≡ pos 0) (narrowed_all cs ns)) cs
all_rows [] ns = All-nil (λ c. All (λ v. dot v c ≡ pos 0) ns)
all_rows (c ∷ cs) ns =
    All-cons (λ d. All (λ v. dot v d ≡ pos 0) (narrowed_all cs (narrowed_by c ns))) c cs
    (all_kept cs c (narrowed_by c ns) (narrowed_own c ns)) (all_rows cs (narrowed_by c ns))

pub vectors_orthogonal : (n : ℕ) (rows : List (List ℤ))
    → All (λ c. All (λ v. dot v c ≡ pos 0) (kernel_vectors n rows)) rows
vectors_orthogonal n rows = all_rows rows (units_from n 0 n)
