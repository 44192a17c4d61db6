-- Narrowing keeps vectors reduced: each ends at a column of its own, and those behind it are 0 there.
use Rattle.whole_numbers.proofs.Common.{◌≡◌, ℕ, zero, suc, ◌+◌, ◌<◌, ◌≤◌, false, ℤ, pos, ◌*ℤ◌, List, [], ◌∷◌, map, set}
use Rattle.whole_numbers.proofs.Common.{length, refl, sym, ◌∙◌, ap, subst, ◌⊎◌, inl, inr, arith, All, ◌<ℤ◌, ⊤, ints}
use Rattle.whole_numbers.proofs.Common.{length-set, All-cons, All-nil, All-head, All-tail, dot, zeros, content, lowest}
use Rattle.whole_numbers.proofs.Common.{dot-unit, dot-nil, length-zeros, mul_positive, positive_factor, mul_zero_right}
use Rattle.whole_numbers.proofs.Common.{mul_zero_left, mul_one_right, mul_comm_int}
use Rattle.null_space.specs.Narrowing.{is_zero, made_flat, against, narrowed_by, narrowed_all, kernel_vectors}
use Rattle.null_space.specs.Narrowing.{units_from}
use Rattle.null_space.specs.Echelon.{at}
use Rattle.null_space.specs.Echelon.{In}
use Rattle.null_space.proofs.Functionals.{unit, low_lowest}
use Rattle.null_space.proofs.KernelSizes.{zero_of, narrowed_yes, narrowed_off, unit_along}
use Rattle.null_space.proofs.ListLoops.{against_length}
use Rattle.null_space.proofs.Spans.{weighted, size, turned, flat_value, primitive_value, size_positive}
use Rattle.null_space.proofs.Spans.{zero_factor, nothing}
use Rattle.null_space.proofs.Orthogonal.{against_old, narrowed_old}

pub entry : (v : List ℤ) (i : ℕ) → dot v (unit i) ≡ at v i
unfolding unit
entry [] i = refl
entry (x ∷ v) zero = let e = dot-nil v in let f = mul_one_right x in omega (arith, ints)
entry (x ∷ v) (suc i) = let e = entry v i in let f = mul_zero_right x in omega (arith, ints)

pub record IsOwn (n j : ℕ) (v : List ℤ) : Type 0 where
  pub size : length v ≡ n
  pub low : content v ≤ 1
  pub positive : pos 0 <ℤ dot v (unit j)
  pub behind : (i : ℕ) → j < i → dot v (unit i) ≡ pos 0

abbrev pub Reduced : ℕ → List ℕ → List (List ℤ) → Type 0
Reduced n [] [] = ⊤
Reduced n [] (v ∷ vs) = ⊥
Reduced n (j ∷ js) [] = ⊥
Reduced n (j ∷ js) (v ∷ vs) =
    IsOwn n j v × All (λ i. j < i) js × All (λ u. dot u (unit j) ≡ pos 0) vs × Reduced n js vs

-- a vector behind the one that goes
own_against : (n a j : ℕ) (c u v : List ℤ) → is_zero (dot u c) ≡ false → a < j → IsOwn n a u → IsOwn n j v
    → IsOwn n j (against c u v)
own_against n a j c u v some l o w =
    let p = dot u c in
    let b = dot v c in
    let x = made_flat p b u v in
    let g = primitive_value x in
    let z = ap (λ (k : ℤ). turned p b *ℤ k) (o.behind j l) ∙ mul_zero_right (turned p b) in
    let f = flat_value p b u v (unit j) in
    let e : g.0 *ℤ dot (lowest x) (unit j) ≡ size p *ℤ dot v (unit j) =
    g.2 (unit j) ∙ omega (arith, ints, f, z) in
    record {
      size = against_length n c u v o.size w.size;
      low = low_lowest x;
      positive = positive_factor g.0 (dot (lowest x) (unit j)) g.1
          (subst (λ (k : ℤ). pos 0 <ℤ k) (sym e)
          (mul_positive (size p) (dot v (unit j)) (size_positive p some) w.positive));
      behind = λ i h. against_old c u v (unit i) (o.behind i (omega arith)) (w.behind i h);
    }

zeros_against : (c u w : List ℤ) → dot u w ≡ pos 0 → (vs : List (List ℤ)) → All (λ v. dot v w ≡ pos 0) vs
    → All (λ v. dot v w ≡ pos 0) (map (against c u) vs)
zeros_against c u w h [] all = All-nil (λ v. dot v w ≡ pos 0)
zeros_against c u w h (v ∷ vs) all =
    All-cons (λ x. dot x w ≡ pos 0) (against c u v) (map (against c u) vs)
    (against_old c u v w h (All-head (λ x. dot x w ≡ pos 0) v vs all))
    (zeros_against c u w h vs (All-tail (λ x. dot x w ≡ pos 0) v vs all))

reduced_against : (n a : ℕ) (c u : List ℤ) → is_zero (dot u c) ≡ false → IsOwn n a u
    → (js : List ℕ) (vs : List (List ℤ))
    → All (λ i. a < i) js → Reduced n js vs → Reduced n js (map (against c u) vs)
reduced_against n a c u some o [] [] up h = h
reduced_against n a c u some o [] (v ∷ vs) up h = absurd h
reduced_against n a c u some o (j ∷ js) [] up h = absurd h
reduced_against n a c u some o (j ∷ js) (v ∷ vs) up h =
    let l = All-head (λ i. a < i) j js up in (
      own_against n a j c u v some l o h.0,
      h.1,
      zeros_against c u (unit j) (o.behind j l) vs h.2,
      reduced_against n a c u some o js vs (All-tail (λ i. a < i) j js up) h.3,
    )

abbrev pub Left : ℕ → List ℕ → List (List ℤ) → Type 0
Left n cols ns =
    (left : List ℕ) × Reduced n left ns × ((a : ℕ) → All (λ i. a < i) cols → All (λ i. a < i) left)

moved_left : (n : ℕ) (cols : List ℕ) (vs ws : List (List ℤ)) → ws ≡ vs → Left n cols vs → Left n cols ws
moved_left n cols vs ws e h = subst (Left n cols) (sym e) h

narrowed_reduced : (n : ℕ) (c : List ℤ) (cols : List ℕ) (ns : List (List ℤ)) → Reduced n cols ns
    → Left n cols (narrowed_by c ns)
narrowed_reduced n c [] [] h = ([], h, λ a all. all)
narrowed_reduced n c [] (v ∷ vs) h = absurd h
narrowed_reduced n c (j ∷ js) [] h = absurd h
narrowed_reduced n c (j ∷ js) (v ∷ vs) h = elim (zero_of (dot v c)) [
  | inl z ↦
      let rest = narrowed_reduced n c js vs h.3 in
      moved_left n (j ∷ js) (v ∷ narrowed_by c vs) (narrowed_by c (v ∷ vs)) (narrowed_yes c v vs z.0) (
        j ∷ rest.0,
        (h.0, rest.2 j h.1, narrowed_old c (unit j) vs h.2, rest.1),
        λ a all. All-cons (λ i. a < i) j rest.0 (All-head (λ i. a < i) j js all)
            (rest.2 a (All-tail (λ i. a < i) j js all)),
      )
  | inr z ↦ moved_left n (j ∷ js) (map (against c v) vs) (narrowed_by c (v ∷ vs)) (narrowed_off c v vs z.0)
      (js, reduced_against n j c v z.0 h.0 js vs h.1 h.3, λ a all. All-tail (λ i. a < i) j js all)
]

narrowed_all_reduced : (n : ℕ) (cs : List (List ℤ)) (cols : List ℕ) (ns : List (List ℤ)) → Reduced n cols ns
    → (left : List ℕ) × Reduced n left (narrowed_all cs ns)
narrowed_all_reduced n [] cols ns h = (cols, h)
narrowed_all_reduced n (c ∷ cs) cols ns h =
    let one = narrowed_reduced n c cols ns h in
    narrowed_all_reduced n cs one.0 (narrowed_by c ns) one.1

-- the units
counted : ℕ → ℕ → List ℕ
counted i zero = []
counted i (suc k) = i ∷ counted (i + 1) k

unit_same : (i : ℕ) → at (unit i) i ≡ pos 1
unfolding unit
unit_same zero = refl
unit_same (suc i) = unit_same i

unit_other : (i j : ℕ) → (i ≡ j → ⊥) → at (unit i) j ≡ pos 0
unfolding unit
unit_other zero zero h = absurd (h refl)
unit_other zero (suc zero) h = refl
unit_other zero (suc (suc j)) h = refl
unit_other (suc i) zero h = refl
unit_other (suc i) (suc j) h = unit_other i j (λ e. h (ap suc e))

unit_own : (n i : ℕ) → i < n → IsOwn n i (set (zeros n) i (pos 1))
unit_own n i h =
    record {
      size = length-set (zeros n) i (pos 1) ∙ length-zeros n;
      low = (unit_along n i h).low;
      positive = subst (λ (k : ℤ). pos 0 <ℤ k) (sym (dot-unit n i (unit i) h ∙ unit_same i))
          (omega (arith, ints));
      behind = λ j l. dot-unit n i (unit j) h ∙ unit_other j i (λ e. omega (arith, e, l));
    }

units_zero : (n i j k : ℕ) → j < i → i + k ≤ n → All (λ u. dot u (unit j) ≡ pos 0) (units_from n i k)
units_zero n i j zero l h = All-nil (λ u. dot u (unit j) ≡ pos 0)
units_zero n i j (suc k) l h =
    All-cons (λ u. dot u (unit j) ≡ pos 0) (set (zeros n) i (pos 1)) (units_from n (i + 1) k)
    (dot-unit n i (unit j) (omega arith) ∙ unit_other j i (λ e. omega (arith, e, l)))
    (units_zero n (i + 1) j k (omega arith) (omega arith))

counted_above : (a i k : ℕ) → a < i → All (λ j. a < j) (counted i k)
unfolding counted
counted_above a i zero h = All-nil (λ j. a < j)
counted_above a i (suc k) h =
    All-cons (λ j. a < j) i (counted (i + 1) k) h (counted_above a (i + 1) k (omega arith))

units_reduced : (n i k : ℕ) → i + k ≤ n → Reduced n (counted i k) (units_from n i k)
unfolding counted
units_reduced n i zero h = tt
units_reduced n i (suc k) h = (
  unit_own n i (omega arith),
  counted_above i (i + 1) k (omega arith),
  units_zero n (i + 1) i k (omega arith) (omega arith),
  units_reduced n (i + 1) k (omega arith),
)

pub kernel_reduced : (n : ℕ) (rows : List (List ℤ)) → (cols : List ℕ) × Reduced n cols (kernel_vectors n rows)
kernel_reduced n rows =
    narrowed_all_reduced n rows (counted 0 n) (units_from n 0 n) (units_reduced n 0 n (omega arith))

-- where a weighted sum ends there is a column
weighted_zero : (ws : List ℤ) (vs : List (List ℤ)) (w : List ℤ) → All (λ u. dot u w ≡ pos 0) vs
    → weighted ws vs w ≡ pos 0
weighted_zero [] vs w all = refl
weighted_zero (a ∷ ws) [] w all = refl
weighted_zero (a ∷ ws) (v ∷ vs) w all =
    let e = ap (λ (k : ℤ). a *ℤ k) (All-head (λ u. dot u w ≡ pos 0) v vs all) ∙ mul_zero_right a in
    let f = weighted_zero ws vs w (All-tail (λ u. dot u w ≡ pos 0) v vs all) in
    omega (arith, ints)

pub order : (i j : ℕ) → (i < j) ⊎ ((i ≡ j) ⊎ (j < i))
order zero zero = inr (inl refl)
order zero (suc j) = inl (omega arith)
order (suc i) zero = inr (inr (omega arith))
order (suc i) (suc j) = elim (order i j) [
  | inl l ↦ inl (omega arith)
  | inr (inl e) ↦ inr (inl (ap suc e))
  | inr (inr l) ↦ inr (inr (omega arith))
]

pub complete : (n : ℕ) (cols : List ℕ) (ns : List (List ℤ)) (ws : List ℤ) → Reduced n cols ns → (j : ℕ)
    → (weighted ws ns (unit j) ≡ pos 0 → ⊥) → ((i : ℕ) → j < i → weighted ws ns (unit i) ≡ pos 0) → In j cols
complete n [] [] ws h j some behind = absurd (some (nothing ws (unit j)))
complete n [] (v ∷ vs) ws h j some behind = absurd h
complete n (a ∷ js) [] ws h j some behind = absurd h
complete n (a ∷ js) (v ∷ vs) [] h j some behind = absurd (some refl)
complete n (a ∷ js) (v ∷ vs) (w ∷ ws) h j some behind = elim (order a j) [
  | inl l ↦
      let same : (i : ℕ) → a < i → weighted ws vs (unit i) ≡ weighted (w ∷ ws) (v ∷ vs) (unit i) = λ i k.
      let e = ap (λ (z : ℤ). w *ℤ z) (h.0.behind i k) ∙ mul_zero_right w in omega (arith, ints, e) in
      inr (complete n js vs ws h.3 j (λ z. some (sym (same j l) ∙ z))
      (λ i k. same i (omega arith) ∙ behind i k))
  | inr (inl e) ↦ inl (sym e)
  | inr (inr l) ↦
      let none = weighted_zero ws vs (unit a) h.2 in
      let b = behind a l in
      let z : w ≡ pos 0 =
      zero_factor (dot v (unit a)) w h.0.positive
      (mul_comm_int (dot v (unit a)) w ∙ omega (arith, ints, none, b)) in
      let same : (i : ℕ) → weighted ws vs (unit i) ≡ weighted (w ∷ ws) (v ∷ vs) (unit i) = λ i.
      let e = ap (λ (k : ℤ). k *ℤ dot v (unit i)) z ∙ mul_zero_left (dot v (unit i)) in
      omega (arith, ints, e) in
      inr (complete n js vs ws h.3 j (λ k. some (sym (same j) ∙ k)) (λ i k. same i ∙ behind i k))
]
