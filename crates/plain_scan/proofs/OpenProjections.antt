-- A bounded set one of whose projections is open in its last dimension has no point.
use Rattle.scop_syntax.proofs.Common.{◌≡◌, ℕ, zero, suc, ◌+◌, ◌*◌, ◌-◌, ◌<◌, ℤ, pos, negsuc, List, [], ◌∷◌, ◌++◌}
use Rattle.scop_syntax.proofs.Common.{length, get_or, inl, inr, refl, sym, ◌∙◌, ap, subst, All, arith, append_assoc}
use Rattle.scop_syntax.proofs.Common.{length-append, mul-le-mul, ◌≤◌, ◌^◌, ◌≤ℤ◌, ◌<ℤ◌, ◌+ℤ◌, ◌*ℤ◌, unsigned_abs, ints}
use Rattle.scop_syntax.proofs.Common.{unsigned_abs-mul, cases_lt, All-cons, All-head, All-nil, All-tail, dot, multiples}
use Rattle.scop_syntax.proofs.Common.{Affine, value_of, mul_zero_left, mul_assoc_int, mul_comm_int, mul_one_right}
use Rattle.scop_syntax.proofs.Common.{mul_one_left, mul_neg_left, mul_positive, mul_le_left, mul_not_negative}
use Rattle.scop_syntax.proofs.Common.{length-multiples, multiples-append, abs_low, abs_high, get_or_same, AreInRange}
use Rattle.scop_syntax.proofs.Common.{most_parameter}
use Rattle.std.proofs.lemmas.List.{append-nil}
use Rattle.fractions.specs.Fractions.{HoldsOver, value_over}
use Rattle.fractions.specs.Elimination.{coefficient_of}
use Rattle.integer_sets.specs.Constraints.{Constraints, IsSized, variables_in}
use Rattle.integer_sets.specs.Points.{Satisfies}
use Rattle.fm_projection.specs.Projecting.{projected}
use Rattle.fm_projection.specs.Alone.{AreInRangeOver, IsBounded, IsInRangeOver, last_alone, last_with_parameters}
use Rattle.fm_projection.specs.Alone.{range_rows, ranged}
use Rattle.fm_projection.proofs.Law.{whole_point}
use Rattle.fm_projection.proofs.WholePoints.{one_more, projected_sized}
use Rattle.fm_projection.proofs.FractionPoints.{all_left, front_of, projected_left}
use Rattle.fm_projection.proofs.Ranges.{last_value, place_value}
use Rattle.fm_projection.proofs.RangeRows.{least_row, most_row}
use Rattle.plain_scan.proofs.AppendedRows.{projected_shape}
use Rattle.plain_scan.specs.Between.{IsOpenAbove, IsOpenBelow}
use Rattle.plain_scan.specs.Outlines.{HasNoPoint, IsOpen}
use Rattle.plain_scan.specs.steps.Shadows.{IsOpenSomewhere}

-- the value of a form at a point of one entry
one_value : (f : Affine) (x : ℤ) → value_of f (x ∷ []) ≡ (coefficient_of 0 f *ℤ x) +ℤ f.constant
one_value f x = let d = dot_one f.coefficients in omega (arith, ints)
  where
    dot_none : (ks : List ℤ) → dot ks [] ≡ pos 0
    dot_none [] = refl
    dot_none (k ∷ ks) = refl

    dot_one : (cs : List ℤ) → dot cs (x ∷ []) ≡ get_or cs 0 (pos 0) *ℤ x
    dot_one [] = let z = mul_zero_left x in omega (arith, ints)
    dot_one (c ∷ cs) = let n = dot_none cs in omega (arith, ints)

-- where no constraint bounds the variable from below, a lesser value satisfies them too
lower_value : (t : Constraints) (x y : ℤ) → y ≤ℤ x → IsOpenBelow t → Satisfies t (x ∷ []) → Satisfies t (y ∷ [])
lower_value t x y less free h = (
  λ k d inside.
      let f = get_or t.equalities k d in
      let a = one_value f x in let b = one_value f y in
      let z = free.0 k d inside in
      let p = subst (λ c. c *ℤ x ≡ pos 0) (sym z) (mul_zero_left x) in
      let q = subst (λ c. c *ℤ y ≡ pos 0) (sym z) (mul_zero_left y) in
      let e = h.0 k d inside in
      omega (arith, ints, a, b, p, q, e),
  λ k d inside.
      let f = get_or t.rows k d in
      let a = one_value f x in let b = one_value f y in
      let m = turned (coefficient_of 0 f) x y (free.1 k d inside) less in
      let e = h.1 k d inside in
      omega (arith, ints, a, b, m, e),
)
  where
    turned : (c u v : ℤ) → c ≤ℤ pos 0 → v ≤ℤ u → (c *ℤ u) ≤ℤ (c *ℤ v)
    turned c u v n l =
        let m = Rattle.whole_numbers.proofs.Order.mul_le_turned v u c l n in
        let p = mul_comm_int c u in let q = mul_comm_int c v in omega (arith, ints)

higher_value : (t : Constraints) (x y : ℤ) → x ≤ℤ y → IsOpenAbove t → Satisfies t (x ∷ []) → Satisfies t (y ∷ [])
higher_value t x y less free h = (
  λ k d inside.
      let f = get_or t.equalities k d in
      let a = one_value f x in let b = one_value f y in
      let z = free.0 k d inside in
      let p = subst (λ c. c *ℤ x ≡ pos 0) (sym z) (mul_zero_left x) in
      let q = subst (λ c. c *ℤ y ≡ pos 0) (sym z) (mul_zero_left y) in
      let e = h.0 k d inside in
      omega (arith, ints, a, b, p, q, e),
  λ k d inside.
      let f = get_or t.rows k d in
      let a = one_value f x in let b = one_value f y in
      let m = mul_le_left x y (coefficient_of 0 f) less (free.1 k d inside) in
      let e = h.1 k d inside in
      omega (arith, ints, a, b, m, e),
)

-- a list parted at a place
record Parted (i : ℕ) (xs : List ℤ) : Type 0 where
  pub front : List ℤ
  pub value : ℤ
  pub back : List ℤ
  pub is : xs ≡ front ++ value ∷ back
  pub size : length front ≡ i

parted : (i : ℕ) (xs : List ℤ) → i < length xs → Parted i xs
parted i [] inside = absurd (omega (arith, inside))
parted zero (x ∷ xs) inside = record { front = []; value = x; back = xs; is = refl; size = refl }
parted (suc i) (x ∷ xs) inside =
    let p = parted i xs (omega (arith, inside)) in
    let is = ap (λ (zs : List ℤ). x ∷ zs) p.is in
    record { front = x ∷ p.front; value = p.value; back = p.back; is = is; size = ap suc p.size }

-- a row of the range tells that its variable is in range
range_over : (n i m : ℕ) (d : ℤ) (xs : List ℤ) → i + m ≤ n → All (λ f. pos 0 ≤ℤ value_over f d xs) (range_rows n i m)
    → (k : ℕ) → i ≤ k → k < i + m → IsInRangeOver d (get_or xs k (pos 0))
range_over n i zero d xs few h k past less = absurd (omega (arith, past, less))
range_over n i (suc m) d xs few h k past less = elim (cases_lt i k) [
  | inl further ↦
      range_over n (suc i) m d xs (omega (arith, few)) (All-tail P (most_row n i) rest (All-tail P (least_row n i)
      (most_row n i ∷ rest) h)) k further (omega (arith, less))
  | inr here ↦
      let e : i ≡ k = omega (arith, past, here) in
      subst (λ j. IsInRangeOver d (get_or xs j (pos 0))) e first
]
  where
    P : Affine → Type 0
    P f = pos 0 ≤ℤ value_over f d xs

    rest : List Affine
    rest = range_rows n (suc i) m

    inside : i < n
    inside = omega (arith, few)

    first : IsInRangeOver d (get_or xs i (pos 0))
    first =
        let a = All-head P (least_row n i) (most_row n i ∷ rest) h in
        let b = All-head P (most_row n i) rest (All-tail P (least_row n i) (most_row n i ∷ rest) h) in
        let u = place_value n i (pos 1) (pos 0) xs inside in
        let v = place_value n i (negsuc 0) (pos 0) xs inside in
        let x = get_or xs i (pos 0) in
        let p = mul_one_left x in
        let q = mul_neg_left (pos 1) x in
        let z = mul_zero_left d in
        (omega (arith, ints, a, u, p, z), omega (arith, ints, b, v, p, q, z))

behind : (front : List ℤ) (x : ℤ) (ps : List ℤ) (k : ℕ) (d : ℤ)
    → get_or (front ++ x ∷ ps) (length front + 1 + k) d ≡ get_or ps k d
behind [] x ps k d = ap (λ i. get_or (x ∷ ps) i d) (one_more_place k)
  where
    one_more_place : (k : ℕ) → 0 + 1 + k ≡ suc k
    one_more_place k = omega arith
behind (y ∷ front) x ps k d =
    ap (λ i. get_or (y ∷ front ++ x ∷ ps) i d) (further (length front) k) ∙ behind front x ps k d
  where
    further : (n k : ℕ) → suc n + 1 + k ≡ suc (n + 1 + k)
    further n k = omega arith

all_front : (P : Affine → Type 0) (fs gs : List Affine) → All P (fs ++ gs) → All P fs
all_front P [] gs h = All-nil P
all_front P (f ∷ fs) gs h =
    All-cons P f fs (All-head P f (fs ++ gs) h) (all_front P fs gs (All-tail P f (fs ++ gs) h))

all_back : (P : Affine → Type 0) (fs gs : List Affine) → All P (fs ++ gs) → All P gs
all_back P [] gs h = h
all_back P (f ∷ fs) gs h = all_back P fs gs (All-tail P f (fs ++ gs) h)

-- a point of fractions of a system, its last dimension so many times a value, its parameters in range
record LastIs (t : Constraints) (y : ℤ) : Type 0 where
  pub denominator : ℤ
  pub front : List ℤ
  pub params : List ℤ
  pub positive : pos 0 <ℤ denominator
  pub size : length front + 1 ≡ t.dimensions
  pub count : length params ≡ t.parameters
  pub range : AreInRangeOver denominator params
  pub holds : HoldsOver t.equalities t.rows denominator (front ++ (denominator *ℤ y) ∷ params)

-- a whole value of the last dimension alone is that of such a point
alone_from : (t : Constraints) (y : ℤ) → 0 < t.dimensions → Satisfies (last_alone t) (y ∷ []) → LastIs t y
alone_from t y some h =
    let p = t.parameters in
    let one : pos 0 <ℤ pos 1 = omega (arith, ints) in
    let a = (all_left 1 p (last_with_parameters t) (pos 1) (y ∷ []) [] one refl).0
    ((whole_point (last_alone t) (y ∷ [])).1 h) in
    let e = a.factor *ℤ pos 1 in
    let some_e = mul_positive a.factor (pos 1) a.positive one in
    let b = (all_left 0 (t.dimensions - 1) (ranged t) e [] ((a.factor *ℤ y) ∷ (a.between ++ [])) some_e refl).0
    a.holds in
    let d = b.factor *ℤ e in
    let x = b.factor *ℤ (a.factor *ℤ y) in
    let ps = multiples b.factor (a.between ++ []) in
    let same : x ≡ d *ℤ y =
    sym (mul_assoc_int b.factor a.factor y) ∙ ap (λ z. (b.factor *ℤ z) *ℤ y) (sym (mul_one_right a.factor)) in
    let size : length b.between + 1 ≡ t.dimensions = let s = b.size in omega (arith, s, some) in
    let count : length ps ≡ p =
    length-multiples b.factor (a.between ++ []) ∙ ap length (append-nil a.between) ∙ a.size in
    let point = b.between ++ x ∷ ps in
    let n = t.dimensions + p in
    let P : Affine → Type 0 = λ f. pos 0 ≤ℤ value_over f d point in
    let rows = b.holds.1 in
    let range = range_over n t.dimensions p d point (omega arith)
    (all_back P t.rows (range_rows n t.dimensions p) rows) in
    record {
      denominator = d;
      front = b.between;
      params = ps;
      positive = mul_positive b.factor e b.positive some_e;
      size = size;
      count = count;
      range = λ k v inside.
          let j = length b.between + 1 + k in
          let g = behind b.between x ps k (pos 0) in
          let own = get_or_same ps k (pos 0) v inside in
          subst (IsInRangeOver d) (g ∙ own)
          (range j (omega (arith, size)) (omega (arith, size, inside, count)));
      holds = subst (λ z. HoldsOver t.equalities t.rows d (b.between ++ z ∷ ps)) same
          (b.holds.0, all_front P t.rows (range_rows n t.dimensions p) rows);
    }

-- so a bounded set's projection has no far value of its last dimension alone
far_value : (s : Constraints) (n : ℕ) (y : ℤ) → n < s.dimensions → IsBounded s
    → Satisfies (last_alone (projected n s)) (y ∷ []) → unsigned_abs y ≤ 2 ^ 64
far_value s n y less bounded h =
    let t = projected n s in
    let shape = projected_shape n s in
    let td = shape.0 in
    let tp = shape.1 in
    let a = alone_from t y (omega (arith, td, less)) h in
    let d = a.denominator in
    let x = d *ℤ y in
    let front = a.front ++ x ∷ [] in
    let asize = a.size in
    let size : length front ≡ s.dimensions - n = omega (arith, length-append a.front (x ∷ []), asize, td) in
    let b = (projected_left n s (omega (arith, less)) d front a.params a.positive size).0
    (subst (HoldsOver t.equalities t.rows d) (sym (one_more a.front x a.params)) a.holds) in
    let m = b.factor in
    let values = multiples m front ++ b.between in
    let bsize = b.size in
    let total : length values ≡ s.dimensions =
    omega (arith, length-append (multiples m front) b.between, length-multiples m front, size, bsize, less) in
    let params = multiples m a.params in
    let count : length params ≡ s.parameters = length-multiples m a.params ∙ a.count ∙ tp in
    let positive = mul_positive m d b.positive a.positive in
    let joined = sym (append_assoc (multiples m front) b.between params) in
    let all = bounded (m *ℤ d) values params positive total count (range_times m d a.params b.positive a.range)
    (subst (HoldsOver s.equalities s.rows (m *ℤ d)) joined b.holds) in
    let point : values ≡ multiples m a.front ++ (m *ℤ x) ∷ b.between =
    ap (λ (zs : List ℤ). zs ++ b.between) (multiples-append m a.front (x ∷ []))
    ∙ one_more (multiples m a.front) (m *ℤ x) b.between in
    let P : ℤ → Type 0 = λ z. unsigned_abs z ≤ 2 ^ 64 * unsigned_abs (m *ℤ d) in
    let own = middle P (multiples m a.front) (m *ℤ x) b.between (subst (All P) point all) in
    let same : m *ℤ x ≡ (m *ℤ d) *ℤ y = sym (mul_assoc_int m d y) in
    within (m *ℤ d) y positive (subst P same own)
  where
    range_times : (k e : ℤ) (ps : List ℤ) → pos 0 <ℤ k → AreInRangeOver e ps → AreInRangeOver (k *ℤ e) (multiples k ps)
    range_times k e [] h r = All-nil (IsInRangeOver (k *ℤ e))
    range_times k e (q ∷ ps) h r =
        let f = All-head (IsInRangeOver e) q ps r in
        let most = pos most_parameter in
        let low = mul_not_negative k q (omega (arith, ints, h)) f.0 in
        let high = mul_le_left q (most *ℤ e) k f.1 (omega (arith, ints, h)) in
        let c = mul_comm_int k e in
        let same : k *ℤ (most *ℤ e) ≡ most *ℤ (k *ℤ e) =
        sym (mul_assoc_int k most e) ∙ ap (λ z. z *ℤ e) (mul_comm_int k most) ∙ mul_assoc_int most k e in
        All-cons (IsInRangeOver (k *ℤ e)) (k *ℤ q) (multiples k ps)
        (low, subst (λ z. (k *ℤ q) ≤ℤ z) same high) (range_times k e ps h (All-tail (IsInRangeOver e) q ps r))

    middle : (P : ℤ → Type 0) (xs : List ℤ) (z : ℤ) (ys : List ℤ) → All P (xs ++ z ∷ ys) → P z
    middle P [] z ys h = All-head P z ys h
    middle P (v ∷ xs) z ys h = middle P xs z ys (All-tail P v (xs ++ z ∷ ys) h)

    cancel : (a b c : ℕ) → 0 < a → a * b ≤ c * a → b ≤ c
    cancel a b c some h = elim (cases_lt c b) [
      | inl more ↦
          let m : a * suc c ≤ a * b = mul-le-mul (omega arith) more in
          let e : a * suc c ≡ c * a + a = grind arith in
          absurd (omega (arith, m, e, h, some))
      | inr less ↦ less
    ]

    within : (e z : ℤ) → pos 0 <ℤ e → unsigned_abs (e *ℤ z) ≤ 2 ^ 64 * unsigned_abs e → unsigned_abs z ≤ 2 ^ 64
    within (pos zero) z h k = absurd (omega (arith, ints, h))
    within (pos (suc n)) z h k =
        let m = unsigned_abs-mul (pos (suc n)) z in
        cancel (suc n) (unsigned_abs z) (2 ^ 64) (omega arith) (subst (λ u. u ≤ 2 ^ 64 * suc n) m k)
    within (negsuc n) z h k = absurd (omega (arith, ints, h))

-- the last value of the front of a point
front_parts : (n : ℕ) (s : Constraints) (params values : List ℤ) → n < s.dimensions → length values ≡ s.dimensions
    → IsSized (variables_in s) s.equalities s.rows → AreInRange params → Satisfies s (values ++ params)
    → (x : ℤ) × Satisfies (last_alone (projected n s)) (x ∷ [])
front_parts n s params values less size sized range h =
    let p = parted (s.dimensions - suc n) values (omega (arith, less, size)) in
    let t = projected n s in
    let shape = projected_sized n s (omega (arith, less)) sized in
    let td = shape.0 in
    let psize = p.size in
    let whole : length values ≡ length p.front + suc (length p.back) =
    ap length p.is ∙ length-append p.front (p.value ∷ p.back) in
    let back : length p.back ≡ n = omega (arith, whole, size, psize, less) in
    let longer = p.front ++ p.value ∷ [] in
    let total : length (longer ++ p.back) ≡ s.dimensions =
    ap length (one_more p.front p.value p.back ∙ sym p.is) ∙ size in
    let point : values ++ params ≡ longer ++ (p.back ++ params) =
    ap (λ (zs : List ℤ). zs ++ params) (p.is ∙ sym (one_more p.front p.value p.back))
    ∙ append_assoc longer p.back params in
    let front = front_of n s longer p.back params back total (subst (Satisfies s) point h) in
    let last = last_value t p.front p.value params shape.2 (omega (arith, td, psize, less)) range
    (subst (Satisfies t) (one_more p.front p.value params) front) in
    (p.value, last)

pub open_has_none : (s : Constraints) → IsBounded s → IsOpenSomewhere s → HasNoPoint s
open_has_none s bounded o params values range size h =
    let x = front_parts o.before s params values o.less size o.sized range h in
    by_side x.0 x.1 o.there
  where
    t : Constraints
    t = last_alone (projected o.before s)

    by_side : (x : ℤ) → Satisfies t (x ∷ []) → IsOpen t → ⊥
    by_side x k (inl below) =
        let y = negsuc (unsigned_abs x + 2 ^ 64) in
        let l = abs_low x in
        let f = far_value s o.before y o.less bounded (lower_value t x y (omega (arith, ints, l)) below k) in
        absurd (omega (arith, f))
    by_side x k (inr above) =
        let y = pos (unsigned_abs x + (2 ^ 64 + 1)) in
        let l = abs_high x in
        let f = far_value s o.before y o.less bounded (higher_value t x y (omega (arith, ints, l)) above k) in
        absurd (omega (arith, f))
