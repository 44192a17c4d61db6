-- Eliminations one after another are exact over fractions: what they leave holds at a point where some fractions for
-- the eliminated dimensions, in their places, satisfy the system.
use Rattle.whole_numbers.proofs.Common.{◌≡◌, ℕ, zero, suc, ◌+◌, ◌-◌, ◌<◌, ℤ, pos, List, [], ◌∷◌, ◌++◌, length, set}
use Rattle.whole_numbers.proofs.Common.{refl, sym, ◌∙◌, ap, subst, arith, length-append, ◌≤◌, ◌*ℤ◌, ◌<ℤ◌, ints}
use Rattle.whole_numbers.proofs.Common.{multiples, multiples-append, multiples-multiples, multiples-one}
use Rattle.whole_numbers.proofs.Common.{length-multiples, mul_positive, mul_assoc_int, mul_one_left}
use Rattle.std.proofs.lemmas.List.{append-nil}
use Rattle.std.proofs.Math.Seq.{set-append_seam}
use Rattle.fractions.specs.Fractions.{HoldsOver}
use Rattle.fractions.proofs.SystemElimination.{elimination_is_exact}
use Rattle.fractions.proofs.AbsentVariables.{eliminated_absent}
use Rattle.fractions.proofs.Chain.{narrowed_holds, chain_end}
use Rattle.integer_sets.specs.Constraints.{Constraints}
use Rattle.integer_sets.specs.Points.{Satisfies}
use Rattle.fm_projection.specs.Projecting.{elimination_of, gone, projected, all_gone, HoldsForSomeBetween, IsLeftOf}
use Rattle.fm_projection.specs.Projecting.{without_column}
use Rattle.fm_projection.proofs.TightestRows.{loosened_holds}
use Rattle.fm_projection.proofs.WholePoints.{follow_over, one_more}
use Rattle.fm_projection.proofs.Law.{whole_point}

-- the system holds at a point of fractions
abbrev pub At : Constraints → ℤ → List ℤ → Type 0
At s d xs = HoldsOver s.equalities s.rows d xs

-- the same point over the same denominator, written otherwise
at_same : (s : Constraints) (d e : ℤ) (xs ys : List ℤ) → d ≡ e → xs ≡ ys → At s d xs → At s e ys
at_same s d e xs ys h k holds = subst (At s e) k (subst (λ (z : ℤ). At s z xs) h holds)

-- a factor on a point and its denominator changes nothing
unscaled : (s : Constraints) (k d : ℤ) (xs : List ℤ) → pos 0 <ℤ k → At s (k *ℤ d) (multiples k xs) → At s d xs
unscaled s k d xs positive h =
    (chain_end s.equalities s.rows d xs).0
    (record {
      factor = k;
      more = [];
      positive = positive;
      size = refl;
      holds = subst (At s (k *ℤ d)) (sym (append-nil (multiples k xs))) h;
    })

-- some fraction between those of front and back
record ForOne (s : Constraints) (d : ℤ) (front back : List ℤ) : Type 0 where
  pub factor : ℤ
  pub value : ℤ
  pub positive : pos 0 <ℤ factor
  pub holds : At s (factor *ℤ d) (multiples factor front ++ value ∷ multiples factor back)

seam : (k : ℤ) (front : List ℤ) (x : ℤ) (back : List ℤ) (v : ℤ) (i : ℕ) → length front ≡ i
    → set (multiples k (front ++ x ∷ back)) i v ≡ multiples k front ++ v ∷ multiples k back
seam k front x back v i size =
    ap (λ (zs : List ℤ). set zs i v) (multiples-append k front (x ∷ back))
    ∙ ap (λ (j : ℕ). set (multiples k front ++ (k *ℤ x) ∷ multiples k back) j v)
    (sym size ∙ sym (length-multiples k front))
    ∙ set-append_seam (multiples k front) (k *ℤ x) (multiples k back) v

-- one elimination
one_from : (i : ℕ) (s : Constraints) (d : ℤ) (front back : List ℤ) → pos 0 <ℤ d → length front ≡ i
    → At (gone i s) d (front ++ back) → ForOne s d front back
one_from i s d front back positive size tight =
    let left = elimination_of i s in
    let h = loosened_holds d (front ++ back) positive (without_column i left) tight in
    let absent = eliminated_absent i s.equalities s.rows in
    let holds = narrowed_holds left.equalities left.rows d front (pos 0) back i size absent.0 absent.1 in
    let inside : i < length (front ++ pos 0 ∷ back) = omega (arith, length-append front (pos 0 ∷ back), size) in
    let some = (elimination_is_exact i s.equalities s.rows d (front ++ pos 0 ∷ back) inside).0 (holds.0 h) in
    record {
      factor = some.factor;
      value = some.numerator;
      positive = some.positive;
      holds = subst (At s (some.factor *ℤ d)) (seam some.factor front (pos 0) back some.numerator i size) some.holds;
    }

none_between : (s : Constraints) (d : ℤ) (front back : List ℤ) → At s d (front ++ back)
    → HoldsForSomeBetween 0 s d front back
none_between s d front back h =
    record {
      factor = pos 1;
      between = [];
      positive = omega (arith, ints);
      size = refl;
      holds = at_same s d (pos 1 *ℤ d) (front ++ back) (multiples (pos 1) front ++ multiples (pos 1) back)
          (sym (mul_one_left d))
          (sym (multiples-one (front ++ back)) ∙ multiples-append (pos 1) front back) h;
    }

-- two multiples of a point, with one more value between
all_point : (j k v : ℤ) (front between back : List ℤ)
    → multiples j (multiples k front) ++ (between ++ v ∷ multiples j (multiples k back))
    ≡ multiples (j *ℤ k) front ++ ((between ++ v ∷ []) ++ multiples (j *ℤ k) back)
all_point j k v front between back =
    rw (multiples-multiples j k front, multiples-multiples j k back, one_more between v (multiples (j *ℤ k) back)) refl

projected_point : (j k x : ℤ) (front between back : List ℤ)
    → multiples j (multiples k front ++ x ∷ []) ++ (between ++ multiples j (multiples k back))
    ≡ multiples (j *ℤ k) front ++ (j *ℤ x) ∷ (between ++ multiples (j *ℤ k) back)
projected_point j k x front between back =
    rw (multiples-append j (multiples k front) (x ∷ []), multiples-multiples j k front, multiples-multiples j k back)
    (one_more (multiples (j *ℤ k) front) (j *ℤ x) (between ++ multiples (j *ℤ k) back))

-- n eliminations at a place
all_from : (i n : ℕ) (s : Constraints) (d : ℤ) (front back : List ℤ) → pos 0 <ℤ d → length front ≡ i
    → At (all_gone i n s) d (front ++ back)
    → HoldsForSomeBetween n s d front back
all_from i zero s d front back positive size h = none_between s d front back h
all_from i (suc n) s d front back positive size h =
    let one = one_from i (all_gone i n s) d front back positive size h in
    let k = one.factor in
    let more = all_from i n s (k *ℤ d) (multiples k front) (one.value ∷ multiples k back)
    (mul_positive k d one.positive positive) (length-multiples k front ∙ size) one.holds in
    let j = more.factor in
    let v = j *ℤ one.value in
    record {
      factor = j *ℤ k;
      between = more.between ++ v ∷ [];
      positive = mul_positive j k more.positive one.positive;
      size = let e = more.size in omega (arith, length-append more.between (v ∷ []), e);
      holds = at_same s (j *ℤ (k *ℤ d)) ((j *ℤ k) *ℤ d)
          (multiples j (multiples k front) ++ (more.between ++ v ∷ multiples j (multiples k back)))
          (multiples (j *ℤ k) front ++ ((more.between ++ v ∷ []) ++ multiples (j *ℤ k) back))
          (sym (mul_assoc_int j k d))
          (all_point j k v front more.between back) more.holds;
    }

pub all_to : (i n : ℕ) (s : Constraints) (e : ℤ) (front between back : List ℤ) → length front ≡ i
    → length between ≡ n
    → At s e (front ++ (between ++ back)) → At (all_gone i n s) e (front ++ back)
all_to i zero s e front [] back size count h = h
all_to i zero s e front (x ∷ between) back size count h = absurd (omega (arith, count))
all_to i (suc n) s e front [] back size count h = absurd (omega (arith, count))
all_to i (suc n) s e front (x ∷ between) back size count h =
    subst (λ t. At t e (front ++ back)) (gone_first i n s)
    (all_to i n (gone i s) e front between back size (omega (arith, count))
    (follow_over i s e front x (between ++ back) size h))
  where
    gone_first : (j m : ℕ) (t : Constraints) → all_gone j m (gone j t) ≡ gone j (all_gone j m t)
    gone_first j zero t = refl
    gone_first j (suc m) t = ap (gone j) (gone_first j m t)

-- a projection
projected_from : (n : ℕ) (s : Constraints) (d : ℤ) (front back : List ℤ) → n ≤ s.dimensions → pos 0 <ℤ d
    → length front ≡ s.dimensions - n
    → At (projected n s) d (front ++ back)
    → HoldsForSomeBetween n s d front back
projected_from zero s d front back few positive size h = none_between s d front back h
projected_from (suc n) s d front back few positive size h =
    let one = one_from (s.dimensions - suc n) (projected n s) d front back positive size h in
    let k = one.factor in
    let longer = multiples k front ++ one.value ∷ [] in
    let total : length longer ≡ s.dimensions - n =
    omega (arith, few, size, length-multiples k front, length-append (multiples k front) (one.value ∷ [])) in
    let more = projected_from n s (k *ℤ d) longer (multiples k back) (omega (arith, few))
    (mul_positive k d one.positive positive) total
    (subst (At (projected n s) (k *ℤ d)) (sym (one_more (multiples k front) one.value (multiples k back))) one.holds) in
    let j = more.factor in
    let v = j *ℤ one.value in
    record {
      factor = j *ℤ k;
      between = v ∷ more.between;
      positive = mul_positive j k more.positive one.positive;
      size = ap suc more.size;
      holds = at_same s (j *ℤ (k *ℤ d)) ((j *ℤ k) *ℤ d)
          (multiples j longer ++ (more.between ++ multiples j (multiples k back)))
          (multiples (j *ℤ k) front ++ v ∷ (more.between ++ multiples (j *ℤ k) back))
          (sym (mul_assoc_int j k d)) (projected_point j k one.value front more.between back) more.holds;
    }

projected_to : (n : ℕ) (s : Constraints) (e : ℤ) (front between back : List ℤ) → length front + n ≡ s.dimensions
    → length between ≡ n
    → At s e (front ++ (between ++ back)) → At (projected n s) e (front ++ back)
projected_to zero s e front [] back size count h = h
projected_to zero s e front (x ∷ between) back size count h = absurd (omega (arith, count))
projected_to (suc n) s e front [] back size count h = absurd (omega (arith, count))
projected_to (suc n) s e front (x ∷ between) back size count h =
    let total : length (front ++ x ∷ []) + n ≡ s.dimensions = omega (arith, size, length-append front (x ∷ [])) in
    let more = projected_to n s e (front ++ x ∷ []) between back total (omega (arith, count))
    (subst (At s e) (sym (one_more front x (between ++ back))) h) in
    follow_over (s.dimensions - suc n) (projected n s) e front x back (omega (arith, size))
    (subst (At (projected n s) e) (one_more front x back) more)

-- both ways
left_of : (i n : ℕ) (s t : Constraints)
    → ((d : ℤ) (front back : List ℤ) → pos 0 <ℤ d → length front ≡ i → At t d (front ++ back)
    → HoldsForSomeBetween n s d front back)
    → ((e : ℤ) (front between back : List ℤ) → length front ≡ i → length between ≡ n
    → At s e (front ++ (between ++ back)) → At t e (front ++ back))
    → IsLeftOf i n s t
left_of i n s t from to d front back positive size = (
  from d front back positive size,
  λ m.
      unscaled t m.factor d (front ++ back) m.positive
      (subst (At t (m.factor *ℤ d)) (sym (multiples-append m.factor front back))
      (to (m.factor *ℤ d) (multiples m.factor front) m.between (multiples m.factor back)
      (length-multiples m.factor front ∙ size) m.size m.holds)),
)

pub all_left : (i n : ℕ) (s : Constraints) → IsLeftOf i n s (all_gone i n s)
all_left i n s = left_of i n s (all_gone i n s) (all_from i n s) (all_to i n s)

pub projected_left : (n : ℕ) (s : Constraints) → n ≤ s.dimensions → IsLeftOf (s.dimensions - n) n s (projected n s)
projected_left n s few =
    left_of (s.dimensions - n) n s (projected n s)
    (λ d front back positive size. projected_from n s d front back few positive size)
    (λ e front between back size. projected_to n s e front between back (omega (arith, size, few)))

-- the front of a whole point is a point of the projection
pub front_of : (n : ℕ) (s : Constraints) (outer r params : List ℤ) → length r ≡ n
    → length (outer ++ r) ≡ s.dimensions
    → Satisfies s (outer ++ (r ++ params)) → Satisfies (projected n s) (outer ++ params)
front_of n s outer r params size total h =
    (whole_point (projected n s) (outer ++ params)).0
    (projected_to n s (pos 1) outer r params (omega (arith, size, total, length-append outer r)) size
    ((whole_point s (outer ++ (r ++ params))).1 h))
