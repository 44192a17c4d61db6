-- Eliminations one after another, with the variable's column dropped.
use Rattle.whole_numbers.proofs.Common.{◌≡◌, ℕ, suc, ◌<◌, ℤ, pos, ◌*ℤ◌, ◌≤ℤ◌, ◌<ℤ◌, List, [], ◌∷◌, ◌++◌, length, set}
use Rattle.whole_numbers.proofs.Common.{get_or, ◌↔◌, refl, sym, ◌∙◌, ap, subst, All, arith, map, ints, dot, multiples}
use Rattle.whole_numbers.proofs.Common.{Affine, All-map, multiples-append, multiples-multiples, multiples-one}
use Rattle.whole_numbers.proofs.Common.{mul_positive, mul_assoc_int, mul_one_left, length-multiples, all_unmapped}
use Rattle.std.proofs.lemmas.List.{append-nil, length-append}
use Rattle.std.proofs.Math.Seq.{set-append_seam}
use Rattle.fractions.proofs.PointValues.{value_over-scaled}
use Rattle.fractions.proofs.EqualityElimination.{zero_scales, least_scales}
use Rattle.fractions.specs.Fractions.{value_over, HoldsOver, HoldsForSome}
use Rattle.fractions.specs.Elimination.{removed, narrowed, eliminated}
use Rattle.fractions.specs.Farkas.{HoldsForSomeMore}
use Rattle.fractions.proofs.SystemElimination.{elimination_is_exact}
use Rattle.fractions.proofs.AbsentVariables.{IsAbsent, eliminated_absent}

-- a column that is not had may be dropped
dot-removed : (front : List ℤ) (x : ℤ) (back cs : List ℤ) → get_or cs (length front) (pos 0) ≡ pos 0
    → dot (removed (length front) cs) (front ++ back) ≡ dot cs (front ++ x ∷ back)
dot-removed front x back [] h = refl
dot-removed [] x back (c ∷ cs) h = let e = ap (λ (z : ℤ). z *ℤ x) h in omega (arith, ints)
dot-removed (y ∷ front) x back (c ∷ cs) h = let more = dot-removed front x back cs h in omega (arith, ints)

pub value_over-narrowed : (f : Affine) (d : ℤ) (front : List ℤ) (x : ℤ) (back : List ℤ) (i : ℕ) → length front ≡ i
    → IsAbsent i f
    → value_over (narrowed i f) d (front ++ back) ≡ value_over f d (front ++ x ∷ back)
value_over-narrowed f d front x back i size h =
    let g : get_or f.coefficients (length front) (pos 0) ≡ pos 0 = rw size h in
    let e = rw size at (dot-removed front x back f.coefficients g) in
    omega (arith, ints)

pub narrowed_holds : (es rs : List Affine) (d : ℤ) (front : List ℤ) (x : ℤ) (back : List ℤ) (i : ℕ)
    → length front ≡ i
    → All (IsAbsent i) es → All (IsAbsent i) rs
    → HoldsOver (map (narrowed i) es) (map (narrowed i) rs) d (front ++ back) ↔ HoldsOver es rs d
    (front ++ x ∷ back)
narrowed_holds es rs d front x back i size he hr =
    let Zero : Affine → Type 0 = λ f. value_over f d (front ++ back) ≡ pos 0 in
    let Least : Affine → Type 0 = λ f. pos 0 ≤ℤ value_over f d (front ++ back) in
    let same : (f : Affine) → IsAbsent i f → value_over (narrowed i f) d (front ++ back)
    ≡ value_over f d (front ++ x ∷ back) =
    λ f a. value_over-narrowed f d front x back i size a in (
      λ h. (
        λ j c inside. sym (same (get_or es j c) (he j c inside)) ∙ all_unmapped Zero (narrowed i) es h.0 j c inside,
        λ j c inside. subst (λ (z : ℤ). pos 0 ≤ℤ z) (same (get_or rs j c) (hr j c inside))
            (all_unmapped Least (narrowed i) rs h.1 j c inside),
      ),
      λ h. (
        All-map Zero (narrowed i) es (λ j c inside. same (get_or es j c) (he j c inside) ∙ h.0 j c inside),
        All-map Least (narrowed i) rs
            (λ j c inside. subst (λ (z : ℤ). pos 0 ≤ℤ z) (sym (same (get_or rs j c) (hr j c inside)))
            (h.1 j c inside)),
      ),
    )

-- a point with the variable's fraction put in
seam_point : (j k : ℤ) (xs : List ℤ) (x v : ℤ) (more : List ℤ)
    → set (multiples j (multiples k xs ++ x ∷ more)) (length xs) v ≡ multiples (j *ℤ k) xs ++ v ∷ multiples j more
seam_point j k xs x v more =
    ap (λ (zs : List ℤ). set zs (length xs) v) (multiples-append j (multiples k xs) (x ∷ more)
    ∙ ap (λ (zs : List ℤ). zs ++ (j *ℤ x) ∷ multiples j more) (multiples-multiples j k xs))
    ∙ ap (λ (i : ℕ). set (multiples (j *ℤ k) xs ++ (j *ℤ x) ∷ multiples j more) i v)
    (sym (length-multiples (j *ℤ k) xs))
    ∙ set-append_seam (multiples (j *ℤ k) xs) (j *ℤ x) (multiples j more) v

-- the same point over the same denominator, written otherwise
same_point : (es rs : List Affine) (d e : ℤ) (xs ys : List ℤ) → d ≡ e → xs ≡ ys → HoldsOver es rs d xs
    → HoldsOver es rs e ys
same_point es rs d e xs ys h k holds =
    subst (λ (zs : List ℤ). HoldsOver es rs e zs) k (subst (λ (z : ℤ). HoldsOver es rs z xs) h holds)

-- one elimination of the first of n + 1 variables, its column dropped, leaves n
pub chain_step : (n : ℕ) (es rs : List Affine) (d : ℤ) (xs : List ℤ)
    → HoldsForSomeMore n (map (narrowed (length xs)) (eliminated (length xs) es rs).0)
    (map (narrowed (length xs)) (eliminated (length xs) es rs).1) d xs
    ↔ HoldsForSomeMore (suc n) es rs d xs
chain_step n es rs d xs = (there, λ s. back s.factor s.more s.positive s.size s.holds)
  where
    i : ℕ
    i = length xs

    es' : List Affine
    es' = (eliminated i es rs).0

    rs' : List Affine
    rs' = (eliminated i es rs).1

    none : All (IsAbsent i) es' × All (IsAbsent i) rs'
    none = eliminated_absent i es rs

    within : (k x : ℤ) (more : List ℤ) → i < length (multiples k xs ++ x ∷ more)
    within k x more = omega (arith, length-multiples k xs, length-append (multiples k xs) (x ∷ more))

    there : HoldsForSomeMore n (map (narrowed i) es') (map (narrowed i) rs') d xs
        → HoldsForSomeMore (suc n) es rs d xs
    there s =
        let k = s.factor in
        let front = multiples k xs in
        let h = (narrowed_holds es' rs' (k *ℤ d) front (pos 0) s.more i (length-multiples k xs) none.0 none.1).0
        s.holds in
        let t = (elimination_is_exact i es rs (k *ℤ d) (front ++ pos 0 ∷ s.more) (within k (pos 0) s.more)).0 h in
        record {
          factor = t.factor *ℤ k;
          more = t.numerator ∷ multiples t.factor s.more;
          positive = mul_positive t.factor k t.positive s.positive;
          size = ap suc (length-multiples t.factor s.more ∙ s.size);
          holds = same_point es rs (t.factor *ℤ (k *ℤ d)) ((t.factor *ℤ k) *ℤ d)
              (set (multiples t.factor (front ++ pos 0 ∷ s.more)) i t.numerator)
              (multiples (t.factor *ℤ k) xs ++ t.numerator ∷ multiples t.factor s.more)
              (sym (mul_assoc_int t.factor k d))
              (seam_point t.factor k xs (pos 0) t.numerator s.more) t.holds;
        }

    back : (k : ℤ) (more : List ℤ) → pos 0 <ℤ k → length more ≡ suc n
        → HoldsOver es rs (k *ℤ d) (multiples k xs ++ more)
        → HoldsForSomeMore n (map (narrowed i) es') (map (narrowed i) rs') d xs
    back k [] hk size h = absurd (omega arith)
    back k (m ∷ ms) hk size h =
        let front = multiples k xs in
        let point = front ++ m ∷ ms in
        let moved = ap (λ (zs : List ℤ). set zs i m) (multiples-one point)
        ∙ ap (λ (j : ℕ). set point j m) (sym (length-multiples k xs)) ∙ set-append_seam front m ms m in
        let some : HoldsForSome i es rs (k *ℤ d) point =
        record {
          factor = pos 1;
          numerator = m;
          positive = omega (arith, ints);
          holds = same_point es rs (k *ℤ d) (pos 1 *ℤ (k *ℤ d)) point (set (multiples (pos 1) point) i m)
              (sym (mul_one_left (k *ℤ d))) (sym moved) h;
        } in
        let gone = (elimination_is_exact i es rs (k *ℤ d) point (within k m ms)).1 some in
        record {
          factor = k;
          more = ms;
          positive = hk;
          size = omega arith;
          holds = (narrowed_holds es' rs' (k *ℤ d) front m ms i (length-multiples k xs) none.0 none.1).1 gone;
        }

-- with no variable left the point itself satisfies, where a positive factor on it changes nothing
pub chain_end : (es rs : List Affine) (d : ℤ) (xs : List ℤ) → HoldsForSomeMore 0 es rs d xs ↔ HoldsOver es rs d xs
chain_end es rs d xs = (λ s. there s.factor s.more s.positive s.size s.holds, back)
  where
    there : (k : ℤ) (more : List ℤ) → pos 0 <ℤ k → length more ≡ 0
        → HoldsOver es rs (k *ℤ d) (multiples k xs ++ more)
        → HoldsOver es rs d xs
    there k (m ∷ ms) hk size h = absurd (omega arith)
    there k [] hk size h =
        let g = same_point es rs (k *ℤ d) (k *ℤ d) (multiples k xs ++ []) (multiples k xs) refl
        (append-nil (multiples k xs)) h in (
          λ j c inside. (zero_scales k (value_over (get_or es j c) d xs) hk).0
              (sym (value_over-scaled (get_or es j c) k d xs) ∙ g.0 j c inside),
          λ j c inside. (least_scales k (value_over (get_or rs j c) d xs) hk).0
              (subst (λ (z : ℤ). pos 0 ≤ℤ z) (value_over-scaled (get_or rs j c) k d xs) (g.1 j c inside)),
        )

    back : HoldsOver es rs d xs → HoldsForSomeMore 0 es rs d xs
    back h =
        record {
          factor = pos 1;
          more = [];
          positive = omega (arith, ints);
          size = refl;
          holds = same_point es rs d (pos 1 *ℤ d) xs (multiples (pos 1) xs ++ []) (sym (mul_one_left d))
              (sym (append-nil (multiples (pos 1) xs) ∙ multiples-one xs)) h;
        }
