-- A pivot that is not too wide combines each row with the pivot row.
use Rattle.whole_numbers.proofs.Common.{◌≡◌, ℕ, zero, suc, ◌+◌, ◌<◌, ℤ, pos, ◌-ℤ◌, ◌*ℤ◌, ◌<ℤ◌, List, [], ◌∷◌, length}
use Rattle.whole_numbers.proofs.Common.{set, refl, subst, ap, ap₂, sym, ◌∙◌, arith, Ok, Bool, true, false, nat_eq}
use Rattle.whole_numbers.proofs.Common.{if◌then◌else◌, ints, eqb-true, multiples, zeros, mul_comm_int, mul_zero_right}
use Rattle.whole_numbers.proofs.Common.{mul_one_right, mul_zero_left, mul_positive, length-multiples}
use Rattle.std.proofs.Math.ListN.{length-set}
use Rattle.whole_numbers.proofs.Order.{cancel_lt}
use Rattle.affine_forms.specs.Checked.{product_of, cross_of, ◌>>=◌}
use Rattle.affine_forms.proofs.CheckedSteps.{product_of-ok, chain-ok, cross_of-exact}
use Rattle.tableau_rows.specs.Rows.{Row, row_of, entry, Sized}
use Rattle.tableau_rows.specs.Moves.{lowest_row, unit_row, crossed_run, entries_run, row_run, placed_run, rows_run}
use Rattle.tableau_rows.specs.Moves.{row_at}
use Rattle.tableau_rows.proofs.Invariant.{crossed, combined, IsLowered, Pivoted}
use Rattle.tableau_rows.proofs.Pivots.{length-crossed}
use Rattle.tableau_rows.proofs.Lowest.{lowest_is}

pub crossed_run-exact : (a b : ℤ) (xs ys zs : List ℤ) → crossed_run a b xs ys ≡ Ok zs → zs ≡ crossed a b xs ys
unfolding crossed_run
crossed_run-exact a b [] ys zs h = cc
crossed_run-exact a b (x ∷ xs) [] zs h = cc
crossed_run-exact a b (x ∷ xs) (y ∷ ys) zs h =
    let c = chain-ok (cross_of x a b y) (λ (z : ℤ). crossed_run a b xs ys >>= λ rest. Ok (z ∷ rest)) zs h in
    let d = chain-ok (crossed_run a b xs ys) (λ (rest : List ℤ). Ok (c.0 ∷ rest)) zs c.2 in
    let z = cross_of-exact x a b y c.0 c.1 in
    let rest = crossed_run-exact a b xs ys d.0 d.1 in
    cc (d.2)

pub entries_run-exact : (s : ℕ) (a b d : ℤ) (xs ys zs : List ℤ) → entries_run s a b d xs ys ≡ Ok zs
    → zs ≡ set (crossed a b xs ys) s (b *ℤ d)
entries_run-exact s a b d [] ys zs h = cc
entries_run-exact s a b d (x ∷ xs) [] zs h = cc
entries_run-exact zero a b d (x ∷ xs) (y ∷ ys) zs h =
    let c = chain-ok (product_of b d) (λ (z : ℤ). crossed_run a b xs ys >>= λ rest. Ok (z ∷ rest)) zs h in
    let e = chain-ok (crossed_run a b xs ys) (λ (rest : List ℤ). Ok (c.0 ∷ rest)) zs c.2 in
    let z = ((product_of-ok b d c.0).0 c.1).0 in
    let rest = crossed_run-exact a b xs ys e.0 e.1 in
    cc (e.2)
entries_run-exact (suc s) a b d (x ∷ xs) (y ∷ ys) zs h =
    let c = chain-ok (cross_of x a b y) (λ (z : ℤ). entries_run s a b d xs ys >>= λ rest. Ok (z ∷ rest)) zs h in
    let e = chain-ok (entries_run s a b d xs ys) (λ (rest : List ℤ). Ok (c.0 ∷ rest)) zs c.2 in
    let z = cross_of-exact x a b y c.0 c.1 in
    let rest = entries_run-exact s a b d xs ys e.0 e.1 in
    cc (e.2)

-- one row
pub row_run-lowered : (s : ℕ) (pivot row new : Row) → pos 0 <ℤ row.denominator → pos 0 <ℤ entry pivot s
    → row_run s pivot row ≡ Ok new
    → IsLowered (combined s pivot row) new
unfolding row_run
row_run-lowered s pivot row new positive here h =
    let a = entry pivot s in
    let b = entry row s in
    let dp = pivot.denominator in
    let c = chain-ok (product_of row.denominator a)
    (λ (d : ℤ). entries_run s a b dp row.entries pivot.entries >>= λ es. Ok (lowest_row (row_of d es))) new h in
    let e = chain-ok (entries_run s a b dp row.entries pivot.entries)
    (λ (es : List ℤ). Ok (lowest_row (row_of c.0 es))) new c.2 in
    let d = ((product_of-ok row.denominator a c.0).0 c.1).0 in
    let es = entries_run-exact s a b dp row.entries pivot.entries e.0 e.1 in
    let is : new ≡ lowest_row (combined s pivot row) = cc (e.2) in
    subst (IsLowered (combined s pivot row)) (sym is)
    (lowest_is (combined s pivot row) (mul_positive row.denominator a positive here))

-- the pivot row combined with itself is a multiple of its column
pub zero_crossed : (a : ℤ) (xs : List ℤ) → crossed a a xs xs ≡ zeros (length xs)
zero_crossed a [] = refl
zero_crossed a (x ∷ xs) =
    let e : (x *ℤ a) -ℤ (a *ℤ x) ≡ pos 0 = let c = mul_comm_int x a in omega (arith, ints) in
    ap₂ (λ (k : ℤ) (ks : List ℤ). k ∷ ks) e (zero_crossed a xs)

pub multiples-unit : (k : ℤ) (m s : ℕ) → multiples k (set (zeros m) s (pos 1)) ≡ set (zeros m) s k
multiples-unit k zero s = refl
multiples-unit k (suc m) zero = ap₂ (λ (z : ℤ) (zs : List ℤ). z ∷ zs) (mul_one_right k) (multiples-zeros k m)
  where
    multiples-zeros : (k : ℤ) (m : ℕ) → multiples k (zeros m) ≡ zeros m
    multiples-zeros k zero = refl
    multiples-zeros k (suc m) = ap₂ (λ (z : ℤ) (zs : List ℤ). z ∷ zs) (mul_zero_right k) (multiples-zeros k m)
multiples-unit k (suc m) (suc s) = ap₂ (λ (z : ℤ) (zs : List ℤ). z ∷ zs) (mul_zero_right k) (multiples-unit k m s)

pub unit_lowered : (s : ℕ) (pivot : Row) → pos 0 <ℤ pivot.denominator → pos 0 <ℤ entry pivot s
    → IsLowered (combined s pivot pivot) (unit_row (length pivot.entries) s)
unit_lowered s pivot positive here =
    let a = entry pivot s in
    let k = a *ℤ pivot.denominator in
    let m = length pivot.entries in
    record {
      factor = k;
      positive = mul_positive a pivot.denominator here positive;
      denominators = mul_comm_int pivot.denominator a ∙ sym (mul_one_right k);
      entries = ap (λ (zs : List ℤ). set zs s k) (zero_crossed a pivot.entries) ∙ sym (multiples-unit k m s);
    }

-- all rows
pub rows_run-pivoted : (m r s : ℕ) (pivot : Row) (i : ℕ) (rows news : List Row) → Sized m rows → pos 0 <ℤ entry pivot s
    → ((j : ℕ) → j < length rows → i + j ≡ r → row_at rows j ≡ pivot) → rows_run r s pivot i rows ≡ Ok news
    → Pivoted s pivot rows news
rows_run-pivoted m r s pivot i [] news sizes here is h =
    let e : news ≡ [] = cc in subst (Pivoted s pivot []) (sym e) tt
rows_run-pivoted m r s pivot i (row ∷ rows) news sizes here is h =
    let c = chain-ok (placed_run r s pivot i row)
    (λ (new : Row). rows_run r s pivot (suc i) rows >>= λ rest. Ok (new ∷ rest)) news h in
    let d = chain-ok (rows_run r s pivot (suc i) rows) (λ (rest : List Row). Ok (c.0 ∷ rest)) news c.2 in
    let e : news ≡ c.0 ∷ d.0 = cc (d.2) in
    subst (Pivoted s pivot (row ∷ rows)) (sym e) (
      placed (nat_eq i r) refl c.0 c.1,
      rows_run-pivoted m r s pivot (suc i) rows d.0 sizes.2 here (λ j low at. is (suc j) (omega arith) (omega arith))
          d.1,
    )
  where
    placed : (b : Bool) → nat_eq i r ≡ b → (new : Row)
        → (if b then Ok (unit_row (length row.entries) s) else row_run s pivot row) ≡ Ok new
        → IsLowered (combined s pivot row) new
    placed true e new h =
        let f : new ≡ unit_row (length row.entries) s = cc in
        let g : row ≡ pivot = is 0 (omega arith) (omega (arith, eqb-true i r e)) in
        let at : pos 0 <ℤ entry row s = subst (λ (p : Row). pos 0 <ℤ entry p s) (sym g) here in
        subst (IsLowered (combined s pivot row)) (sym f)
        (subst (λ (p : Row). IsLowered (combined s p row) (unit_row (length row.entries) s)) g
        (unit_lowered s row sizes.0 at))
    placed false e new h = row_run-lowered s pivot row new sizes.0 here h

-- rows behind a pivot have their sizes and number
pub lowered_sized : (row lower : Row) → pos 0 <ℤ row.denominator → IsLowered row lower
    → (pos 0 <ℤ lower.denominator) × (length lower.entries ≡ length row.entries)
lowered_sized row lower positive is =
    let k = is.factor in
    let e = is.denominators in
    let z = mul_zero_left k in
    let c = mul_comm_int k lower.denominator in
    let kp = is.positive in (
      cancel_lt (pos 0) lower.denominator k (omega (arith, ints)) (omega (arith, ints)),
      sym (length-multiples k lower.entries) ∙ ap (λ (es : List ℤ). length es) (sym is.entries),
    )

pub pivoted_sized : (m s : ℕ) (pivot : Row) (rows news : List Row) → Pivoted s pivot rows news → Sized m rows
    → length pivot.entries ≡ m
    → pos 0 <ℤ entry pivot s → Sized m news × (length news ≡ length rows)
pivoted_sized m s pivot [] [] p sizes same here = (tt, refl)
pivoted_sized m s pivot [] (new ∷ news) p sizes same here = absurd p
pivoted_sized m s pivot (row ∷ rows) [] p sizes same here = absurd p
pivoted_sized m s pivot (row ∷ rows) (new ∷ news) p sizes same here =
    let one = lowered_sized (combined s pivot row) new (mul_positive row.denominator (entry pivot s) sizes.0 here)
    p.0 in
    let rest = pivoted_sized m s pivot rows news p.1 sizes.2 same here in
    let size : length (set (crossed (entry pivot s) (entry row s) row.entries pivot.entries) s
    (entry row s *ℤ pivot.denominator)) ≡ m
    = simp length-set (length-crossed (entry pivot s) (entry row s) row.entries pivot.entries (sizes.1 ∙ sym same)
    ∙ sizes.1) in
    ((one.0, one.1 ∙ size, rest.0), omega (arith, rest.1))
