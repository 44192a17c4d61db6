-- A cut that is not too wide keeps each whole point.
use Rattle.whole_numbers.proofs.Common.{refl, ◌≡◌, ℕ, zero, suc, ◌+◌, ◌<◌, ℤ, pos, neg_ℤ, ◌+ℤ◌, ◌-ℤ◌, ◌*ℤ◌, ◌≤ℤ◌, ◌<ℤ◌}
use Rattle.whole_numbers.proofs.Common.{Option, Some, None, List, [], ◌∷◌, ◌++◌, length, get_or, subst, ap, ap₂, sym}
use Rattle.whole_numbers.proofs.Common.{◌∙◌, arith, Ok, ints, dot, zeros, NotNegative, floor, remainder, IsFloor}
use Rattle.whole_numbers.proofs.Common.{floor_is, mul_comm_int, mul_zero_left, mul_sub_left, mul_sub_right}
use Rattle.whole_numbers.proofs.Common.{mul_distrib_left, mul_assoc_int, mul_neg_left, mul_not_negative, dot-set_left}
use Rattle.whole_numbers.proofs.Common.{dot-nil}
use Rattle.std.proofs.Math.ListN.{length-set}
use Rattle.tableau_rows.specs.Rows.{Row, row_of, At}
use Rattle.tableau_rows.specs.Moves.{cut_entries, cut_entries_run, tied, lowest_row, cut_run}
use Rattle.tableau_rows.specs.Solutions.{tie, IsPlaced}
use Rattle.tableau_rows.proofs.PivotMoves.{lowered_sized}
use Rattle.tableau_rows.proofs.Pivots.{lowered_at}
use Rattle.tableau_rows.proofs.LeastPoints.{dot_apart}
use Rattle.tableau_rows.proofs.Lowest.{lowest_is}
use Rattle.whole_numbers.proofs.Order.{factor_up}
use Rattle.affine_forms.specs.Checked.{difference_of, ◌>>=◌}
use Rattle.affine_forms.proofs.CheckedSteps.{difference_of-ok, chain-ok}

pub remainder_in : (a d : ℤ) → pos 0 <ℤ d → (pos 0 ≤ℤ remainder a d) × (remainder a d <ℤ d)
remainder_in a d positive =
    let f = floor_is a d positive in
    let below = f.below in
    let above = f.above in
    let c = mul_comm_int d (floor a d) in
    (omega (arith, ints), omega (arith, ints))

pub cut_entries_run-exact : (n : ℕ) (d : ℤ) (es zs : List ℤ) → cut_entries_run n d es ≡ Ok zs → zs ≡ cut_entries n d es
cut_entries_run-exact n d [] zs h = cc
cut_entries_run-exact zero d (b ∷ bs) zs h =
    let c = chain-ok (difference_of (pos 0) b)
    (λ (m : ℤ). cut_entries_run zero d bs >>= λ rest. Ok (neg_ℤ (remainder m d) ∷ rest)) zs h in
    let e = chain-ok (cut_entries_run zero d bs) (λ (rest : List ℤ). Ok (neg_ℤ (remainder c.0 d) ∷ rest)) zs c.2 in
    let m : c.0 ≡ neg_ℤ b = let p = ((difference_of-ok (pos 0) b c.0).0 c.1).0 in omega (arith, ints) in
    let f = ap (λ (k : ℤ). neg_ℤ (remainder k d)) m in
    let rest = cut_entries_run-exact zero d bs e.0 e.1 in
    let g : zs ≡ neg_ℤ (remainder c.0 d) ∷ e.0 = cc (e.2) in
    g ∙ ap₂ (λ (z : ℤ) (zs : List ℤ). z ∷ zs) f rest
cut_entries_run-exact (suc n) d (a ∷ es) zs h =
    let c = chain-ok (cut_entries_run n d es) (λ (rest : List ℤ). Ok (remainder a d ∷ rest)) zs h in
    let rest = cut_entries_run-exact n d es c.0 c.1 in
    cc (c.2)

-- the multiples of d that a cut leaves out
abbrev pub left_out : ℕ → ℤ → List ℤ → List ℤ
left_out n d [] = []
left_out zero d (b ∷ bs) = neg_ℤ (floor (neg_ℤ b) d) ∷ left_out zero d bs
left_out (suc n) d (a ∷ es) = floor a d ∷ left_out n d es

pub dot-cut : (n : ℕ) (d : ℤ) (es v : List ℤ) → dot (cut_entries n d es) v ≡ dot es v -ℤ (d *ℤ dot (left_out n d es) v)
dot-cut n d [] v = let z = mul_zero_left d in let c = mul_comm_int d (pos 0) in omega (arith, ints)
dot-cut zero d (b ∷ bs) [] = let z = mul_zero_left d in let c = mul_comm_int d (pos 0) in omega (arith, ints)
dot-cut (suc n) d (a ∷ es) [] = let z = mul_zero_left d in let c = mul_comm_int d (pos 0) in omega (arith, ints)
dot-cut zero d (b ∷ bs) (x ∷ v) =
    let more = dot-cut zero d bs v in
    let q = floor (neg_ℤ b) d in
    let t = mul_comm_int d q in
    let e : neg_ℤ (remainder (neg_ℤ b) d) ≡ b -ℤ (neg_ℤ q *ℤ d) = let u = mul_neg_left q d in omega (arith, ints) in
    let f = ap (λ (k : ℤ). k *ℤ x) e in
    let g = mul_sub_right b (neg_ℤ q *ℤ d) x in
    let h = mul_comm_int (neg_ℤ q) d in
    let i = ap (λ (k : ℤ). k *ℤ x) h in
    let j = mul_assoc_int d (neg_ℤ q) x in
    let s = mul_distrib_left (neg_ℤ q *ℤ x) (dot (left_out zero d bs) v) d in
    omega (arith, ints)
dot-cut (suc n) d (a ∷ es) (x ∷ v) =
    let more = dot-cut n d es v in
    let q = floor a d in
    let g = mul_sub_right a (d *ℤ q) x in
    let j = mul_assoc_int d q x in
    let s = mul_distrib_left (q *ℤ x) (dot (left_out n d es) v) d in
    omega (arith, ints)

-- at columns' values that are not negative the columns of a cut add nothing negative
pub cut_columns : (d : ℤ) (es ys : List ℤ) → pos 0 <ℤ d → NotNegative ys
    → pos 0 ≤ℤ dot (cut_entries (length ys) d es) ys
cut_columns d [] ys positive not = omega (arith, ints)
cut_columns d (e ∷ es) [] positive not = let z = dot-nil (cut_entries zero d (e ∷ es)) in omega (arith, ints)
cut_columns d (e ∷ es) (y ∷ ys) positive not =
    let more = cut_columns d es ys positive not.1 in
    let r = remainder_in e d positive in
    let m = mul_not_negative (remainder e d) y r.0 not.0 in
    omega (arith, ints)

-- the place of a tie is one of a row's
abbrev pub IsPlace : Option ℕ → List ℤ → Type 0
IsPlace None es = Unit {0}
IsPlace (Some k) es = k < length es

pub dot-tied : (d : ℤ) (place : Option ℕ) (es v : List ℤ) → IsPlace place es
    → dot (tied d place es) v ≡ dot es v +ℤ (d *ℤ tie place v)
dot-tied d None es v within = let c = mul_comm_int d (pos 0) in let z = mul_zero_left d in omega (arith, ints)
dot-tied d (Some k) es v within =
    let e = dot-set_left es v k (get_or es k (pos 0) +ℤ d) within in
    let f : (get_or es k (pos 0) +ℤ d) -ℤ get_or es k (pos 0) ≡ d = omega (arith, ints) in
    let g = ap (λ (z : ℤ). z *ℤ get_or v k (pos 0)) f in
    omega (arith, ints)

-- the cut's row gives a whole number that is not negative, where the row gives one and the tied parameter is the
-- quotient, rounded down, of what the cut takes off
pub cut_at : (n : ℕ) (place : Option ℕ) (row new : Row) (ys t : List ℤ) (x : ℤ) → cut_run n place row ≡ Ok new
    → pos 0 <ℤ row.denominator
    → IsPlace place (cut_entries n row.denominator row.entries) → length ys ≡ n → NotNegative ys → At row (ys ++ t) x
    → IsFloor (pos 0 -ℤ dot (cut_entries n row.denominator row.entries) (zeros n ++ t)) row.denominator
    (tie place (ys ++ t))
    → (w : ℤ) × (pos 0 ≤ℤ w) × At new (ys ++ t) w
unfolding cut_run
cut_at n place row new ys t x h positive within size not at is =
    let d = row.denominator in
    let es = row.entries in
    let c = chain-ok (cut_entries_run n d es) (λ (zs : List ℤ). Ok (lowest_row (row_of d (tied d place zs)))) new h in
    let cs = cut_entries n d es in
    let exact = cut_entries_run-exact n d es c.0 c.1 in
    let long = row_of d (tied d place cs) in
    let is_new : new ≡ lowest_row long = cc (c.2) in
    let v = ys ++ t in
    let q = tie place v in
    let w = (x -ℤ dot (left_out n d es) v) +ℤ q in
    let a = dot-tied d place cs v within in
    let b = dot-cut n d es v in
    let e = mul_distrib_left (x -ℤ dot (left_out n d es) v) q d in
    let f = mul_sub_left x (dot (left_out n d es) v) d in
    let at_long : At long v w = omega (arith, ints) in
    let g = dot_apart cs ys t in
    let i = ap (λ (k : ℕ). dot cs (zeros k ++ t)) size in
    let j = cut_columns d es ys positive not in
    let k = ap (λ (k : ℕ). dot (cut_entries k d es) ys) size in
    let above = is.above in
    let l = mul_comm_int q d in (
      w,
      factor_up d w positive (omega (arith, ints)),
      subst (λ (r : Row). At r v w) (sym is_new)
          (lowered_at long (lowest_row long) v w (lowest_is long positive) at_long),
    )

-- a cut's constant is a remainder, turned
pub cut_constant : (n : ℕ) (d : ℤ) (es : List ℤ) → pos 0 <ℤ d
    → (get_or (cut_entries n d es) n (pos 0) ≤ℤ pos 0) × ((pos 0 -ℤ d) <ℤ get_or (cut_entries n d es) n (pos 0))
cut_constant n d [] positive = (omega (arith, ints), omega (arith, ints))
cut_constant zero d (e ∷ es) positive =
    let r = remainder_in (neg_ℤ e) d positive in let k = r.0 in let l = r.1 in
    (omega (arith, ints), omega (arith, ints))
cut_constant (suc n) d (e ∷ es) positive = cut_constant n d es positive

pub length-cut : (n : ℕ) (d : ℤ) (es : List ℤ) → length (cut_entries n d es) ≡ length es
length-cut n d [] = refl
length-cut zero d (e ∷ es) = let more = length-cut zero d es in omega arith
length-cut (suc n) d (e ∷ es) = let more = length-cut n d es in omega arith

-- a place among the entries of a row is one of its cut's
pub is_place : (n m : ℕ) (place : Option ℕ) (row : Row) → IsPlaced n m place → length row.entries ≡ n + 1 + m
    → IsPlace place (cut_entries n row.denominator row.entries)
is_place n m None row h size = tt
is_place n m (Some k) row h size = let l = length-cut n row.denominator row.entries in omega arith

pub length-tied : (d : ℤ) (place : Option ℕ) (es : List ℤ) → length (tied d place es) ≡ length es
length-tied d None es = refl
length-tied d (Some k) es = simp length-set refl

pub cut_sized : (n : ℕ) (place : Option ℕ) (row new : Row) → pos 0 <ℤ row.denominator → cut_run n place row ≡ Ok new
    → (pos 0 <ℤ new.denominator) × (length new.entries ≡ length row.entries)
unfolding cut_run
cut_sized n place row new positive h =
    let d = row.denominator in
    let c = chain-ok (cut_entries_run n d row.entries) (λ (zs : List ℤ). Ok (lowest_row (row_of d (tied d place zs))))
    new h in
    let exact = cut_entries_run-exact n d row.entries c.0 c.1 in
    let long = row_of d (tied d place (cut_entries n d row.entries)) in
    let is_new : new ≡ lowest_row long = cc (c.2) in
    let size = lowered_sized long (lowest_row long) positive (lowest_is long positive) in
    subst (λ (r : Row). (pos 0 <ℤ r.denominator) × (length r.entries ≡ length row.entries)) (sym is_new)
    (size.0, size.1 ∙ length-tied d place (cut_entries n d row.entries) ∙ length-cut n d row.entries)
