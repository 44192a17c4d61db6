-- The result of an elimination does not have the variable.
use Rattle.whole_numbers.proofs.Common.{◌≡◌, ℕ, ℤ, pos, ◌*ℤ◌, neg_ℤ, unsigned_abs, List, ap, All, arith, ⊤, ints}
use Rattle.whole_numbers.proofs.Common.{Affine, multiples, mul_neg_left, mul_assoc_int, get_or-sums, get_or-multiples}
use Rattle.fractions.proofs.CarriedProperties.{eliminated_all}
use Rattle.fractions.proofs.Content.{lowest_zero}
use Rattle.fractions.specs.Elimination.{coefficient_of}
use Rattle.fractions.specs.Elimination.{combined, sign, reduced}
use Rattle.fractions.specs.Elimination.{eliminated}
use Rattle.fractions.proofs.EqualityElimination.{size_is}

abbrev pub IsAbsent : ℕ → Affine → Type 0
IsAbsent i f = coefficient_of i f ≡ pos 0

combined_absent : (i : ℕ) (p n : Affine) → IsAbsent i (combined i p n)
combined_absent i p n =
    let a = coefficient_of i p in
    let c = coefficient_of i n in
    let e = get_or-sums (multiples (neg_ℤ c) p.coefficients) (multiples a n.coefficients) i in
    let f = get_or-multiples (neg_ℤ c) p.coefficients i in
    let g = get_or-multiples a n.coefficients i in
    let h = mul_neg_left c a in
    omega (arith, ints)

reduced_absent : (i : ℕ) (e r : Affine) → IsAbsent i (reduced i e r)
reduced_absent i e r =
    let a = coefficient_of i e in
    let c = coefficient_of i r in
    let m = pos (unsigned_abs a) in
    let k = neg_ℤ (sign a *ℤ c) in
    let f = get_or-sums (multiples m r.coefficients) (multiples k e.coefficients) i in
    let g = get_or-multiples m r.coefficients i in
    let h = get_or-multiples k e.coefficients i in
    let l = mul_neg_left (sign a *ℤ c) a in
    let o = ap (λ (z : ℤ). z *ℤ c) (size_is a) in
    let u = mul_assoc_int (sign a) a c in
    let v = mul_assoc_int (sign a) c a in
    let w = ap (λ (z : ℤ). sign a *ℤ z) (Rattle.whole_numbers.proofs.Ring.mul_comm_int a c) in
    omega (arith, ints)

pub eliminated_absent : (i : ℕ) (es rs : List Affine) → All (IsAbsent i) (eliminated i es rs).0
    × All (IsAbsent i) (eliminated i es rs).1
eliminated_absent i es rs = eliminated_all i (λ f. ⊤) (IsAbsent i) es rs
    (record {
      kept = λ f e h. e;
      pair = λ p n hp hn. combined_absent i p n;
      reduce = λ e r he hr. reduced_absent i e r;
      lowest = λ f h. lowest_zero (coefficient_of i) (λ k g. get_or-multiples k g.coefficients i) f h;
    })
    (λ k d inside. tt) (λ k d inside. tt)
