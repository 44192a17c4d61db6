use Rattle.std.proofs.Common.{rules, ◌≡◌, ◌∙◌, ap, FitsSigned, ℕ, ℤ, pos, negsuc, arith, ◌/◌, to_z, ◌-ℤ◌, ◌<ℤ◌}
use Rattle.std.proofs.Common.{unsigned_abs}
use Rattle.std.specs.Int.{w128}
use Rattle.std.proofs.lemmas.Int.{to_z-of_z, ints}
use Rattle.wide_math.specs.Floor.{floor}
use Rattle.affine_forms.proofs.row.wide_quotient.Goals as goal

-- the quotient of a negative number, from that of its complement
floor_below : (a : ℤ) (d size : ℕ) → a <ℤ pos 0 → size ≡ unsigned_abs (negsuc 0 -ℤ a)
    → negsuc 0 -ℤ pos (size / d) ≡ floor a (pos d)
floor_below (pos n) d size less e = absurd (omega (arith, ints))
floor_below (negsuc n) d size less e =
    let same : size ≡ n = omega (arith, ints, e) in
    let quotient : size / d ≡ n / d = ap (λ k. k / d) same in
    omega (arith, ints, quotient)

pub returns-then-a-lt0 : goal.returns-then-a-lt0
returns-then-a-lt0 c =
    let a = c.args.a in
    let q = c.unsigned_abs.result / c.args.divisor in
    let fits : FitsSigned w128 a = search rules in
    let fits_rest : FitsSigned w128 (negsuc 0 -ℤ a) = search rules in
    let fits_quotient : FitsSigned w128 (pos q) = search rules in
    let cast : to_z w128 q ≡ pos q = omega (arith, ints, fits_quotient) in
    let is : negsuc 0 -ℤ to_z w128 q ≡ floor a (pos c.args.divisor) =
    ap (λ z. negsuc 0 -ℤ z) cast
    ∙ floor_below a c.args.divisor c.unsigned_abs.result (omega (arith, ints, c.if-a-lt0.true))
    (simp to_z-of_z at c.unsigned_abs.ensures.value) in
    let fits_all : FitsSigned w128 (negsuc 0 -ℤ to_z w128 q) = search rules in
    to_z-of_z w128 (negsuc 0 -ℤ to_z w128 q) fits_all ∙ is
