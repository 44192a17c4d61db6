use Rattle.whole_numbers.proofs.Common.{arith, rules, ◌≡◌}
use Rattle.std.proofs.lemmas.Nat.Gcd.{IsGcd-from_zero, IsGcd-from_mod}
use Rattle.wide_math.proofs.divisors.gcd_of_sizes.Goals as goal

pub loop-y-preserved : goal.loop-y-preserved
loop-y-preserved c g h = c.loop-y.invariant g (IsGcd-from_mod _ _ g h)

pub returns : goal.returns
returns c = c.loop-y.invariant _ (IsGcd-from_zero _ _ (omega arith))

pub returns-in-Ok-Ok : goal.returns-in-Ok-Ok
returns-in-Ok-Ok c =
    let ex : c.loop-y.x ≡ c.in-Ok-Ok.a = search rules in
    let ey : c.loop-y.y ≡ c.in-Ok-Ok.b = search rules in
    let eg : c.from.result ≡ c.narrow_gcd.result = search rules in
    c.loop-y.invariant c.from.result (rw (ex, ey, eg) c.narrow_gcd.ensures)
