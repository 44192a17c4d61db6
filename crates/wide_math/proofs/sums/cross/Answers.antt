use Rattle.whole_numbers.proofs.Common.{rules, FitsSigned, ◌≡◌, ◌-ℤ◌, ◌*ℤ◌, w64}
use Rattle.wide_math.proofs.Narrow.{cross_of_narrow}
use Rattle.wide_math.proofs.sums.cross.Goals as goal

pub returns-in-Ok-Ok-Ok-Ok : goal.returns-in-Ok-Ok-Ok-Ok
returns-in-Ok-Ok-Ok-Ok c =
    let fa : FitsSigned w64 c.args.a = search rules in
    let fb : FitsSigned w64 c.args.b = search rules in
    let fc : FitsSigned w64 c.args.c = search rules in
    let fd : FitsSigned w64 c.args.d = search rules in
    let run = cross_of_narrow c.args.a c.args.b c.args.c c.args.d fa fb fc fd in
    let e : c.narrow_cross.result ≡ (c.args.a *ℤ c.args.b) -ℤ (c.args.c *ℤ c.args.d) = search rules in
    search rules
