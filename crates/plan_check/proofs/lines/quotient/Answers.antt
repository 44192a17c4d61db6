use Rattle.scop_syntax.proofs.Common.{rules, FitsSigned, w128, to_z-of_z, ints, arith, pos, ◌<ℤ◌, IsFloor, floor}
use Rattle.scop_syntax.proofs.Common.{floor_is, floor_unique}
use Rattle.plan_check.proofs.lines.quotient.Goals as goal

pub returns-in-Ok : goal.returns-in-Ok
returns-in-Ok c =
    let q = c.in-Ok.quotient in
    let least = c.requires.le in
    let positive : pos 0 <ℤ c.args.divisor = omega (arith, ints) in
    let fits : FitsSigned w128 q = search rules in
    let told : IsFloor c.args.number c.args.divisor q = search rules in
    simp to_z-of_z
    (floor_unique c.args.number c.args.divisor q (floor c.args.number c.args.divisor) positive told
    (floor_is c.args.number c.args.divisor positive))
