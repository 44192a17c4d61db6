use Rattle.scop_syntax.proofs.Common.{rules, ◌<◌, ◌≤ℤ◌, pos, arith, FitsSigned, get_or, length, w128, to_z-of_z}
use Rattle.scop_syntax.proofs.Common.{All-get_or}
use Rattle.plan_check.proofs.differences.push_opposites.Goals as goal

pub opposite-requires : goal.opposite-requires
opposite-requires c =
    let xs = c.args.numbers.now in
    let i = c.loop-at.at in
    let inside : i < length xs = omega arith in
    let fits : FitsSigned w128 (get_or xs i (pos 0)) = search rules in
    simp to_z-of_z (All-get_or (λ z. pos 0 ≤ℤ z) xs i (pos 0) inside c.requires)
