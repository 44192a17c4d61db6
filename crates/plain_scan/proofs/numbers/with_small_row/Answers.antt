use Rattle.scop_syntax.proofs.Common.{rules, pos, ◌<ℤ◌, FitsSigned, neg_ℤ, w128, to_z-of_z, IsFloor, IsCeiling}
use Rattle.plain_scan.proofs.Values.{low_row, high_row, small_ceiling}
use Rattle.plain_scan.proofs.numbers.with_small_row.Goals as goal

pub with_low-requires : goal.with_low-requires
with_low-requires c =
    let h : pos 0 <ℤ c.args.factor = search rules in
    let fits : FitsSigned w128 c.opposite.result = search rules in
    let fits2 : FitsSigned w128 c.in-Ok.bound = search rules in
    let is : IsCeiling c.opposite.result c.args.factor c.in-Ok.bound = search rules in
    simp to_z-of_z (small_ceiling c.opposite.result c.args.factor c.in-Ok.bound h is c.opposite.ensures.small)

pub returns-in-Ok-clause-between : goal.returns-in-Ok-clause-between
returns-in-Ok-clause-between c =
    let is : IsCeiling (neg_ℤ c.args.constant) c.args.factor c.in-Ok.bound = search rules in
    let h : pos 0 <ℤ c.args.factor = search rules in
    let fits : FitsSigned w128 c.in-Ok.bound = search rules in
    λ x p b. c.with_low.ensures.between x
    (simp to_z-of_z (low_row c.args.factor c.args.constant c.in-Ok.bound x h is p)) b

pub returns-in-Ok-floor_div-clause-between : goal.returns-in-Ok-floor_div-clause-between
returns-in-Ok-floor_div-clause-between c =
    let is : IsFloor c.args.constant (neg_ℤ c.args.factor) c.in-Ok-floor_div.bound = search rules in
    let h : c.args.factor <ℤ pos 0 = search rules in
    let fits : FitsSigned w128 c.in-Ok-floor_div.bound = search rules in
    λ x p b. c.with_high.ensures.between x
    (simp to_z-of_z (high_row c.args.factor c.args.constant c.in-Ok-floor_div.bound x h is p)) b
