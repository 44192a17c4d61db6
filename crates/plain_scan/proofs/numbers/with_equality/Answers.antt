use Rattle.scop_syntax.proofs.Common.{rules, FitsSigned, w128, to_z-of_z}
use Rattle.plain_scan.proofs.Values.{other_parts, zero_least}
use Rattle.plain_scan.proofs.numbers.with_equality.Goals as goal

pub returns-in-None-clause-between : goal.returns-in-None-clause-between
returns-in-None-clause-between c x e b =
    let a = c.args.factor in
    let k = c.args.constant in
    let fits : FitsSigned w128 a = search rules in
    let fits2 : FitsSigned w128 k = search rules in
    let fits3 : FitsSigned w128 c.opposite.result = search rules in
    let fits4 : FitsSigned w128 c.opposite-in-None.result = search rules in
    c.with_small_row-in-None.ensures.between x
    (simp to_z-of_z (other_parts a k c.opposite.result c.opposite-in-None.result x
    (simp to_z-of_z at c.opposite.ensures.exact) (simp to_z-of_z at c.opposite-in-None.ensures.exact) e))
    (c.with_small_row.ensures.between x (simp to_z-of_z (zero_least _ e)) b)
