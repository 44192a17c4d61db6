use Rattle.scop_syntax.proofs.Common.{rules, FitsSigned, w128, to_z-of_z}
use Rattle.plain_scan.proofs.Values.{row_parts}
use Rattle.plain_scan.proofs.numbers.with_row_of.Goals as goal

pub returns-clause-between : goal.returns-clause-between
returns-clause-between c x p b =
    let a = c.coefficient.result in
    let k = c.constant.result in
    let fits : FitsSigned w128 a = search rules in
    let fits2 : FitsSigned w128 k = search rules in
    c.with_row.ensures.between x
    (simp to_z-of_z (row_parts c.args.form.now a k x c.requires c.coefficient.ensures c.constant.ensures p)) b
