use Rattle.scop_syntax.proofs.Common.{rules}
use Rattle.wide_math.proofs.Narrow.{product_fits}
use Rattle.c_printer.proofs.Multiples.{sum_fits}
use Rattle.c_printer.proofs.forms.with_multiple.Goals as goal

pub overflow_add-result : goal.overflow_add-result
overflow_add-result c =
    let r = c.ranges in
    let product = product_fits c.args.factor c.args.other r.factor r.other in
    let all = sum_fits c.args.number c.args.factor c.args.other r.number r.factor r.other in
    search rules

pub returns : goal.returns
returns c =
    let r = c.ranges in
    let product = product_fits c.args.factor c.args.other r.factor r.other in
    let all = sum_fits c.args.number c.args.factor c.args.other r.number r.factor r.other in
    search rules
