use Rattle.whole_numbers.proofs.Common.{rules}
use Rattle.wide_math.proofs.Narrow.{cross_fits, product_fits}
use Rattle.wide_math.proofs.sums.narrow_cross.Goals as goal

pub overflow_sub-result : goal.overflow_sub-result
overflow_sub-result c =
    let a = c.args.a in
    let b = c.args.b in
    let e = c.args.c in
    let d = c.args.d in
    let left = product_fits a b c.ranges.a c.ranges.b in
    let right = product_fits e d c.ranges.c c.ranges.d in
    let all = cross_fits a b e d c.ranges.a c.ranges.b c.ranges.c c.ranges.d in
    search rules

pub returns : goal.returns
returns c =
    let a = c.args.a in
    let b = c.args.b in
    let e = c.args.c in
    let d = c.args.d in
    let left = product_fits a b c.ranges.a c.ranges.b in
    let right = product_fits e d c.ranges.c c.ranges.d in
    let all = cross_fits a b e d c.ranges.a c.ranges.b c.ranges.c c.ranges.d in
    search rules
