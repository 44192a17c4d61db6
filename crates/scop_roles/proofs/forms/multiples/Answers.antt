use Rattle.scop_syntax.proofs.Common.{rules, ◌^◌, ◌≤◌, length, pos, get_or, arith, FitsSigned, w64, to_z-of_z}
use Rattle.scop_syntax.proofs.Common.{at_most_at, at_most_more}
use Rattle.scop_roles.proofs.Multiples.{multiples_next, multiples_all}
use Rattle.scop_roles.proofs.forms.multiples.Goals as goal

pub product-requires-clause-number : goal.product-requires-clause-number
product-requires-clause-number c =
    let fits : FitsSigned w64 (get_or c.args.numbers.now c.loop-number.number-index (pos 0)) = search rules in
    let wide = at_most_more 16 (2 ^ 20) c.args.numbers.now (omega arith) c.requires.numbers in
    simp to_z-of_z (at_most_at (2 ^ 20) c.args.numbers.now c.loop-number.number-index wide)

pub product-requires-clause-factor : goal.product-requires-clause-factor
product-requires-clause-factor c =
    let fits : FitsSigned w64 c.args.factor = search rules in
    simp to_z-of_z c.requires.factor

pub loop-number-preserved : goal.loop-number-preserved
loop-number-preserved c =
    let xs = c.args.numbers.now in
    let i = c.loop-number.number-index in
    let fits : FitsSigned w64 c.args.factor = search rules in
    let fits_here : FitsSigned w64 (get_or xs i (pos 0)) = search rules in
    let fits_made : FitsSigned w64 c.product.result = search rules in
    let so_far = simp to_z-of_z at c.loop-number.invariant in
    let made = simp to_z-of_z at c.product.ensures in
    let more = simp to_z-of_z at c.in-Ok.ensures.items in
    simp to_z-of_z (multiples_next c.args.factor c.product.result xs c.loop-number.products.items c.push.new.self.items
    i c.loop-number-test.true made more so_far)

pub returns : goal.returns
returns c =
    let fits : FitsSigned w64 c.args.factor = search rules in
    let so_far = simp to_z-of_z at c.loop-number.invariant in
    let past : length c.args.numbers.now ≤ c.loop-number.number-index = search rules in
    multiples_all c.args.factor c.args.numbers.now c.loop-number.products.items c.loop-number.number-index past so_far
