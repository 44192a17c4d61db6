use Rattle.scop_syntax.proofs.Common.{rules, ◌≡◌, take}
use Rattle.plain_scan.proofs.WeakerRows.{greater_above}
use Rattle.plain_scan.proofs.widest.above.Goals as goal

pub returns-then-has_small_numbers : goal.returns-then-has_small_numbers
returns-then-has_small_numbers c =
    let row = c.args.row.now in
    let other = c.args.other.now in
    let m = c.args.dimensions in
    let front : take m row.coefficients ≡ take m other.coefficients = search rules in
    greater_above m row other c.in_ok-form.form c.requires.sized front c.in_ok-form.ensures
    (c.has_small_numbers.ensures c.if-has_small_numbers.true)
