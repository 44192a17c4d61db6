use Rattle.scop_syntax.proofs.Common.{rules, ◌^◌, ◌≤◌, length, pos, get_or, FitsSigned, w64, to_z-of_z, at_most_at}
use Rattle.scop_roles.proofs.Multiples.{sums_next, sums_all}
use Rattle.scop_roles.proofs.forms.sums.Goals as goal

pub plus-requires-clause-number : goal.plus-requires-clause-number
plus-requires-clause-number c =
    let fits : FitsSigned w64 (get_or c.args.numbers.now c.loop-at.at (pos 0)) = search rules in
    simp to_z-of_z (at_most_at (2 ^ 40) c.args.numbers.now c.loop-at.at c.requires.numbers)

pub plus-requires-clause-other : goal.plus-requires-clause-other
plus-requires-clause-other c =
    let fits : FitsSigned w64 (get_or c.args.others.now c.loop-at.at (pos 0)) = search rules in
    simp to_z-of_z (at_most_at (2 ^ 40) c.args.others.now c.loop-at.at c.requires.others)

pub loop-at-preserved : goal.loop-at-preserved
loop-at-preserved c =
    let xs = c.args.numbers.now in
    let ys = c.args.others.now in
    let i = c.loop-at.at in
    let fits_x : FitsSigned w64 (get_or xs i (pos 0)) = search rules in
    let fits_y : FitsSigned w64 (get_or ys i (pos 0)) = search rules in
    let fits_made : FitsSigned w64 c.plus.result = search rules in
    let made = simp to_z-of_z at c.plus.ensures in
    let more = simp to_z-of_z at c.in-Ok.ensures.items in
    sums_next c.plus.result xs ys c.loop-at.totals.items c.push.new.self.items i c.loop-at-test.true
    c.requires.lengths made more c.loop-at.invariant

pub returns : goal.returns
returns c =
    let past : length c.args.numbers.now ≤ c.loop-at.at = search rules in
    sums_all c.args.numbers.now c.args.others.now c.loop-at.totals.items c.loop-at.at past c.requires.lengths
    c.loop-at.invariant
