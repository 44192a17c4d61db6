use Rattle.scop_syntax.proofs.Common.{rules, arith, FitsSigned, w64, ints, to_z-of_z}
use Rattle.tile_list.proofs.TellingKeys.{in_interval, within}
use Rattle.tile_list.proofs.keys.is_within.Goals as goal

pub returns-then-value-least-clause-outside : goal.returns-then-value-least-clause-outside
returns-then-value-least-clause-outside c false is =
    let fits : FitsSigned w64 c.args.coordinate = search rules in
    let least = simp to_z-of_z at c.least_with-least.ensures.is in
    let low = (in_interval c.args.value c.args.coordinate c.args.size c.requires is).0 in
    let under = c.if-value-least.true in
    grind (arith, ints, least, low, under)

pub returns-then-least-size-clause-outside : goal.returns-then-least-size-clause-outside
returns-then-least-size-clause-outside c false is =
    let fits : FitsSigned w64 c.args.coordinate = search rules in
    let least = simp to_z-of_z at c.least_with-least.ensures.is in
    let high = (in_interval c.args.value c.args.coordinate c.args.size c.requires is).1 in
    let over = c.if-least-size.true in
    grind (arith, ints, least, high, over)

pub returns-clause-within : goal.returns-clause-within
returns-clause-within c true =
    let fits : FitsSigned w64 c.args.coordinate = search rules in
    let least = simp to_z-of_z at c.least_with-least.ensures.is in
    let low = c.if-value-least.false in
    let high = c.if-least-size.false in
    within c.args.value c.args.coordinate c.args.size c.requires (grind (arith, ints, least, low))
    (grind (arith, ints, least, high))
