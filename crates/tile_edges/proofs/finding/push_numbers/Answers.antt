use Rattle.scop_syntax.proofs.Common.{rules, pos, get_or, get_or_default, FitsSigned, w128, to_z-of_z, map_end, map_more}
use Rattle.tile_edges.proofs.finding.push_numbers.Goals as goal

pub loop-number-preserved : goal.loop-number-preserved
loop-number-preserved c =
    let numbers = c.args.numbers.now in
    let i = c.loop-number.number-index in
    let number = get_or numbers i 0 in
    let inside = c.loop-number-test.true in
    let fits : FitsSigned w128 c.whole.result = search rules in
    let pushed = simp to_z-of_z at c.in_ok-push.ensures.items in
    map_more pos numbers i number c.whole.result c.loop-number.list.items c.push.new.self.items _ inside
    (get_or_default numbers i 0 number inside) c.whole.ensures pushed c.loop-number.invariant

pub returns : goal.returns
returns c =
    map_end pos c.args.numbers.now c.loop-number.number-index c.loop-number.list.items _ c.loop-number-test.false
    c.loop-number.invariant
