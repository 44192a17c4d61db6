use Rattle.scop_syntax.proofs.Common.{◌+◌, ◌<◌, ◌≤◌, length, ap, arith, rules, items_of, tree_of, statements_in}
use Rattle.scop_syntax.proofs.Common.{statements_in_all, weight, weight_all, item_weight, item_here}
use Rattle.scop_meaning.proofs.index.+counting.Goals as goal

pub count_all-count_in-count-requires : goal.count_all-count_in-count-requires
count_all-count_in-count-requires t c =
    let l = c.loop-item in
    let items = c.args.items.now in
    let h : l.item-index < length items = c.loop-item-test.true in
    let here = ap statements_in_all (item_here items l.item-index c.item-item.result c.item-item.is h) in
    let heavy = item_weight items l.item-index c.item-item.result c.item-item.is h in
    let so_far = l.invariant in
    let few = c.requires in
    let less : weight (tree_of c.item-item.result) < weight_all (items_of items) + 1 = omega arith in
    let within : statements_in (tree_of c.item-item.result) ≤ 32 = omega arith in
    search rules
