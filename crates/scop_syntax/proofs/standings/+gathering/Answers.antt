use Rattle.whole_numbers.proofs.Common.{rules, ◌+◌, ◌<◌, arith}
use Rattle.scop_syntax.specs.View.{items_of, tree_of}
use Rattle.scop_syntax.proofs.Weights.{weight, weight_all, item_weight}
use Rattle.scop_syntax.proofs.standings.+gathering.Goals as goal

pub gather_items-gather_item-requires : goal.gather_items-gather_item-requires
gather_items-gather_item-requires t c =
    let items = c.args.items.now in
    let heavy = item_weight items c.loop-item.item-index c.item-item.result c.item-item.is c.loop-item-test.true in
    let less : weight (tree_of c.item-item.result) < weight_all (items_of items) + 1 = omega arith in
    search rules
