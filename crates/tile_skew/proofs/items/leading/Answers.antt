use Rattle.scop_syntax.proofs.Common.{◌≡◌, ◌∙◌, ◌++◌, ◌∷◌, [], ap, sym, subst, map, drop_of_length-le, get_or_default}
use Rattle.stmt_graph.specs.Graph.{number_in}
use Rattle.schedule_rows.specs.Schedule.{item_of, scalar}
use Rattle.tile_skew.specs.steps.Listed.{leading_in, HasStatement}
use Rattle.tile_skew.proofs.ItemSteps.{leading_step, leading_stop, nothing_left}
use Rattle.tile_skew.proofs.items.leading.Goals as goal

pub loop-item-preserved : goal.loop-item-preserved
loop-item-preserved c =
    let numbers = c.in-Scalar.numbers.items in
    let has : HasStatement c.args.k (scalar numbers) =
    subst (HasStatement c.args.k) (ap item_of (sym c.item-item.is ∙ c.in-Scalar.is))
    (c.requires c.loop-item.item-index c.item-item.result c.loop-item-test.true) in
    let here : c.index.result.now ≡ number_in numbers c.args.k =
    c.index.ensures ∙ get_or_default numbers c.args.k c.index.result.now 0 has in
    leading_step item_of c.args.items.now c.loop-item.item-index c.args.k c.item-item.result numbers
    c.loop-item.found.items c.push.new.self.items _ c.loop-item-test.true c.item-item.is (ap item_of c.in-Scalar.is)
    (c.in_ok-push-in-Scalar.ensures.items ∙ ap (λ n. c.loop-item.found.items ++ n ∷ []) here) c.loop-item.invariant

pub returns-in-Row : goal.returns-in-Row
returns-in-Row c =
    leading_stop item_of c.args.items.now c.loop-item.item-index c.args.k c.item-item.result _ c.loop-item.found.items _
    c.loop-item-test.true c.item-item.is (ap item_of c.in-Row.is) c.loop-item.invariant

pub returns : goal.returns
returns c =
    nothing_left c.loop-item.found.items _ _
    (ap (λ is. leading_in (map item_of is) c.args.k) (drop_of_length-le c.args.items.now c.loop-item-test.false))
    c.loop-item.invariant
