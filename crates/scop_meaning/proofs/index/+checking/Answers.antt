use Rattle.scop_syntax.proofs.Common.{◌≡◌, ◌+◌, ◌<◌, List, length, drop, ap, ap₂, subst, sym, ◌∙◌, arith, rules, to_z}
use Rattle.scop_syntax.proofs.Common.{of_z, ℤ, pos, FitsSigned, w64, to_z-of_z, Affine, value_of, Trees, Head, more}
use Rattle.scop_syntax.proofs.Common.{none, items_of, tree_of, turn_point, weight, weight_all, item_weight, item_here}
use Rattle.scop_meaning.specs.Conditions.{CanTurn}
use Rattle.scop_meaning.specs.steps.Conditions.{CanCheck}
use Rattle.scop_syntax.specs.declared.limits.TheConstants.{MOST_ENTRIES}
use Rattle.scop_meaning.proofs.WalkSteps.{can_turn, first_turn_fits}
use Rattle.scop_meaning.proofs.Turns.{first_fits}
use Rattle.scop_meaning.proofs.Checks.{
  ItemsChecked,
  check_first,
  check_turn,
  item_found,
  item_passes,
  turns_first,
  turn_found,
  turn_passes,
}
use Rattle.scop_meaning.proofs.index.+checking.Goals as goal

pub outside_items-outside_item-requires : goal.outside_items-outside_item-requires
outside_items-outside_item-requires t c =
    let l = c.loop-item in
    let items = c.args.items.now in
    let tree = tree_of c.item-item.result in
    let h : l.item-index < length items = c.loop-item-test.true in
    let here = item_here items l.item-index c.item-item.result c.item-item.is h in
    let whole = subst (λ (ts : Trees). CanCheck MOST_ENTRIES c.args.extents.now ts l.number l.point.items) here
    l.invariant.can in
    let can : CanCheck MOST_ENTRIES c.args.extents.now (more tree none) l.number l.point.items =
    check_first MOST_ENTRIES c.args.extents.now tree (items_of (drop (l.item-index + 1) items)) l.number l.point.items
    whole in
    let heavy = item_weight items l.item-index c.item-item.result c.item-item.is h in
    let less : weight tree < weight_all (items_of items) + 1 = omega arith in
    search rules

pub outside_items-returns-in-Some-clause-found : goal.outside_items-returns-in-Some-clause-found
outside_items-returns-in-Some-clause-found t c =
    let l = c.loop-item in
    let items = c.args.items.now in
    let here = item_here items l.item-index c.item-item.result c.item-item.is c.loop-item-test.true in
    item_found MOST_ENTRIES c.args.extents.now items l.item-index c.args.number l.number c.args.point.now.items
    l.point.items (tree_of c.item-item.result) c.in-Some.outside l.invariant here c.in-Some.ensures.found

pub outside_items-loop-item-preserved : goal.outside_items-loop-item-preserved
outside_items-loop-item-preserved t c =
    let l = c.loop-item in
    let items = c.args.items.now in
    let here = item_here items l.item-index c.item-item.result c.item-item.is c.loop-item-test.true in
    subst (λ n. ItemsChecked MOST_ENTRIES c.args.extents.now items (l.item-index + 1) c.args.number (l.number + n)
    c.args.point.now.items c.outside_item.new.point.items)
    (sym c.count_in-number.ensures)
    (item_passes MOST_ENTRIES c.args.extents.now items l.item-index c.args.number l.number c.args.point.now.items
    l.point.items c.outside_item.new.point.items (tree_of c.item-item.result) l.invariant here
    c.in-None.ensures.found c.outside_item.ensures.point)

pub outside_loop-exact_at-first-requires : goal.outside_loop-exact_at-first-requires
outside_loop-exact_at-first-requires t c =
    let head = c.args.head.now in
    let point = c.args.point.now.items in
    let fits = first_fits head point
    (first_turn_fits MOST_ENTRIES _ head (items_of c.args.body.now) point c.requires.walks).iterator in
    subst (λ (f : Affine). FitsSigned w64 (value_of f c.as_slice.result.now))
    (sym (ap (λ (h : Head). h.first) c.head.view_is))
    (subst (λ (x : List ℤ). FitsSigned w64 (value_of head.first x)) (sym c.as_slice.ensures.value) fits)

pub outside_loop-loop-turn-init : goal.outside_loop-loop-turn-init
outside_loop-loop-turn-init t c =
    turns_first MOST_ENTRIES c.args.extents.now c.args.head.now (items_of c.args.body.now) c.turns_of-turns.result
    c.args.number c.args.point.now.items
    c.turns_of-turns.new.point.items c.requires c.turns_of-turns.ensures.turns c.turns_of-turns.ensures.point

pub outside_loop-outside_turn-requires : goal.outside_loop-outside_turn-requires
outside_loop-outside_turn-requires t c =
    let l = c.loop-turn in
    let head = c.args.head.now in
    let body = items_of c.args.body.now in
    let start = c.args.point.now.items in
    let m = c.turns_of-turns.result in
    let first = c.exact_at-first.result in
    let fit : FitsSigned w64 first = search rules in
    let is : first ≡ value_of head.first start =
    c.exact_at-first.ensures
    ∙ ap₂ (λ (f : Affine) (x : List ℤ). value_of f x) (ap (λ (h : Head). h.first) c.head.view_is)
    c.as_slice.ensures.value in
    let there : CanTurn MOST_ENTRIES head first l.turn start =
    can_turn MOST_ENTRIES _ head body start m l.turn first c.requires.walks c.turns_of-turns.ensures.turns
    c.turns_of-turns.ensures.few c.loop-turn-test.true is in
    let turn : CanTurn MOST_ENTRIES head (to_z w64 (of_z w64 first)) l.turn l.point.items =
    subst (λ (z : ℤ). CanTurn MOST_ENTRIES head z l.turn l.point.items) (sym (to_z-of_z w64 first fit))
    (subst (λ (x : List ℤ). CanTurn MOST_ENTRIES head first l.turn x) (sym l.invariant.same) there) in
    let can : CanCheck MOST_ENTRIES c.args.extents.now body c.args.number (turn_point head l.point.items (pos l.turn)) =
    check_turn MOST_ENTRIES c.args.extents.now head body m l.turn c.args.number start l.point.items c.requires
    c.turns_of-turns.ensures.turns
    c.loop-turn-test.true l.invariant.same in
    search rules

pub outside_loop-returns-in-Some-clause-found : goal.outside_loop-returns-in-Some-clause-found
outside_loop-returns-in-Some-clause-found t c =
    let l = c.loop-turn in
    turn_found c.args.extents.now c.args.head.now (items_of c.args.body.now) c.turns_of-turns.result l.turn
    c.args.number c.args.point.now.items
    l.point.items c.in-Some.outside c.loop-turn-test.true l.invariant c.in-Some.ensures.found

pub outside_loop-loop-turn-preserved : goal.outside_loop-loop-turn-preserved
outside_loop-loop-turn-preserved t c =
    let l = c.loop-turn in
    turn_passes c.args.extents.now c.args.head.now (items_of c.args.body.now) c.turns_of-turns.result l.turn
    c.args.number c.args.point.now.items
    l.point.items c.outside_turn.new.point.items c.loop-turn-test.true l.invariant c.in-None.ensures.found
    c.outside_turn.ensures.point
