use Rattle.scop_syntax.proofs.Common.{◌≡◌, ◌∙◌, ◌+◌, List, ℕ, [], suc, ap, add-one, arith, drop, get_or, rules, set}
use Rattle.scop_syntax.proofs.Common.{subst, sym, length-map, slice_get_within, written, cell_number, instance_of}
use Rattle.scop_syntax.proofs.Common.{instance, in_from_place}
use Rattle.loop_tree.specs.SpotView.{to_come}
use Rattle.loop_tree.specs.View.{trees_in}
use Rattle.tile_table.proofs.NextPlaces.{next_left, none_left}
use Rattle.tile_core.specs.Plans.{extents_in, places_in, program_in, walk_in}
use Rattle.tile_runs.proofs.SettledCells.{IsSettled, all_settled, cell_within, none_settled, one_settled, visit_there}
use Rattle.tile_runs.proofs.copies.settle.Goals as goal

pub loop-instance-init : goal.loop-instance-init
loop-instance-init c = record {
  spot = c.requires.spot;
  left = c.requires.rest;
  within = omega arith;
  settled = none_settled (extents_in c.args.plan.now) (walk_in c.args.plan.now) c.args.row.now.items;
}

pub own_cell-requires-clause-walked : goal.own_cell-requires-clause-walked
own_cell-requires-clause-walked c =
    let plan = c.args.plan.now in
    let x = instance_of c.in-Some.instance in
    let rest = to_come (trees_in c.args.source.now) plan.params.now c.next.new.self in
    let place = c.loop-instance.place in
    let next = next_left (places_in plan) place x rest (sym c.in-Some.ensures.rest ∙ c.loop-instance.invariant.left) in
    in_from_place (places_in plan) place x next.0

pub put-requires-clause-cell : goal.put-requires-clause-cell
put-requires-clause-cell c =
    let plan = c.args.plan.now in
    let x = instance_of c.in-Some.instance in
    let rest = to_come (trees_in c.args.source.now) plan.params.now c.next.new.self in
    let place = c.loop-instance.place in
    let next = next_left (places_in plan) place x rest (sym c.in-Some.ensures.rest ∙ c.loop-instance.invariant.left) in
    let is = visit_there plan (c.walks_are_in_order.ensures.once (program_in plan) plan.params.now) place x next.0 in
    let below = cell_within c.cells_have_numbers_of_their_own.ensures.below plan place x c.requires.plan.inside is in
    let at : c.own_cell.result ≡ cell_number (extents_in plan) (written is.visit) = c.own_cell.ensures ∙ is.cell in
    let long = c.loop-instance.invariant.settled.long in
    let room = c.requires.room in
    let cells = c.requires.cells in
    omega (arith, below, at, long, room, cells)

pub put-requires-clause-from : goal.put-requires-clause-from
put-requires-clause-from c =
    let plan = c.args.plan.now in
    let x = instance_of c.in-Some.instance in
    let rest = to_come (trees_in c.args.source.now) plan.params.now c.next.new.self in
    let place = c.loop-instance.place in
    let next = next_left (places_in plan) place x rest (sym c.in-Some.ensures.rest ∙ c.loop-instance.invariant.left) in
    let less = slice_get_within (places_in plan) place x next.0 in
    let same = length-map (walk_in plan) instance in
    let long = c.loop-instance.invariant.settled.long in
    let room = c.requires.room in
    omega (arith, less, same, long, room)

pub loop-instance-preserved : goal.loop-instance-preserved
loop-instance-preserved c =
    let plan = c.args.plan.now in
    let es = extents_in plan in
    let old = c.args.row.now.items in
    let row = c.loop-instance.row.items in
    let x = instance_of c.in-Some.instance in
    let rest = to_come (trees_in c.args.source.now) plan.params.now c.next.new.self in
    let place = c.loop-instance.place in
    let cell = c.own_cell.result in
    let next = next_left (places_in plan) place x rest (sym c.in-Some.ensures.rest ∙ c.loop-instance.invariant.left) in
    let less = slice_get_within (places_in plan) place x next.0 in
    let same = length-map (walk_in plan) instance in
    let is = visit_there plan (c.walks_are_in_order.ensures.once (program_in plan) plan.params.now) place x next.0 in
    let new = c.put.ensures ∙ ap (λ (k : ℕ). set row cell (get_or row (k + place) 0)) c.requires.cells in
    let one = one_settled c.cells_have_numbers_of_their_own.ensures.below es (walk_in plan) old row place cell is.visit
    c.requires.plan.inside is.at (c.own_cell.ensures ∙ is.cell) c.loop-instance.invariant.settled in
    record {
      spot = c.in-Some.ensures.spot;
      left = next.1 ∙ ap (λ (k : ℕ). drop k (places_in plan)) (sym (add-one place));
      within = omega (arith, less, same);
      settled = subst (λ (k : ℕ). IsSettled es (walk_in plan) old k c.put.new.row.items) (sym (add-one place))
          (subst (λ (xs : List ℕ). IsSettled es (walk_in plan) old (suc place) xs) (sym new) one);
    }

pub returns : goal.returns
returns c = λ contents shape has.
    let plan = c.args.plan.now in
    let place = c.loop-instance.place in
    let none : to_come (trees_in c.args.source.now) plan.params.now c.loop-instance.spot ≡ [] = search rules in
    let end = none_left (places_in plan) place (sym none ∙ c.loop-instance.invariant.left) in
    let same = length-map (walk_in plan) instance in
    all_settled (extents_in plan) (walk_in plan) c.args.row.now.items c.loop-instance.row.items place contents
    (omega (arith, end, same)) c.loop-instance.invariant.settled shape has.kept has.copies
