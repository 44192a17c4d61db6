use Rattle.scop_syntax.proofs.Common.{◌≡◌, ◌∙◌, [], suc, ap, arith, drop, rules, sym, slice_get_within, has_parameters}
use Rattle.scop_syntax.proofs.Common.{instance_of, program_of}
use Rattle.loop_tree.specs.Plans.{walked}
use Rattle.loop_tree.specs.SpotView.{to_come}
use Rattle.loop_tree.specs.View.{trees_in}
use Rattle.tile_table.proofs.NextPlaces.{next_left}
use Rattle.expansions.proofs.ListedEntries.{none_listed}
use Rattle.expansions.proofs.placing.lists_of.Goals as goal

pub of_source-requires : goal.of_source-requires
of_source-requires c = c.requires.limits.kernel

pub next-requires-clause-walk : goal.next-requires-clause-walk
next-requires-clause-walk c = c.in_ok-source.ensures.walk c.args.params.now (has_parameters c.requires.limits)

pub loop-instance-init : goal.loop-instance-init
loop-instance-init c =
    let walk = walked (program_of c.args.kernel.now) c.args.params.now in
    let none : c.new-lists.result.items ≡ [] = search rules in
    record {
      spot = c.in_ok-spot.ensures.spot c.args.params.now;
      left = c.in_ok-spot.ensures.rest c.args.params.now
          ∙ c.in_ok-source.ensures.visits c.args.params.now c.requires.limits.count;
      within = omega arith;
      lists = none_listed walk c.new-lists.result.items none;
    }

pub list-requires : goal.list-requires
list-requires c =
    let walk = walked (program_of c.args.kernel.now) c.args.params.now in
    let x = instance_of c.in-Some.instance in
    let rest = to_come (trees_in c.in_ok-source.source) c.args.params.now c.next.new.self in
    let place = c.loop-instance.place in
    let next = next_left walk place x rest (sym c.in-Some.ensures.rest ∙ c.loop-instance.invariant.left) in
    let less = slice_get_within walk place x next.0 in
    let few = c.requires.few in
    omega (arith, less, few)

pub loop-instance-preserved : goal.loop-instance-preserved
loop-instance-preserved c =
    let walk = walked (program_of c.args.kernel.now) c.args.params.now in
    let x = instance_of c.in-Some.instance in
    let rest = to_come (trees_in c.in_ok-source.source) c.args.params.now c.next.new.self in
    let place = c.loop-instance.place in
    let next = next_left walk place x rest (sym c.in-Some.ensures.rest ∙ c.loop-instance.invariant.left) in
    let less = slice_get_within walk place x next.0 in
    let on : c.in_ok-place.place ≡ suc place = c.in_ok-place.ensures.next in
    record {
      spot = c.in-Some.ensures.spot;
      left = next.1 ∙ ap (λ k. drop k walk) (sym on);
      within = omega (arith, less, on);
      lists = c.in_ok-place.ensures.listed walk next.0 c.loop-instance.invariant.lists;
    }
