use Rattle.scop_syntax.proofs.Common.{subst, suc, length-map, instance, walk_of}
use Rattle.scop_syntax.proofs.Conflicts.{last_conflicts}
use Rattle.iteration_domains.specs.Model.{Modelled, model_of}
use Rattle.loop_tree.specs.Tiling.{IsInOrder}
use Rattle.schedule_rows.specs.Schedule.{loops_in}
use Rattle.tile_skew.specs.Tilings.{schedule_tiling}
use Rattle.tile_skew.proofs.WalkedInstances.{WalkFacts, turns_rise}
use Rattle.tile_skew.proofs.laws.tiled_flows_are_flow_plans.Goals as goal

pub returns : goal.returns
returns c program deps blocks params size count positive sized holds schedule i j r x y at there last =
    let model = model_of program in
    let facts : WalkFacts program params = record {
      found = c.instances_are_those_of_statements.ensures.found program params;
      turns = c.instances_are_those_of_statements.ensures.turns;
      loops = c.statements_are_numbered.ensures.loops program;
      same = c.statements_are_numbered.ensures.same program;
      order = c.walks_are_in_order.ensures.order program params;
    } in
    let pair = holds i j x y r at there last in
    let earlier = (last_conflicts (walk_of program params) j (suc r) i last).order in
    subst (λ n. IsInOrder (schedule_tiling size n blocks) i (instance x) j (instance y))
    (length-map model.statements (λ (m : Modelled). m.domain.dimensions))
    (c.tiled_dependences_are_in_order.ensures model.parameters (loops_in model) deps blocks size i j positive sized
    schedule pair.0 params (instance x) (instance y) pair.1 count pair.2
    (λ same. (turns_rise program params i j x y facts at there earlier same).1))
