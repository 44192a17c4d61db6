use Rattle.scop_syntax.proofs.Common.{length, instance, walk_of, in_from_place}
use Rattle.iteration_domains.specs.Model.{model_of}
use Rattle.schedule_rows.specs.Schedule.{loops_in}
use Rattle.schedule_rows.proofs.CoverPlans.{conflict_along}
use Rattle.tile_skew.proofs.WalkedInstances.{WalkFacts, number_within, turns_rise}
use Rattle.tile_skew.proofs.laws.tiled_schedules_are_good_plans.Goals as goal

pub returns : goal.returns
returns c program marked deps blocks params size count positive sized holds schedule i j p free =
    let model = model_of program in
    let walk = walk_of program params in
    let numbered = c.statements_are_numbered.ensures.number program in
    let facts : WalkFacts program params = record {
      found = c.instances_are_those_of_statements.ensures.found program params;
      turns = c.instances_are_those_of_statements.ensures.turns;
      loops = c.statements_are_numbered.ensures.loops program;
      same = c.statements_are_numbered.ensures.same program;
      order = c.walks_are_in_order.ensures.order program params;
    } in
    let rises = turns_rise program params i j p.earlier p.later facts p.is_earlier p.is_later p.order in
    c.pairs_along_blocks_are_in_order.ensures size (length model.statements) blocks i j (instance p.earlier)
    (instance p.later) positive
    (number_within program params p.earlier facts.found numbered (in_from_place walk i p.earlier p.is_earlier))
    (number_within program params p.later facts.found numbered (in_from_place walk j p.later p.is_later))
    (λ same. (rises same).0) (λ same. (rises same).1)
    (conflict_along program params marked model.parameters (loops_in model) deps blocks
    (c.conflicts_are_chains_of_covers.ensures.closure walk) count sized schedule holds i j p free)
