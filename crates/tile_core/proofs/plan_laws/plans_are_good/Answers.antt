use Rattle.tile_core.proofs.GatedPlans.{GateLaws, gated_dealt, gated_good}
use Rattle.tile_core.proofs.plan_laws.plans_are_good.Goals as goal

pub returns : goal.returns
returns c =
    let laws : GateLaws = record {
      numbers = record {
        below = c.cells_have_numbers_of_their_own.ensures.below;
        apart = c.cells_have_numbers_of_their_own.ensures.apart;
      };
      held = c.walks_are_dealt.ensures.held;
      dealt = c.walks_are_dealt.ensures.dealt;
      good = c.walks_are_dealt.ensures.good;
      covers = c.covers_are_those_of_the_walk.ensures;
      covered = c.covers_join_what_touches.ensures.covered;
      deals = c.pairs_make_plans.ensures.dealt;
      orders = c.pairs_make_plans.ensures.good;
    } in
    record {
      scan = c.walks_are_dealt.ensures.scan;
      count = c.walks_are_dealt.ensures.count;
      good = λ plan cells is. gated_good laws plan is cells;
      dealt = λ plan cells is. gated_dealt laws plan is cells;
    }
