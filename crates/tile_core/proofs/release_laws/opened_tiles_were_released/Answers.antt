use Rattle.tile_core.proofs.Waiting.{WaitLaws, conflicts_done, gate_filled, later, releases_tell, sources_done}
use Rattle.tile_core.proofs.release_laws.opened_tiles_were_released.Goals as goal
use Rattle.tile_core.proofs.release_laws.opened_tiles_were_released.Goals.{After-opened_tiles_have_waited}

laws : After-opened_tiles_have_waited → WaitLaws
laws c = record {
  gate = record {
    numbers = record {
      below = c.cells_have_numbers_of_their_own.ensures.below;
      apart = c.cells_have_numbers_of_their_own.ensures.apart;
    };
    held = c.walks_are_dealt.ensures.held;
    dealt = c.walks_are_dealt.ensures.dealt;
    good = c.walks_are_dealt.ensures.good;
    covers = c.covers_are_those_of_the_walk.ensures;
    covered = c.covers_join_what_touches.ensures.covered;
    deals = c.pairs_make_plans.ensures.dealt;
    orders = c.pairs_make_plans.ensures.good;
  };
  rises = c.covers_join_what_touches.ensures.rise;
  tells = c.opened_tiles_have_waited.ensures.released;
  ends = c.opened_tiles_have_waited.ensures.conflicts;
  fills = c.opened_tiles_have_waited.ensures.filled;
}

pub returns-clause-released : goal.returns-clause-released
returns-clause-released c plan e cells s is some sound =
    releases_tell (laws (goal.at.returns-clause-released c).After-opened_tiles_have_waited) plan e is some cells s sound

pub returns-clause-conflicts : goal.returns-clause-conflicts
returns-clause-conflicts c plan e cells s i j is unexpanded some sound conflict begun =
    conflicts_done (laws (goal.at.returns-clause-conflicts c).After-opened_tiles_have_waited) plan e is some cells s sound
    i j unexpanded conflict begun

pub returns-clause-sources : goal.returns-clause-sources
returns-clause-sources c plan e cells s i j r is expanded some sound last begun =
    sources_done (laws (goal.at.returns-clause-sources c).After-opened_tiles_have_waited) plan e is some cells s sound
    i j r expanded last begun

pub returns-clause-rise : goal.returns-clause-rise
returns-clause-rise c plan e t u is some leads =
    later (laws (goal.at.returns-clause-rise c).After-opened_tiles_have_waited) plan e is some t u leads

pub returns-clause-filled : goal.returns-clause-filled
returns-clause-filled c plan e cells s u is some sound less finished =
    gate_filled (laws (goal.at.returns-clause-filled c).After-opened_tiles_have_waited) plan e is some cells s sound u
    less finished
