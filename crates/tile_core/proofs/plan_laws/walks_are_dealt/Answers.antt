use Rattle.scop_syntax.proofs.Common.{[]}
use Rattle.tile_core.proofs.HeldTiles.{tile_held}
use Rattle.tile_core.proofs.Plans.{NumberLaws, PlanLaws, copied_is, copies_are, count_is, dealt_is, good_is, plain_is}
use Rattle.tile_core.proofs.Plans.{scan_is}
use Rattle.tile_core.proofs.plan_laws.walks_are_dealt.Goals as goal

pub returns : goal.returns
returns c =
    let numbers : NumberLaws = record {
      below = c.cells_have_numbers_of_their_own.ensures.below;
      apart = c.cells_have_numbers_of_their_own.ensures.apart;
    } in
    let laws : PlanLaws = record {
      tiles = record {
        next = c.tiles_stand_one_behind_another.ensures.next;
        last = c.tiles_stand_one_behind_another.ensures.last;
        at = c.tiles_stand_one_behind_another.ensures.at;
        less = c.numbers_tell_waves.ensures.less;
        rise = c.numbers_tell_waves.ensures.rise;
      };
      once = c.walks_are_in_order.ensures.once;
      numbers = numbers;
      copied_dealt = c.copies_keep_what_is_read.ensures.dealt;
      copied_good = c.copies_keep_what_is_read.ensures.good;
      deals = c.scans_are_dealt.ensures;
      touches = c.plans_execute_the_walk.ensures.conflicts;
    } in
    record {
      scan = λ plan is. scan_is laws plan is;
      count = λ plan is. count_is laws plan is;
      held = λ plan is j v at. tile_held laws plan is j v at;
      good = λ plan cells is. good_is laws plan is cells;
      dealt = λ plan cells is. dealt_is laws plan is cells;
      plain = plain_is;
      copied = copied_is;
      sources = λ plan j is some less. copies_are numbers plan is [] some j less;
    }
