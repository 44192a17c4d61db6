use Rattle.scop_syntax.proofs.Common.{◌≡◌, ℤ, List, take, Instance}
use Rattle.tile_core.specs.Plans.{places_in, plain_shape}
use Rattle.tile_core.specs.Ranks.{place_in}
use Rattle.tile_core.specs.declared.plan.Plan.{Plan}
use Rattle.tile_core.specs.steps.Acts.{values_at}
use Rattle.tile_core.specs.steps.Desks.{IsDeskAt, StaysLaid}
use Rattle.tile_core.proofs.stretching.read_all.Given as goal

abbrev pub invariant-loop-read : goal.invariant-loop-read
invariant-loop-read l = record {
  reads : (plan : Plan) (steps : List ℤ) (x : Instance) → IsDeskAt plan l.row steps x l.fn.desk
      → take l.read l.desk.slots.items
      ≡ values_at l.cells (take l.read ((plain_shape plan).read (place_in (places_in plan) x)));
  stays : StaysLaid l.row l.fn.desk l.desk;
}
