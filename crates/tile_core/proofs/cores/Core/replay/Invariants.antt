use Rattle.scop_syntax.proofs.Common.{◌≡◌, ℕ, List, length, map, drop}
use Rattle.tile_events.specs.Core.{replay as replayed}
use Rattle.tile_core.specs.Boards.{IsRun}
use Rattle.tile_core.specs.Plans.{plan_of, shape_of}
use Rattle.tile_core.specs.Cores.{IsCore, plan_in, state_in, turn_of}
use Rattle.tile_core.proofs.cores.Core.replay.Given as goal

abbrev pub invariant-loop-turn : goal.invariant-loop-turn
invariant-loop-turn l = record {
  core : IsCore l.self;
  plan : plan_in l.self ≡ plan_in l.fn.self;
  wide : length (state_in l.self).workers ≡ length (state_in l.fn.self).workers;
  rest : replayed (shape_of (plan_in l.fn.self)) (state_in l.self) (map turn_of (drop l.turn-index l.turns))
      ≡ replayed (shape_of (plan_in l.fn.self)) (state_in l.fn.self) (map turn_of l.turns);
  run : (opening : List ℕ) → IsRun (plan_of (plan_in l.fn.self) opening) (state_in l.fn.self)
      → IsRun (plan_of (plan_in l.fn.self) opening) (state_in l.self);
}
