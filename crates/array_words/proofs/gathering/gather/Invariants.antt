use Rattle.scop_syntax.proofs.Common.{◌≡◌, ◌+◌, All, length}
use Rattle.tile_events.specs.Sound.{total}
use Rattle.tile_core.specs.declared.words.Pass.{Pass}
use Rattle.array_words.specs.Closing.{IsGathered, IsResting, one_if_ended, stage_in}
use Rattle.tile_core.specs.Passes.{IsPass}
use Rattle.array_words.proofs.gathering.gather.Given as goal

abbrev pub invariant-loop-pass : goal.invariant-loop-pass
invariant-loop-pass l = record {
  seat : IsGathered l.words l.seat.me.0.parts l.ended l.seat;
  passes : All (IsPass l.words) l.passes.items;
  rest : All IsResting l.passes.items;
  count : l.seat.me.0.parts + length l.passes.items ≡ length l.fn.passes.items;
  sum : l.ended + total (λ (p : Pass). one_if_ended (stage_in p)) l.passes.items ≡ total
      (λ (p : Pass). one_if_ended (stage_in p)) l.fn.passes.items;
}

abbrev pub decreases-loop-pass : goal.decreases-loop-pass
decreases-loop-pass l = goal.left-loop-pass l
