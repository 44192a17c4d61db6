use Rattle.scop_syntax.proofs.Common.{◌≡◌, ◌+◌, drop, length, map, take}
use Rattle.tile_table.specs.Codes.{AreSteps, worked}
use Rattle.tile_table.proofs.code.Code.run.Given as goal

-- what is left goes on from the slots so far to those of all steps, in place behind the reads
abbrev pub invariant-loop-at : goal.invariant-loop-at
invariant-loop-at l = record {
  long : length l.slots ≡ length l.fn.slots;
  reads : take l.self.reads l.slots ≡ take l.self.reads l.fn.slots;
  left : AreSteps (length l.self.leaves.items) (l.self.reads + l.at) (drop l.at l.self.steps.items);
  whole : worked (map (λ l. l.at) l.leaves) (drop l.at l.self.steps.items) (take (l.self.reads + l.at) l.slots)
      ≡ worked (map (λ l. l.at) l.leaves) l.self.steps.items (take l.self.reads l.fn.slots);
}
