use Rattle.whole_numbers.proofs.Common.{◌≡◌, ◌+◌}
use Rattle.fm_projection.specs.Projecting.{all_gone}
use Rattle.fm_projection.specs.Alone.{AllPass}
use Rattle.fm_projection.proofs.alone.all_gone.Given as goal

abbrev pub invariant-loop-time : goal.invariant-loop-time
invariant-loop-time l = record {
  passed : AllPass l.place l.time l.fn.system;
  is : l.system ≡ all_gone l.place l.time l.fn.system;
  left : l.system.dimensions + l.time ≡ l.fn.system.dimensions;
}
