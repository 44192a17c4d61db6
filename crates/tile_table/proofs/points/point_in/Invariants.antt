use Rattle.scop_syntax.proofs.Common.{◌≡◌, ◌+◌, drop, length, map}
use Rattle.tile_table.specs.Points.{point_in}
use Rattle.tile_table.specs.steps.Same.{AreSame}
use Rattle.tile_table.proofs.points.point_in.Given as goal

abbrev pub invariant-loop-at : goal.invariant-loop-at
invariant-loop-at l = record {
  long : length l.point.items ≡ length l.params + l.at;
  same : AreSame (point_in (drop l.at (map (λ h. h.now) l.heads)) l.point.items (drop l.at l.turns))
      (point_in (map (λ h. h.now) l.heads) l.params l.turns);
}
