use Rattle.scop_syntax.proofs.Common.{◌≡◌, ◌+◌, ◌-◌, ◌<◌, ℕ, length, get_or}
use Rattle.traced_projections.specs.Projections.{system_in}
use Rattle.plain_scan.specs.declared.outline.Shadow.{Shadow}
use Rattle.plain_scan.specs.steps.Shadows.{IsShadow}
use Rattle.plain_scan.specs.Outlines.{IsShadowOf}
use Rattle.plain_scan.proofs.ShadowStops.{AreFound}
use Rattle.plain_scan.proofs.outline.outline_by.Given as goal

abbrev pub invariant-loop-count : goal.invariant-loop-count
invariant-loop-count l = record {
  found : AreFound l.fn.start l.left l.count;
  shadow : (m : ℕ) → m + (l.count - 1) ≡ l.set.system.dimensions → IsShadow m l.set (system_in l.left);
  count : length l.shadows.items ≡ l.count;
  each : (n : ℕ) (d : Shadow) → n < length l.shadows.items → IsShadowOf n l.set (get_or l.shadows.items n d);
}
