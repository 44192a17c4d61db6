use Rattle.scop_syntax.proofs.Common.{◌≡◌, ◌+◌, refl, arith}
use Rattle.tile_skew.specs.ScanSets.{width}
use Rattle.tile_skew.proofs.ConstraintVariables.{resized}
use Rattle.tile_skew.proofs.statement_sets.points.Goals as goal

pub from_parts-requires : goal.from_parts-requires
from_parts-requires c =
    let l = c.args.scattering.now.layout in
    let e : width l ≡ (l.front + (l.turns + l.missing)) + l.parameters = omega arith in
    let n = (l.front + (l.turns + l.missing)) + l.parameters in
    let first = c.in_ok-equal.equal.items in
    let second = c.in_ok-least.least.items in
    record {
      sized =
          record {
            equalities_sized = resized (width l) n first first e refl c.in_ok-equal.ensures.sized;
            rows_sized = resized (width l) n second second e refl c.in_ok-least.ensures.sized;
          };
    }
