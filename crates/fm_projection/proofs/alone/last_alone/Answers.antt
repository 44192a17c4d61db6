use Rattle.whole_numbers.proofs.Common.{◌-◌, ap, arith}
use Rattle.integer_sets.specs.Constraints.{Constraints}
use Rattle.fm_projection.proofs.EliminationRuns.{gone_dimensions}
use Rattle.fm_projection.proofs.alone.last_alone.Goals as goal

pub all_gone-requires-in-Ok-all_gone : goal.all_gone-requires-in-Ok-all_gone
all_gone-requires-in-Ok-all_gone c =
    let d = ap (λ (w : Constraints). w.dimensions) c.in-Ok-all_gone.ensures.1 in
    let g = gone_dimensions 0 (c.dimensions-others.result - 1) c.in-Ok.all in
    let a = ap (λ (w : Constraints). w.dimensions) c.in-Ok.ensures in
    let s = c.requires.some in
    omega (arith, d, g, a, s)
