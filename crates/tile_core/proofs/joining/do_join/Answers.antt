use Rattle.scop_syntax.proofs.Common.{◌∙◌, Bool, ℕ, ap, ap₂, get_or, set, sym}
use Rattle.tile_events.specs.Plan.{updated}
use Rattle.tile_core.specs.Plans.{places_in, plain_shape}
use Rattle.tile_core.specs.Ranks.{place_in}
use Rattle.tile_core.specs.steps.Acts.{values_at}
use Rattle.tile_core.proofs.Joins.{join_stored, join_there, written_lane}
use Rattle.tile_core.proofs.joining.do_join.Goals as goal

pub returns-clause-cells : goal.returns-clause-cells
returns-clause-cells c plan row steps x at =
    let lanes = c.args.lanes.now in
    let cells = c.args.cells.now in
    let p = plain_shape plan in
    let j = place_in (places_in plan) x in
    ap₂ (λ (n v : ℕ). set cells n v) (written_lane plan row steps x lanes at)
    (c.of.ensures ∙ join_there plan row steps x lanes at cells)
    ∙ ap (λ (b : Bool). set cells (p.written j) (updated b (get_or cells (p.written j) 0)
    (p.value j (values_at cells (p.read j))))) (sym (join_stored plan row steps x lanes at))
