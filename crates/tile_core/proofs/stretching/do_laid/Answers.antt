use Rattle.scop_syntax.proofs.Common.{rules, ◌∙◌, ◌<◌, Bool, ℕ, ap, ap₂, arith, get_or, length, set}
use Rattle.tile_events.specs.Plan.{updated}
use Rattle.tile_core.specs.Plans.{places_in, plain_shape}
use Rattle.tile_core.specs.Ranks.{place_in}
use Rattle.tile_core.specs.steps.Acts.{values_at}
use Rattle.tile_core.specs.steps.Desks.{StaysLaid}
use Rattle.tile_core.proofs.Desks.{stays_at, stays_then, value_there, written_cell}
use Rattle.tile_core.proofs.stretching.do_laid.Goals as goal
use Rattle.tile_core.proofs.stretching.do_laid.Goals.{After-cell-at}

stays_to : (c : After-cell-at) → StaysLaid c.args.row.now c.args.desk.now c.value-value.new.desk
stays_to c =
    stays_then c.args.row.now c.args.desk.now c.read_all.new.desk c.value-value.new.desk c.read_all.ensures.stays
    c.value-value.ensures.laid c.value-value.ensures.room

below : (c : After-cell-at) → c.cell-at.result < length c.args.cells.now
below c =
    let r = c.requires in
    let wide = r.wide in
    let found = written_cell r.plan c.args.row.now r.steps r.instance c.value-value.new.desk c.cell-at.result
    (stays_at r.plan c.args.row.now r.steps r.instance c.args.desk.now c.value-value.new.desk r.at (stays_to c))
    c.cell-at.ensures in
    let inside = r.at.tells.written_inside in
    omega (arith, found, inside, wide)

pub bounds-cells-at : goal.bounds-cells-at
bounds-cells-at c = below (goal.at.bounds-cells-at c).After-cell-at

pub bounds-cells-at-2 : goal.bounds-cells-at-2
bounds-cells-at-2 c = below (goal.at.bounds-cells-at-2 c).After-cell-at

pub offset_bounds-cells-at : goal.offset_bounds-cells-at
offset_bounds-cells-at c = let less = below (goal.at.offset_bounds-cells-at c).After-cell-at in search rules

pub offset_bounds-cells-at-2 : goal.offset_bounds-cells-at-2
offset_bounds-cells-at-2 c = let less = below (goal.at.offset_bounds-cells-at-2 c).After-cell-at in search rules

pub returns-clause-cells : goal.returns-clause-cells
returns-clause-cells c plan steps x at =
    let row = c.args.row.now in
    let cells = c.args.cells.now in
    let p = plain_shape plan in
    let j = place_in (places_in plan) x in
    let read = stays_at plan row steps x c.args.desk.now c.read_all.new.desk at c.read_all.ensures.stays in
    let cell = written_cell plan row steps x c.value-value.new.desk c.cell-at.result
    (stays_at plan row steps x c.args.desk.now c.value-value.new.desk at
    (stays_to (goal.at.returns-clause-cells c).After-cell-at)) c.cell-at.ensures in
    let value = value_there plan row steps x c.read_all.new.desk cells _ c.value-value.result read
    (c.read_all.ensures.reads plan steps x at) (c.value-value.ensures.value steps x.turns read.laid) in
    ap (λ (v : ℕ). set cells c.cell-at.result v) c.updated.ensures
    ∙ (ap₂ (λ (n v : ℕ). set cells n (updated row.adds (get_or cells n 0) v)) cell value
    ∙ ap (λ (b : Bool). set cells (p.written j) (updated b (get_or cells (p.written j) 0)
    (p.value j (values_at cells (p.read j))))) at.tells.adds)
