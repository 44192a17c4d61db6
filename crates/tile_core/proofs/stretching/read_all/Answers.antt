use Rattle.scop_syntax.proofs.Common.{rules, ◌≡◌, ◌∙◌, ◌+◌, ◌<◌, ℕ, List, ap, arith, get_or, length, sym, take}
use Rattle.scop_syntax.proofs.Common.{take_all}
use Rattle.std.proofs.lemmas.List.{take_more_set}
use Rattle.tile_core.specs.Plans.{places_in, plain_shape}
use Rattle.tile_core.specs.Ranks.{place_in}
use Rattle.tile_core.specs.steps.Acts.{values_at}
use Rattle.tile_core.proofs.Acts.{values_more}
use Rattle.tile_core.proofs.Desks.{read_cell, stays_at, stays_then}
use Rattle.tile_core.proofs.stretching.read_all.Goals as goal
use Rattle.tile_core.proofs.stretching.read_all.Goals.{After-cell}

below : (c : After-cell) → c.cell.result < length c.args.cells.now
below c =
    let r = c.requires in
    let wide = r.wide in
    let less = c.loop-read-test.true in
    let found = read_cell r.plan c.args.row.now r.steps r.instance c.loop-read.desk c.loop-read.read c.cell.result
    (stays_at r.plan c.args.row.now r.steps r.instance c.args.desk.now c.loop-read.desk r.at
    c.loop-read.invariant.stays) less c.cell.ensures in
    let inside = r.at.tells.read_inside c.loop-read.read less in
    omega (arith, found, inside, wide)

pub bounds-cells-cell : goal.bounds-cells-cell
bounds-cells-cell c = below (goal.at.bounds-cells-cell c).After-cell

pub offset_bounds-cells-cell : goal.offset_bounds-cells-cell
offset_bounds-cells-cell c = let less = below (goal.at.offset_bounds-cells-cell c).After-cell in search rules

pub loop-read-preserved : goal.loop-read-preserved
loop-read-preserved c =
    let r = c.loop-read.read in
    let i = c.loop-read.invariant in
    let less = c.loop-read-test.true in record {
      reads = λ plan steps x at.
          let rs = (plain_shape plan).read (place_in (places_in plan) x) in
          let count = at.tells.reads in
          let here = stays_at plan c.args.row.now steps x c.args.desk.now c.loop-read.desk at i.stays in
          let room = here.room.slots in
          let found = read_cell plan c.args.row.now steps x c.loop-read.desk r c.cell.result here less
          c.cell.ensures in
          ap (λ (ss : List ℕ). take (r + 1) ss) c.put.ensures.slots
          ∙ (take_more_set c.loop-read.desk.slots.items r _ (omega (arith, less, room))
          ∙ values_more c.args.cells.now rs (take r c.loop-read.desk.slots.items) r _ (omega (arith, less, count))
          (i.reads plan steps x at) (ap (λ n. get_or c.args.cells.now n 0) found));
      stays = stays_then c.args.row.now c.args.desk.now c.loop-read.desk c.put.new.desk i.stays c.put.ensures.laid
          c.put.ensures.room;
    }

pub returns-clause-reads : goal.returns-clause-reads
returns-clause-reads c plan steps x at =
    let rs = (plain_shape plan).read (place_in (places_in plan) x) in
    let n = c.args.row.now.code.reads in
    let end = c.loop-read-test.false in
    let most = c.loop-read.auto.read-end in
    let count = at.tells.reads in
    let same : c.loop-read.read ≡ n = omega (arith, end, most) in
    ap (λ m. take m c.loop-read.desk.slots.items) (sym same)
    ∙ (c.loop-read.invariant.reads plan steps x at
    ∙ ap (values_at c.args.cells.now) (take_all c.loop-read.read rs (omega (arith, count, same))))
