use Rattle.scop_syntax.proofs.Common.{arith, false}
use Rattle.tile_core.proofs.Gates.{shape_extends}
use Rattle.array_words.proofs.Stores.{stores, written_below}
use Rattle.array_words.proofs.storing.store_at.Goals as goal

pub overflow_add-cell : goal.overflow_add-cell
overflow_add-cell c =
    let w = c.args.words.now in
    let v = c.args.seat.now.me.0 in
    let of = c.requires.seat.of in
    let room = of.room in
    let more = (shape_extends w.plan).cells in
    let b = written_below w false (c.walks_are_dealt.ensures.dealt w.plan w.table.shared.key.cells.items of.planned) v.stage
    v.reads c.args.cell c.args.value c.requires.next in
    omega (arith, b, room, more)

pub store-requires : goal.store-requires
store-requires c =
    let w = c.args.words.now in
    let v = c.args.seat.now.me.0 in
    let of = c.requires.seat.of in
    let long = of.long in
    let more = (shape_extends w.plan).cells in
    let b = written_below w false (c.walks_are_dealt.ensures.dealt w.plan w.table.shared.key.cells.items of.planned) v.stage
    v.reads c.args.cell c.args.value c.requires.next in (
      c.requires.seat.table,
      omega (arith, b, long, more),
      stores w c.args.seat.now (c.walks_are_dealt.ensures.dealt w.plan w.table.shared.key.cells.items of.planned)
          c.events_are_allowed.ensures.store v.stage v.reads c.args.cell c.args.value c.requires.seat c.requires.next,
    )
