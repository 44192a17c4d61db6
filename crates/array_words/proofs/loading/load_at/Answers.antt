use Rattle.scop_syntax.proofs.Common.{arith}
use Rattle.tile_core.proofs.Gates.{shape_extends}
use Rattle.array_words.proofs.Loads.{loads, read_below, told}
use Rattle.array_words.proofs.loading.load_at.Goals as goal

pub overflow_add-cell : goal.overflow_add-cell
overflow_add-cell c =
    let w = c.args.words.now in
    let v = c.args.seat.now.me.0 in
    let of = c.requires.seat.of in
    let room = of.room in
    let more = (shape_extends w.plan).cells in
    let b = read_below w (c.walks_are_dealt.ensures.dealt w.plan w.table.shared.key.cells.items of.planned) v.stage
    v.reads c.args.cell c.requires.next in
    omega (arith, b, room, more)

pub load-requires : goal.load-requires
load-requires c =
    let w = c.args.words.now in
    let v = c.args.seat.now.me.0 in
    let of = c.requires.seat.of in
    let long = of.long in
    let more = (shape_extends w.plan).cells in
    let b = read_below w (c.walks_are_dealt.ensures.dealt w.plan w.table.shared.key.cells.items of.planned) v.stage
    v.reads c.args.cell c.requires.next in (
      c.requires.seat.table,
      omega (arith, b, long, more),
      loads w c.args.seat.now (c.walks_are_dealt.ensures.dealt w.plan w.table.shared.key.cells.items of.planned)
          c.events_are_allowed.ensures.load v.stage v.reads c.args.cell c.requires.seat c.requires.next,
    )

pub returns-clause-value : goal.returns-clause-value
returns-clause-value c =
    told c.args.words.now c.args.seat.now c.args.seat.now.me.0.stage c.args.seat.now.me.0.reads c.load.result
    c.requires.seat c.load.ensures.2.0
