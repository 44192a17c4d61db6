use Rattle.scop_syntax.proofs.Common.{[], ◌∷◌, arith, refl, subst, suc, sym}
use Rattle.array_words.specs.Seats.{IsSeat}
use Rattle.array_words.specs.Stores.{IsNextStore}
use Rattle.tile_core.specs.Passes.{walk_in}
use Rattle.tile_core.specs.Views.{done_at, tile_at}
use Rattle.tile_core.specs.declared.worker.Stage.{Stage}
use Rattle.tile_core.specs.declared.worker.Stage.TheVariants.{Working}
use Rattle.tile_runner.proofs.JoinsNext.{lane_read, lane_store, reads_next, seat_read, stores_next}
use Rattle.tile_runner.proofs.joins.do_join.Goals as goal

pub load_at-first-requires-clause-next : goal.load_at-first-requires-clause-next
load_at-first-requires-clause-next c =
    let w = c.args.words.now in
    let seat = c.args.seat.now in
    let lanes = c.args.lanes.now in
    reads_next w seat.me.0.stage [] seat c.requires.seat lanes.first.at
    (lane_read w.plan seat.me.0.stage lanes c.requires.laid c.rows_tell_instances.ensures.tells
    c.requires.seat.of.planned (λ cells. c.walks_are_dealt.ensures.plain w.plan cells c.requires.plain)
    w.table.shared.key.cells.items [] 0 lanes.first refl (omega arith) refl)

pub load_at-second-requires-clause-next : goal.load_at-second-requires-clause-next
load_at-second-requires-clause-next c =
    let w = c.args.words.now in
    let seat = c.args.seat.now in
    let s = seat.me.0.stage in
    let lanes = c.args.lanes.now in
    let x = c.load_at-first.result in
    let one = seat_read w s [] seat c.requires.seat c.load_at-first.new.seat x c.load_at-first.ensures.seat in
    reads_next w s (x ∷ []) c.load_at-first.new.seat one lanes.second.at
    (lane_read w.plan s lanes c.requires.laid c.rows_tell_instances.ensures.tells c.requires.seat.of.planned
    (λ cells. c.walks_are_dealt.ensures.plain w.plan cells c.requires.plain) w.table.shared.key.cells.items (x ∷ []) 1
    lanes.second refl (omega arith) refl)

pub load_at-third-requires-clause-next : goal.load_at-third-requires-clause-next
load_at-third-requires-clause-next c =
    let w = c.args.words.now in
    let seat = c.args.seat.now in
    let s = seat.me.0.stage in
    let lanes = c.args.lanes.now in
    let x = c.load_at-first.result in
    let y = c.load_at-second.result in
    let one = seat_read w s [] seat c.requires.seat c.load_at-first.new.seat x c.load_at-first.ensures.seat in
    let two = seat_read w s (x ∷ []) c.load_at-first.new.seat one c.load_at-second.new.seat y
    c.load_at-second.ensures.seat in
    reads_next w s (x ∷ y ∷ []) c.load_at-second.new.seat two lanes.third.at
    (lane_read w.plan s lanes c.requires.laid c.rows_tell_instances.ensures.tells c.requires.seat.of.planned
    (λ cells. c.walks_are_dealt.ensures.plain w.plan cells c.requires.plain) w.table.shared.key.cells.items (x ∷ y ∷ [])
    2 lanes.third refl (omega arith) refl)

pub store_at-requires-clause-next : goal.store_at-requires-clause-next
store_at-requires-clause-next c =
    let w = c.args.words.now in
    let seat = c.args.seat.now in
    let s = seat.me.0.stage in
    let lanes = c.args.lanes.now in
    let x = c.load_at-first.result in
    let y = c.load_at-second.result in
    let z = c.load_at-third.result in
    let one = seat_read w s [] seat c.requires.seat c.load_at-first.new.seat x c.load_at-first.ensures.seat in
    let two = seat_read w s (x ∷ []) c.load_at-first.new.seat one c.load_at-second.new.seat y
    c.load_at-second.ensures.seat in
    let three = seat_read w s (x ∷ y ∷ []) c.load_at-second.new.seat two c.load_at-third.new.seat z
    c.load_at-third.ensures.seat in
    stores_next w s (x ∷ y ∷ z ∷ []) c.load_at-third.new.seat three lanes.place.at c.of-value.result
    (subst (IsNextStore (walk_in w) s (x ∷ y ∷ z ∷ []) lanes.place.at) (sym c.of-value.ensures)
    (lane_store w.plan s lanes c.requires.laid c.rows_tell_instances.ensures.tells c.requires.seat.of.planned
    (λ cells. c.walks_are_dealt.ensures.plain w.plan cells c.requires.plain) w.table.shared.key.cells.items x y z))

pub returns-clause-seat : goal.returns-clause-seat
returns-clause-seat c =
    let w = c.args.words.now in
    let seat = c.args.seat.now in
    let s = seat.me.0.stage in
    let x = c.load_at-first.result in
    let y = c.load_at-second.result in
    let one = seat_read w s [] seat c.requires.seat c.load_at-first.new.seat x c.load_at-first.ensures.seat in
    let two = seat_read w s (x ∷ []) c.load_at-first.new.seat one c.load_at-second.new.seat y
    c.load_at-second.ensures.seat in
    let three = seat_read w s (x ∷ y ∷ []) c.load_at-second.new.seat two c.load_at-third.new.seat c.load_at-third.result
    c.load_at-third.ensures.seat in
    subst (λ (u : Stage). IsSeat w (Working (tile_at u) (suc (done_at u))) [] c.store_at.new.seat) three.stage
    c.store_at.ensures.seat
