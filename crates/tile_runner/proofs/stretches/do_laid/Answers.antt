use Rattle.scop_syntax.proofs.Common.{rules, ◌≡◌, ◌∙◌, ◌+◌, ◌<◌, ◌++◌, ◌∷◌, [], List, ℕ, add-one, ap, arith, length}
use Rattle.scop_syntax.proofs.Common.{length-append, set, subst, sym, take, take-suc-set}
use Rattle.array_words.specs.Seats.{IsSeat}
use Rattle.array_words.specs.Loads.{IsNextRead}
use Rattle.array_words.specs.Stores.{IsNextLast}
use Rattle.tile_table.specs.Codes.{value_by}
use Rattle.tile_core.specs.Passes.{walk_in}
use Rattle.tile_core.specs.declared.worker.Stage.{Stage}
use Rattle.tile_runner.specs.steps.Laid.{IsOnDesk}
use Rattle.tile_runner.proofs.Laid.{first_tells, next_last, next_read}
use Rattle.tile_runner.proofs.JoinsNext.{seat_read}
use Rattle.tile_runner.proofs.stretches.do_laid.Goals as goal

pub cell-requires-clause-access : goal.cell-requires-clause-access
cell-requires-clause-access c =
    let tells = first_tells c.args.words.now.plan c.args.seat.now.me.0.stage c.args.row.now
    (IsOnDesk c.args.row.now c.args.desk.now) c.requires.laid c.rows_tell_instances.ensures.tells
    c.requires.seat.of.planned in
    let n = tells.accesses in
    let end = c.reads-read-end.ensures in
    let less = c.loop-read-test.true in
    omega (arith, n, end, less)

pub load_at-value-requires-clause-next : goal.load_at-value-requires-clause-next
load_at-value-requires-clause-next c =
    let w = c.args.words.now in
    let s = c.args.seat.now.me.0.stage in
    let a = c.requires.laid in
    let is = c.loop-read.invariant in
    let xs = c.loop-read.seat.me.0.reads in
    let tells = first_tells w.plan s c.args.row.now (IsOnDesk c.args.row.now c.args.desk.now) a
    c.rows_tell_instances.ensures.tells c.requires.seat.of.planned in
    let end = c.reads-read-end.ensures in
    let less = c.loop-read-test.true in
    subst (λ (u : Stage). IsNextRead (walk_in w) u xs c.cell.result) (sym is.seat.stage)
    (next_read w.plan s c.args.row.now (IsOnDesk c.args.row.now c.args.desk.now) a w.table.shared.key.cells.items xs
    c.loop-read.read c.cell.result
    (c.walks_are_dealt.ensures.plain w.plan w.table.shared.key.cells.items c.requires.plain) tells is.count (omega (arith, end, less))
    (λ form e. c.cell.ensures a.steps a.first.turns form (is.laid a.steps a.first.turns a.laid.1) e))

pub loop-read-preserved : goal.loop-read-preserved
loop-read-preserved c =
    let w = c.args.words.now in
    let s = c.args.seat.now.me.0.stage in
    let is = c.loop-read.invariant in
    let old = c.loop-read.seat in
    let new = c.load_at-value.new.seat in
    let x = c.load_at-value.result in
    let xs = old.me.0.reads in
    let more = c.load_at-value.ensures.seat.reads in
    let count = is.count in
    let longer = ap length more ∙ length-append xs (x ∷ []) in
    let k = c.loop-read.read in
    let slots = c.loop-read.desk.slots.items in
    let within : k < length slots = search rules in
    let front = ap (λ (ys : List ℕ). take (k + 1) ys) c.put.ensures.slots
    ∙ (ap (λ (n : ℕ). take n (set slots k x)) (add-one k)
    ∙ (take-suc-set slots k x within ∙ ap (λ (ys : List ℕ). ys ++ x ∷ []) is.slots)) in
    let room = c.put.ensures.room in record {
      seat = subst (λ (ys : List ℕ). IsSeat w s ys new) (sym more)
          (seat_read w s xs old is.seat new x c.load_at-value.ensures.seat);
      count = omega (arith, count, longer);
      slots = front ∙ sym more;
      laid = λ steps turns h. c.put.ensures.laid steps turns (is.laid steps turns h);
      room = record {
        cells = room.cells ∙ is.room.cells;
        leaves = room.leaves ∙ is.room.leaves;
        slots = room.slots ∙ is.room.slots;
      };
    }

pub value-value-requires-clause-made : goal.value-value-requires-clause-made
value-value-requires-clause-made c =
    (first_tells c.args.words.now.plan c.args.seat.now.me.0.stage c.args.row.now
    (IsOnDesk c.args.row.now c.args.desk.now) c.requires.laid
    c.rows_tell_instances.ensures.tells c.requires.seat.of.planned).made

pub cell-requires-2-clause-access : goal.cell-requires-2-clause-access
cell-requires-2-clause-access c =
    let tells = first_tells c.args.words.now.plan c.args.seat.now.me.0.stage c.args.row.now
    (IsOnDesk c.args.row.now c.args.desk.now) c.requires.laid c.rows_tell_instances.ensures.tells
    c.requires.seat.of.planned in
    let n = tells.accesses in
    omega (arith, n)

pub give_at-requires-clause-next : goal.give_at-requires-clause-next
give_at-requires-clause-next c =
    let w = c.args.words.now in
    let s = c.args.seat.now.me.0.stage in
    let row = c.args.row.now in
    let a = c.requires.laid in
    let turns = a.first.turns in
    let is = c.loop-read.invariant in
    let xs = c.loop-read.seat.me.0.reads in
    let tells = first_tells w.plan s row (IsOnDesk row c.args.desk.now) a c.rows_tell_instances.ensures.tells
    c.requires.seat.of.planned in
    let end = c.reads-read-end.ensures in
    let over = c.loop-read-test.false in
    let within = c.loop-read.auto.read-end in
    let all : c.loop-read.read ≡ row.code.reads = omega (arith, end, over, within) in
    let laid = is.laid a.steps turns a.laid.1 in
    let values : take row.code.reads c.loop-read.desk.slots.items ≡ xs =
    ap (λ (n : ℕ). take n c.loop-read.desk.slots.items) (sym all) ∙ is.slots in
    subst (λ (u : Stage). IsNextLast row.adds (walk_in w) u xs c.cell-2.result c.value-value.result) (sym is.seat.stage)
    (next_last w.plan s row (IsOnDesk row c.args.desk.now) a w.table.shared.key.cells.items xs c.cell-2.result
    c.value-value.result (c.walks_are_dealt.ensures.plain w.plan w.table.shared.key.cells.items c.requires.plain) tells
    (is.count ∙ all)
    (λ form e. c.cell-2.ensures a.steps turns form (c.value-value.ensures.laid a.steps turns laid) e)
    (c.value-value.ensures.value a.steps turns laid ∙ ap (value_by row.code turns) values))
