use Rattle.scop_syntax.proofs.Common.{◌≡◌, ◌∙◌, ◌+◌, suc, ap, ap₂, arith, length, subst, sym}
use Rattle.tile_core.specs.Passes.{walk_in}
use Rattle.tile_core.specs.Plans.{place_of}
use Rattle.tile_core.specs.Views.{done_at, tile_at}
use Rattle.tile_core.specs.Workers.{IsDue}
use Rattle.tile_core.specs.declared.worker.Stage.{Stage}
use Rattle.tile_core.specs.declared.worker.Stage.TheVariants.{Working}
use Rattle.tile_core.proofs.Boards.{due_at}
use Rattle.tile_runner.proofs.NextCopies.{copy_store, is_within}
use Rattle.tile_runner.proofs.copies.do_copied.Goals as goal
use Rattle.tile_runner.proofs.copies.do_copied.Goals.{After-load_all}

-- behind its loads the instance is still due
still : (c : After-load_all) → IsDue c.args.words.now.plan c.load_all.new.pass.worker.stage c.in-Some.due.now
still c =
    subst (λ (s : Stage). IsDue c.args.words.now.plan s c.in-Some.due.now) (sym c.load_all.ensures.stage)
    c.in-Some.ensures.due

pub cell_written-cell-requires-clause-tile : goal.cell_written-cell-requires-clause-tile
cell_written-cell-requires-clause-tile c =
    (due_at c.args.words.now.plan c.load_all.new.pass.worker c.in-Some.due.now c.at-tile.result
    c.load_all.ensures.pass.worker (still (goal.at.cell_written-cell-requires-clause-tile c).After-load_all)
    c.at-tile.ensures).1

pub cell_written-cell-requires-clause-left : goal.cell_written-cell-requires-clause-left
cell_written-cell-requires-clause-left c =
    (due_at c.args.words.now.plan c.load_all.new.pass.worker c.in-Some.due.now c.at-tile.result
    c.load_all.ensures.pass.worker (still (goal.at.cell_written-cell-requires-clause-left c).After-load_all)
    c.at-tile.ensures).2

pub cell_written-cell-requires-clause-place : goal.cell_written-cell-requires-clause-place
cell_written-cell-requires-clause-place c =
    (due_at c.args.words.now.plan c.load_all.new.pass.worker c.in-Some.due.now c.at-tile.result
    c.load_all.ensures.pass.worker (still (goal.at.cell_written-cell-requires-clause-place c).After-load_all)
    c.at-tile.ensures).3

pub value-value-requires-clause-reads : goal.value-value-requires-clause-reads
value-value-requires-clause-reads c = c.load_all.ensures.reads

pub store-requires-clause-pass : goal.store-requires-clause-pass
store-requires-clause-pass c =
    let is = c.load_all.ensures.pass in
    let same = c.value-value.ensures in record {
      of = is.of;
      table = is.table;
      key = is.key;
      slots = is.slots;
      parts = is.parts;
      stage = is.stage ∙ sym same.stage;
      reads = is.reads ∙ sym same.reads;
      worker = same.worker;
    }

pub store-requires-clause-next : goal.store-requires-clause-next
store-requires-clause-next c =
    let w = c.args.words.now in
    let i = c.in-Some.due.now in
    let same = c.value-value.ensures in
    let due = subst (λ (s : Stage). IsDue w.plan s i) (sym same.stage)
    (still (goal.at.store-requires-clause-next c).After-load_all) in
    copy_store w.plan c.value-value.new.self.stage i due w.table.shared.key.cells.items c.requires.pass.of.planned
    c.requires.copies c.value-value.new.self.reads.items c.cell_written-cell.result c.value-value.result
    (ap length same.reads ∙ c.load_all.ensures.reads) c.cell_written-cell.ensures.cell
    (same.value ∙ ap ((walk_in w).value (place_of w.plan i)) (sym same.reads))

pub returns-clause-none : goal.returns-clause-none
returns-clause-none c one = absurd cc

pub returns-clause-within : goal.returns-clause-within
returns-clause-within c t k works some =
    let less = is_within c.args.words.now.plan c.args.pass.now.worker.stage c.in-Some.due.now c.in-Some.ensures.due t k
    works in
    omega (arith, less)

pub returns-clause-stage : goal.returns-clause-stage
returns-clause-stage c t k works =
    let old = c.value-value.ensures.stage ∙ (c.load_all.ensures.stage ∙ works) in
    let on : suc k ≡ k + 1 = omega arith in
    c.store.ensures.stage ∙ ap₂ Working (ap tile_at old) (ap (λ (s : Stage). suc (done_at s)) old ∙ on)
