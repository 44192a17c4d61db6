-- The cells at the end are those of a sound state where all tiles are done, which plans speak of.
use Rattle.scop_syntax.proofs.Common.{arith, length, List, ℕ}
use Rattle.std.specs.Mem.Slots.{slots_items}
use Rattle.tile_core.specs.Passes.{plan_in}
use Rattle.tile_core.specs.Plans.{HoldsContents, plan_of}
use Rattle.tile_events.specs.Flat.{flat}
use Rattle.tile_events.specs.Sound.{Sound}
use Rattle.array_words.specs.Closing.{IsClosed}
use Rattle.array_words.proofs.Ends.{end_of, quiet_end, sound_end}
use Rattle.array_words.proofs.FinalCells.{closed_cells}
use Rattle.array_words.proofs.closing.close.Goals as goal
use Rattle.array_words.proofs.closing.close.Goals.{After-free}

closed : (c : After-free) → IsClosed (plan_in c.args.words) c.args.cells.now c.copy_words.new.cells
closed c =
    let e = c.gather-seat.ensures.ended in
    let o = c.requires.over in
    closed_cells c.seats_are_allowed.ensures.end c.args.words c.gather-seat.result.0 (length c.args.passes.items)
    c.gather-seat.result.1 (slots_items c.close_with-closed.result.words) c.args.cells.now c.copy_words.new.cells
    (slots_items c.close_with-closed.result.slots) c.gather-seat.ensures.seat (omega (arith, e, o)) c.requires.all
    c.close_with-closed.ensures.values.2 c.copy_words.ensures.words c.requires.cells c.copy_words.ensures.length

-- where the words at first hold the contents
sound : (c : After-free) (contents : List (List ℕ)) → HoldsContents contents c.args.words.table.shared.key.cells.items
    → Sound (plan_of c.args.words.plan (flat contents))
    (end_of (plan_of c.args.words.plan (flat contents)) c.copy_words.new.cells)
sound c contents holds =
    let plan = c.args.words.plan in
    let row = c.args.words.table.shared.key.cells.items in
    sound_end plan contents row c.args.cells.now c.copy_words.new.cells
    (c.plans_execute_the_kernel.ensures.row plan contents row holds)
    (c.plans_are_good.ensures.dealt plan (flat contents) c.requires.words.planned) c.requires.cells (closed c)

pub returns-clause-results : goal.returns-clause-results
returns-clause-results c = λ contents shaped holds.
    let plan = c.args.words.plan in
    let p = plan_of plan (flat contents) in
    let cells = c.copy_words.new.cells in
    let s = end_of p cells in
    let laws = c.plans_execute_the_kernel.ensures in
    let planned = c.requires.words.planned in
    let last = sound (goal.at.returns-clause-results c).After-free contents holds in
    record {
      arrays = λ plain. laws.end plan contents s planned plain shaped last (quiet_end p cells);
      kept = λ copied. laws.kept plan contents s planned copied shaped last;
      copies = λ copied. laws.copies plan contents s planned copied shaped last (quiet_end p cells);
    }

pub returns-clause-cells : goal.returns-clause-cells
returns-clause-cells c = closed (goal.at.returns-clause-cells c).After-free
