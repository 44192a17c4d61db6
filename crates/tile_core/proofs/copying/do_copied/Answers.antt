use Rattle.scop_syntax.proofs.Common.{◌≡◌, ◌∙◌, ◌+◌, ◌<◌, Bool, ℕ, List, ap, ap₂, arith, get_or, inl, inr, length, refl}
use Rattle.scop_syntax.proofs.Common.{set, suc, take, length-map, length-take, take_all}
use Rattle.tile_events.specs.Plan.{updated}
use Rattle.tile_core.specs.Plans.{place_of, walk_shape}
use Rattle.tile_core.specs.declared.worker.Stage.TheVariants.{Working}
use Rattle.tile_core.specs.steps.Acts.{after_place, values_at}
use Rattle.tile_core.proofs.Acts.{values_more}
use Rattle.tile_core.proofs.Boards.{due_at}
use Rattle.tile_core.proofs.copying.do_copied.Goals as goal
use Rattle.tile_core.proofs.copying.do_copied.Goals.{After-at-tile, After-cell_written-at, In-loop-read}

pub returns-in_default-clause-done : goal.returns-in_default-clause-done
returns-in_default-clause-done c =
    inl record { due = c.in_default.ensures.due; none = refl; cells = refl; stage = refl }

-- where the instance stands
spot : (c : After-at-tile) → (c.args.worker.now.stage ≡ Working c.at-tile.result.0 c.at-tile.result.1)
    × (c.at-tile.result.0 < (walk_shape c.args.plan.now).tiles)
    × (c.at-tile.result.1 < (walk_shape c.args.plan.now).size c.at-tile.result.0)
    × (place_of c.args.plan.now c.in-Some.due.now ≡ (walk_shape c.args.plan.now).place c.at-tile.result.0 c.at-tile.result.1)
spot c =
    due_at c.args.plan.now c.args.worker.now c.in-Some.due.now c.at-tile.result c.requires.worker c.in-Some.ensures.due
    c.at-tile.ensures

-- a read is one of the instance's
one_of : (c : In-loop-read) → c.loop-read.read
    < length ((walk_shape c.args.plan.now).read (place_of c.args.plan.now c.in-Some.due.now))
one_of c =
    let less = c.loop-read-test.true in
    let many = c.reads-read-end.ensures.count in
    omega (arith, less, many)

pub cell_read-requires-clause-tile : goal.cell_read-requires-clause-tile
cell_read-requires-clause-tile c = (spot (goal.at.cell_read-requires-clause-tile c).After-at-tile).1

pub cell_read-requires-clause-left : goal.cell_read-requires-clause-left
cell_read-requires-clause-left c = (spot (goal.at.cell_read-requires-clause-left c).After-at-tile).2

pub cell_read-requires-clause-place : goal.cell_read-requires-clause-place
cell_read-requires-clause-place c = (spot (goal.at.cell_read-requires-clause-place c).After-at-tile).3

pub cell_read-requires-clause-read : goal.cell_read-requires-clause-read
cell_read-requires-clause-read c = one_of (goal.at.cell_read-requires-clause-read c).In-loop-read

pub read-requires : goal.read-requires
read-requires c =
    let plan = c.args.plan.now in
    let i = c.loop-read.read in
    let rs = (walk_shape plan).read (place_of plan c.in-Some.due.now) in
    let many = ap (λ (xs : List ℕ). length xs) c.loop-read.invariant.reads in
    let mapped = length-map (take i rs) (λ n. get_or c.args.cells.now n 0) in
    let taken = length-take i rs in
    let less = c.loop-read-test.true in
    let few = c.reads-read-end.ensures.few in
    omega (arith, many, mapped, taken, less, few)

pub loop-read-preserved : goal.loop-read-preserved
loop-read-preserved c =
    let plan = c.args.plan.now in
    let inv = c.loop-read.invariant in
    let cells = c.args.cells.now in
    let rs = (walk_shape plan).read (place_of plan c.in-Some.due.now) in record {
      reads = c.read.ensures.reads
          ∙ values_more cells rs c.loop-read.worker.reads.items c.loop-read.read _
          (one_of (goal.at.loop-read-preserved c).In-loop-read) inv.reads
          (ap (λ n. get_or cells n 0) c.cell_read.ensures.cell);
      stage = c.read.ensures.stage ∙ inv.stage;
      worker = c.read.ensures.worker plan inv.worker;
    }

-- all values are read
whole : (c : After-cell_written-at) → c.loop-read.worker.reads.items
    ≡ values_at c.args.cells.now ((walk_shape c.args.plan.now).read (place_of c.args.plan.now c.in-Some.due.now))
whole c =
    let rs = (walk_shape c.args.plan.now).read (place_of c.args.plan.now c.in-Some.due.now) in
    let end = c.loop-read-test.false in
    let many = c.reads-read-end.ensures.count in
    c.loop-read.invariant.reads
    ∙ ap (values_at c.args.cells.now) (take_all c.loop-read.read rs (omega (arith, end, many)))

pub cell_written-at-requires-clause-tile : goal.cell_written-at-requires-clause-tile
cell_written-at-requires-clause-tile c = (spot (goal.at.cell_written-at-requires-clause-tile c).After-at-tile).1

pub cell_written-at-requires-clause-left : goal.cell_written-at-requires-clause-left
cell_written-at-requires-clause-left c = (spot (goal.at.cell_written-at-requires-clause-left c).After-at-tile).2

pub cell_written-at-requires-clause-place : goal.cell_written-at-requires-clause-place
cell_written-at-requires-clause-place c = (spot (goal.at.cell_written-at-requires-clause-place c).After-at-tile).3

pub value-value-requires-clause-reads : goal.value-value-requires-clause-reads
value-value-requires-clause-reads c =
    let rs = (walk_shape c.args.plan.now).read (place_of c.args.plan.now c.in-Some.due.now) in
    ap (λ (xs : List ℕ). length xs) (whole (goal.at.value-value-requires-clause-reads c).After-cell_written-at)
    ∙ length-map rs (λ n. get_or c.args.cells.now n 0)

pub returns-clause-done : goal.returns-clause-done
returns-clause-done c =
    let plan = c.args.plan.now in
    let p = walk_shape plan in
    let j = place_of plan c.in-Some.due.now in
    let cells = c.args.cells.now in
    let due = c.in-Some.ensures.due in
    let at = c.cell_written-at.result in
    let value = c.value-value.ensures in
    let read = whole (goal.at.returns-clause-done c).After-cell_written-at in
    let adds = c.adds.result in
    let next : suc due.count ≡ due.count + 1 = omega arith in
    let left = due.left in
    inr record {
      tile = due.tile;
      first = due.count;
      works = due.works;
      some = omega arith;
      within = omega (arith, left);
      cells = ap (λ (v : ℕ). set cells at v) c.updated.ensures
          ∙ (ap₂ (λ (n v : ℕ). set cells n (updated adds (get_or cells n 0) v)) c.cell_written-at.ensures.cell
          (value.value ∙ ap (p.value j) read)
          ∙ (ap (λ (b : Bool). set cells (p.written j) (updated b (get_or cells (p.written j) 0)
          (p.value j (values_at cells (p.read j))))) c.adds.ensures
          ∙ ap (λ (n : ℕ). after_place p n cells)
          (due.place ∙ ap (p.place due.tile) (let e : due.count ≡ due.count + 0 = omega arith in e))));
      stage = c.advance.ensures.stage due.tile due.count (value.stage ∙ (c.loop-read.invariant.stage ∙ due.works))
          ∙ ap (Working due.tile) next;
    }
