use Rattle.scop_syntax.proofs.Common.{rules, ◌≡◌, ◌<◌, refl, ap, subst, arith, length, Some, slice_get, slice_get_read}
use Rattle.schedule_rows.specs.Schedule.{Scheduled, IsScheduled}
use Rattle.schedule_rows.proofs.BandStarts.{marked_at}
use Rattle.schedule_rows.proofs.BlockItems.{as_many}
use Rattle.schedule_rows.proofs.schedule.Schedule.is_parallel.Goals as goal
use Rattle.schedule_rows.proofs.schedule.Schedule.is_parallel.Goals.{After-self, After-index}

-- each item has a mark
within : (c : After-self) → c.args.item < length c.self.inside.parallel.items
within c =
    let v = ap (λ (z : Scheduled). length z.items) c.self.view_is in
    let a = ap length c.self.invariant.items in
    let b = ap length c.self.invariant.parallel in
    let d = as_many c.self.invariant.blocks in
    let r = c.requires in
    omega arith

mark_is : (c : After-index) → c.args.item < length c.self.inside.parallel.items
    → slice_get c.args.self.now.parallel c.args.item ≡ Some c.index.result.now
mark_is c l =
    subst (λ (z : Scheduled). slice_get z.parallel c.args.item ≡ Some c.index.result.now) c.self.view_is
    (slice_get_read c.self.inside.parallel.items (length c.self.inside.parallel.items) c.args.item c.index.result.now
    refl l
    c.index.ensures)

pub index-requires : goal.index-requires
index-requires c = let l = within c in search rules

pub returns-clause-parallel : goal.returns-clause-parallel
returns-clause-parallel c = mark_is c (within (goal.at.returns-clause-parallel c).After-self)

pub returns-clause-exact : goal.returns-clause-exact
returns-clause-exact c r i =
    marked_at c.args.self.now c.args.item r c.index.result.now (subst IsScheduled c.self.view_is c.self.invariant) i
    (mark_is c (within (goal.at.returns-clause-exact c).After-self))
