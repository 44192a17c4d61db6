use Rattle.scop_syntax.proofs.Common.{arith, rules, refl, subst, sym, ◌+◌, ◌<◌}
use Rattle.loop_tree.specs.SpotView.{to_come}
use Rattle.loop_tree.specs.View.{trees_in}
use Rattle.tile_events.specs.Sound.{Holds}
use Rattle.tile_core.specs.Plans.{deal_of, scan_in, walk_shape}
use Rattle.tile_core.specs.Workers.{staged}
use Rattle.tile_core.proofs.Stretches.{behind_passed, passes_stretch}
use Rattle.tile_core.proofs.Workers.{at_work, next_is}
use Rattle.tile_core.proofs.worker.Worker.pass_by.Goals as goal

pub instances-size-requires-clause-tile : goal.instances-size-requires-clause-tile
instances-size-requires-clause-tile c =
    c.requires.worker.tile c.in-Working.tile
    (subst (λ s. Holds (staged s c.args.self.now.reads.items) c.in-Working.tile) (sym c.in-Working.is) refl)

pub overflow_add-self : goal.overflow_add-self
overflow_add-self c =
    let can = c.requires.passes c.in-Working.tile c.in-Working.done c.in-Working.is in
    let left = can.0 in
    let part = can.1.within in
    let size = c.instances-size.ensures in
    let fits = c.instances-size.type_inv in
    let room : c.in-Working.done + c.args.count < 18446744073709551616 = omega (arith, left, part, size, fits) in
    search rules

pub overflow_add-done : goal.overflow_add-done
overflow_add-done c =
    let can = c.requires.passes c.in-Working.tile c.in-Working.done c.in-Working.is in
    let left = can.0 in
    let part = can.1.within in
    let size = c.instances-size.ensures in
    let fits = c.instances-size.type_inv in
    let room : c.in-Working.done + c.args.count < 18446744073709551616 = omega (arith, left, part, size, fits) in
    search rules

pub leave-requires : goal.leave-requires
leave-requires c =
    let size = c.instances-size.ensures in
    let more = c.if-done-count.true in
    passes_stretch c.in-Working.done c.args.count c.args.self.now.spot.stretch.left
    ((walk_shape c.args.plan.now).size c.in-Working.tile)
    (c.requires.passes c.in-Working.tile c.in-Working.done c.in-Working.is).1 (omega (arith, size, more))

pub returns-then-done-count-clause-worker : goal.returns-then-done-count-clause-worker
returns-then-done-count-clause-worker c =
    let plan = c.args.plan.now in
    let w = c.args.self.now in
    let t = c.in-Working.tile in
    let k = c.in-Working.done in
    let count = c.args.count in
    let ts = trees_in plan.tree.now in
    let start = (deal_of plan).start t in
    let less = c.requires.worker.tile t (subst (λ s. Holds (staged s w.reads.items) t) (sym c.in-Working.is) refl) in
    let size = c.instances-size.ensures in
    let more = c.if-done-count.true in
    let two = passes_stretch k count w.spot.stretch.left ((walk_shape plan).size t)
    (c.requires.passes t k c.in-Working.is).1 (omega (arith, size, more)) in
    let here = c.requires.worker.next t k c.in-Working.is (omega (arith, size, more)) in
    let behind = behind_passed (scan_in plan) (to_come ts plan.params.now w.spot)
    (to_come ts plan.params.now c.leave.new.spot) start k count w.spot.stretch.left two here.behind
    (c.leave.ensures.rest ts plan.params.now) in
    at_work plan _ t (k + count) refl c.next-self.ensures.spot c.requires.worker.desk c.requires.worker.desks less
    (λ left. next_is plan (start + (k + count)) c.next-self.result c.leave.new.spot c.next-self.new.self behind
    c.next-self.ensures.rest c.next-self.ensures.none.0)

pub returns-else-done-count-clause-worker : goal.returns-else-done-count-clause-worker
returns-else-done-count-clause-worker c =
    let plan = c.args.plan.now in
    let w = c.args.self.now in
    let t = c.in-Working.tile in
    let k = c.in-Working.done in
    let less = c.requires.worker.tile t (subst (λ s. Holds (staged s w.reads.items) t) (sym c.in-Working.is) refl) in
    let size = c.instances-size.ensures in
    let none = c.if-done-count.false in
    at_work plan _ t (k + c.args.count) refl c.requires.worker.spot c.requires.worker.desk c.requires.worker.desks less
    (λ (left : k + c.args.count < (walk_shape plan).size t). absurd (omega (arith, left, size, none)))
