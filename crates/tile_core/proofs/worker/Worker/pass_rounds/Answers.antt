use Rattle.scop_syntax.proofs.Common.{arith, rules, ◌≡◌, ◌∙◌, ◌+◌, ◌*◌, ◌<◌, ap, drop, refl, subst, suc, sym, drop-drop}
use Rattle.loop_tree.specs.SpotView.{to_come}
use Rattle.loop_tree.specs.View.{trees_in}
use Rattle.tile_events.specs.Sound.{Holds}
use Rattle.tile_core.specs.Plans.{deal_of, scan_in, walk_shape}
use Rattle.tile_core.specs.Workers.{staged}
use Rattle.tile_core.proofs.Workers.{at_work, next_is}
use Rattle.tile_core.proofs.worker.Worker.pass_rounds.Goals as goal

pub instances-size-requires-clause-tile : goal.instances-size-requires-clause-tile
instances-size-requires-clause-tile c =
    c.requires.worker.tile c.in-Working.tile
    (subst (λ s. Holds (staged s c.args.self.now.reads.items) c.in-Working.tile) (sym c.in-Working.is) refl)

pub overflow_mul-count : goal.overflow_mul-count
overflow_mul-count c =
    let within = c.requires.woven.within c.in-Working.tile c.in-Working.done c.in-Working.is in
    let size = c.instances-size.ensures in
    let fits = c.instances-size.type_inv in
    let room : c.args.rounds * c.args.self.now.spot.braid.count < 18446744073709551616 = omega (arith, within, size, fits) in
    search rules

pub overflow_add-count : goal.overflow_add-count
overflow_add-count c =
    let within = c.requires.woven.within c.in-Working.tile c.in-Working.done c.in-Working.is in
    let size = c.instances-size.ensures in
    let fits = c.instances-size.type_inv in
    let room : 1 + c.args.rounds * c.args.self.now.spot.braid.count < 18446744073709551616 = omega (arith, within, size, fits) in
    search rules

pub overflow_add-self : goal.overflow_add-self
overflow_add-self c =
    let within = c.requires.woven.within c.in-Working.tile c.in-Working.done c.in-Working.is in
    let size = c.instances-size.ensures in
    let fits = c.instances-size.type_inv in
    let room : c.in-Working.done + (1 + c.args.rounds * c.args.self.now.spot.braid.count) < 18446744073709551616 = omega (arith, within, size, fits) in
    search rules

pub overflow_add-done : goal.overflow_add-done
overflow_add-done c =
    let within = c.requires.woven.within c.in-Working.tile c.in-Working.done c.in-Working.is in
    let size = c.instances-size.ensures in
    let fits = c.instances-size.type_inv in
    let room : c.in-Working.done + (1 + c.args.rounds * c.args.self.now.spot.braid.count) < 18446744073709551616 = omega (arith, within, size, fits) in
    search rules

pub returns-then-done-count-clause-worker : goal.returns-then-done-count-clause-worker
returns-then-done-count-clause-worker c =
    let plan = c.args.plan.now in
    let w = c.args.self.now in
    let t = c.in-Working.tile in
    let k = c.in-Working.done in
    let passed = k + (1 + c.args.rounds * w.spot.braid.count) in
    let ts = trees_in plan.tree.now in
    let start = (deal_of plan).start t in
    let less = c.requires.worker.tile t (subst (λ s. Holds (staged s w.reads.items) t) (sym c.in-Working.is) refl) in
    let within = c.requires.woven.within t k c.in-Working.is in
    let here = c.requires.worker.next t k c.in-Working.is (omega (arith, within)) in
    let behind : to_come ts plan.params.now c.leave_braid.new.spot ≡ drop (start + passed) (scan_in plan) =
    c.leave_braid.ensures.rest ts plan.params.now c.requires.worker.spot
    ∙ (ap (drop (c.args.rounds * w.spot.braid.count)) here.behind
    ∙ (drop-drop (c.args.rounds * w.spot.braid.count) (suc (start + k)) (scan_in plan)
    ∙ ap (λ n. drop n (scan_in plan)) (omega arith))) in
    at_work plan _ t passed refl c.next-self.ensures.spot c.requires.worker.desk c.requires.worker.desks less
    (λ left. next_is plan (start + passed) c.next-self.result c.leave_braid.new.spot c.next-self.new.self behind
    c.next-self.ensures.rest c.next-self.ensures.none.0)

pub returns-else-done-count-clause-worker : goal.returns-else-done-count-clause-worker
returns-else-done-count-clause-worker c =
    let plan = c.args.plan.now in
    let w = c.args.self.now in
    let t = c.in-Working.tile in
    let k = c.in-Working.done in
    let passed = k + (1 + c.args.rounds * w.spot.braid.count) in
    let less = c.requires.worker.tile t (subst (λ s. Holds (staged s w.reads.items) t) (sym c.in-Working.is) refl) in
    let size = c.instances-size.ensures in
    let none = c.if-done-count.false in
    at_work plan _ t passed refl c.requires.worker.spot c.requires.worker.desk c.requires.worker.desks less
    (λ (left : passed < (walk_shape plan).size t). absurd (omega (arith, left, size, none)))
