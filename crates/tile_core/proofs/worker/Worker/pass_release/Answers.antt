use Rattle.scop_syntax.proofs.Common.{rules, ◌+◌, ◌<◌, arith, refl, subst, sym}
use Rattle.tile_events.specs.Sound.{Holds}
use Rattle.tile_core.specs.Plans.{walk_shape}
use Rattle.tile_core.specs.Workers.{staged}
use Rattle.tile_core.proofs.Successors.{acts_fit}
use Rattle.tile_core.proofs.Workers.{at_work}
use Rattle.tile_core.proofs.worker.Worker.pass_release.Goals as goal

pub overflow_add-self : goal.overflow_add-self
overflow_add-self c =
    let plan = c.args.plan.now in
    let t = c.in-Working.tile in
    let less = c.requires.worker.tile t
    (subst (λ s. Holds (staged s c.args.self.now.reads.items) t) (sym c.in-Working.is) refl) in
    let left = c.requires.left t c.in-Working.done c.in-Working.is in
    let from = left.0 in
    let to = left.1 in
    let fits = acts_fit plan c.requires.plan t less (omega (arith, from, to)) in
    let room : c.in-Working.done + 1 < 18446744073709551616 = omega (arith, to, fits) in
    search rules

pub returns-clause-worker : goal.returns-clause-worker
returns-clause-worker c =
    let plan = c.args.plan.now in
    let t = c.in-Working.tile in
    let k = c.in-Working.done in
    let less = c.requires.worker.tile t
    (subst (λ s. Holds (staged s c.args.self.now.reads.items) t) (sym c.in-Working.is) refl) in
    let from = (c.requires.left t k c.in-Working.is).0 in
    at_work plan _ t (k + 1) refl c.requires.worker.spot c.requires.worker.desk c.requires.worker.desks less
    (λ (left : k + 1 < (walk_shape plan).size t). absurd (omega (arith, left, from)))
