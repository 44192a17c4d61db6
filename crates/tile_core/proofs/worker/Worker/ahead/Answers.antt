use Rattle.scop_syntax.proofs.Common.{refl, rules, subst, sym, ◌+◌, ◌-◌, ◌<◌}
use Rattle.tile_events.specs.Sound.{Holds}
use Rattle.tile_core.specs.Plans.{deal_of, walk_shape}
use Rattle.tile_core.specs.Stretches.{IsAhead, IsPart}
use Rattle.tile_core.specs.Workers.{IsNext, staged}
use Rattle.tile_core.proofs.Stretches.{ahead_is}
use Rattle.tile_core.proofs.worker.Worker.ahead.Goals as goal

pub instances-requires-clause-tile : goal.instances-requires-clause-tile
instances-requires-clause-tile c =
    c.requires.worker.tile c.in-Working.tile
    (subst (λ s. Holds (staged s c.args.self.now.reads.items) c.in-Working.tile) (sym c.in-Working.is) refl)

pub returns-in-Some-clause-ahead : goal.returns-in-Some-clause-ahead
returns-in-Some-clause-ahead c some =
    let plan = c.args.plan.now in
    let w = c.args.self.now in
    let t = c.in-Working.tile in
    let k = c.in-Working.done in
    let left : k < (walk_shape plan).size t = search rules in
    let count = c.along.result in
    let next = c.in-Some.ensures.next in
    let here = subst (λ o. IsNext plan ((deal_of plan).start t + k) o w.spot) next
    (c.requires.worker.next t k c.in-Working.is left) in
    subst (λ o. IsAhead plan w.stage o w.spot.stretch count) (sym next)
    (ahead_is plan w.stage t k c.in-Some.instance.now w.spot count c.requires.plan c.in-Working.is left here
    c.along.ensures.some (subst (λ n. IsPart (n - k) w.spot.stretch.left count) c.instances.ensures c.along.ensures.part)
    c.along.ensures.along)
