use Rattle.scop_syntax.proofs.Common.{arith, rules, ◌+◌, ◌<◌, refl, subst, sym}
use Rattle.tile_events.specs.Sound.{Holds}
use Rattle.tile_core.specs.Plans.{deal_of, walk_shape}
use Rattle.tile_list.specs.Stretches.{HasRounds}
use Rattle.tile_core.specs.Stretches.{IsWoven}
use Rattle.tile_core.specs.Workers.{IsNext, staged}
use Rattle.tile_core.proofs.Rounds.{woven_is}
use Rattle.tile_core.proofs.worker.Worker.rounds.Goals as goal

pub instances-requires-clause-tile : goal.instances-requires-clause-tile
instances-requires-clause-tile c =
    c.requires.worker.tile c.in-Working.tile
    (subst (λ s. Holds (staged s c.args.self.now.reads.items) c.in-Working.tile) (sym c.in-Working.is) refl)

pub returns-in-Some : goal.returns-in-Some
returns-in-Some c some =
    let plan = c.args.plan.now in
    let w = c.args.self.now in
    let t = c.in-Working.tile in
    let k = c.in-Working.done in
    let rounds = c.rounds_within.result in
    let left : k < (walk_shape plan).size t = search rules in
    let next = c.in-Some.ensures.next in
    let none = c.if-self-gt0.false in
    let same = c.rounds_within.ensures.rounds some in
    let within = c.rounds_within.ensures.within some in
    let size = c.instances.ensures in
    let more : 0 < c.rounds_left-rounds.result = omega (arith, same, some) in
    let has = subst (HasRounds w.spot.braid) (sym same) (c.rounds_left-rounds.ensures.rounds more) in
    subst (λ o. IsWoven plan w.stage o w.spot rounds) (sym next)
    (woven_is plan w.stage t k c.in-Some.field-0.now w.spot rounds c.requires.plan c.in-Working.is left
    (subst (λ o. IsNext plan ((deal_of plan).start t + k) o w.spot) next
    (c.requires.worker.next t k c.in-Working.is left)) (omega (arith, none)) (c.rounds_left-rounds.ensures.strands more) c.requires.worker.spot.braid.few has
    some (omega (arith, within, size)))
