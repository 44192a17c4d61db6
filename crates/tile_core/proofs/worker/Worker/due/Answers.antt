use Rattle.scop_syntax.proofs.Common.{refl, rules, subst, sym, ◌<◌, MatchOption}
use Rattle.tile_events.specs.Sound.{Holds}
use Rattle.tile_core.specs.Plans.{walk_shape}
use Rattle.tile_core.specs.Workers.{HasNoneDue, IsDue, staged}
use Rattle.tile_core.proofs.Workers.{due_is, lent}
use Rattle.tile_core.proofs.worker.Worker.due.Goals as goal

pub instances-requires-clause-tile : goal.instances-requires-clause-tile
instances-requires-clause-tile c =
    c.requires.worker.tile c.in-Working.tile
    (subst (λ s. Holds (staged s c.args.self.now.reads.items) c.in-Working.tile) (sym c.in-Working.is) refl)

pub returns-then-done-instances-clause-due : goal.returns-then-done-instances-clause-due
returns-then-done-instances-clause-due c =
    let plan = c.args.plan.now in
    let w = c.args.self.now in
    let less = c.requires.worker.tile c.in-Working.tile
    (subst (λ s. Holds (staged s w.reads.items) c.in-Working.tile) (sym c.in-Working.is) refl) in
    let left : c.in-Working.done < (walk_shape plan).size c.in-Working.tile = search rules in
    lent plan w.stage c.as_ref.result
    (subst (λ o. MatchOption o (HasNoneDue plan w.stage) (IsDue plan w.stage)) (sym c.as_ref.ensures.value)
    (due_is plan w.stage c.in-Working.tile c.in-Working.done w.next w.spot c.requires.plan
    (c.plans_are_good.ensures.scan plan c.requires.plan) (c.plans_are_good.ensures.count plan c.requires.plan)
    c.in-Working.is less left (c.requires.worker.next c.in-Working.tile c.in-Working.done c.in-Working.is left)))
