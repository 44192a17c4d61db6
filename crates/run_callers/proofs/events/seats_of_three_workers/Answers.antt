use Rattle.scop_syntax.proofs.Common.{ap, arith, inl, refl, get_elem?, nat_eq, if◌then◌else◌}
use Rattle.tile_events.specs.Core.{ended, idle}
use Rattle.tile_events.specs.Example.{two}
use Rattle.tile_events.specs.Rule.{unmoved}
use Rattle.run_callers.proofs.events.seats_of_three_workers.Goals as goal

pub returns-clause-split : goal.returns-clause-split
returns-clause-split c = c.seats_are_allowed.ensures.split two 3 (λ v. idle) (λ v. v) (λ v. unmoved) 0 3 1 2 refl refl refl refl
    (omega arith) refl refl

pub returns-clause-join : goal.returns-clause-join
returns-clause-join c =
    c.seats_are_allowed.ensures.join two 3 (λ v. if nat_eq v 0 then idle else ended) (λ v. v) (λ v. unmoved) 0 1 1 2 3 0
    tt tt tt refl refl refl (λ over. inl refl) (omega arith) refl refl

pub returns-clause-end : goal.returns-clause-end
returns-clause-end c = λ s held one.
    c.seats_are_allowed.ensures.end two 3 (λ v. ended) (λ v. v) (λ v. unmoved) s 0 3 held (ap (λ vs. get_elem? vs 0) one) refl refl 1
    (omega arith)
