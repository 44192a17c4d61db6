use Rattle.scop_syntax.proofs.Common.{◌≡◌, ◌-◌, ◌++◌, drop, take}
use Rattle.tile_skew.specs.steps.Listed.{rows_in}
use Rattle.tile_skew.proofs.items.first_band.Given as goal

abbrev pub invariant-loop-at : goal.invariant-loop-at
invariant-loop-at l =
    l.rows.items
    ++ rows_in (take (l.behind - l.at) (drop l.at l.schedule.items)) (drop l.at l.schedule.parallel) l.k
    ≡ rows_in (take (l.behind - l.first) (drop l.first l.schedule.items)) (drop l.first l.schedule.parallel) l.k
