use Rattle.scop_syntax.proofs.Common.{◌≡◌, drop, map, All}
use Rattle.schedule_rows.specs.Next.{restricted}
use Rattle.schedule_rows.specs.Schedule.{marked_of}
use Rattle.pluto_search.specs.steps.Sizes.{CanTell}
use Rattle.pluto_search.proofs.restricting.restricted.Given as goal

abbrev pub invariant-loop-marked : goal.invariant-loop-marked
invariant-loop-marked l =
    (restricted l.parameters (map marked_of (drop l.marked-index l.rows)) l.equal
    ≡ restricted l.parameters (map marked_of l.rows) l.dep)
    × All (λ r. CanTell l.parameters r.row l.equal) (map marked_of l.rows)
