use Rattle.scop_syntax.proofs.Common.{drop, take, map}
use Rattle.schedule_rows.specs.Schedule.{marked_of}
use Rattle.pluto_search.specs.Questions.{AnswersRestricted}
use Rattle.pluto_search.proofs.RestrictedDependences.{Leads}
use Rattle.pluto_search.proofs.restricting.restrict_all.Given as goal

abbrev pub invariant-loop-at : goal.invariant-loop-at
invariant-loop-at l =
    Leads l.parameters (map marked_of l.rows) (drop l.at l.deps) l.kept.items l.deps
    × AnswersRestricted l.parameters (map marked_of l.rows) l.budget (take l.at l.deps)
