use Rattle.scop_syntax.proofs.Common.{drop, take, map, All, true, In}
use Rattle.iteration_domains.specs.Dependence.{Dependence}
use Rattle.schedule_rows.specs.Dependences.{IsEmptyDep, above_at}
use Rattle.schedule_rows.specs.Schedule.{row_of}
use Rattle.pluto_systems.specs.Posing.{dep_of}
use Rattle.pluto_search.specs.Questions.{AnswersMark}
use Rattle.pluto_search.proofs.rows.is_parallel.Given as goal

abbrev pub invariant-loop-at : goal.invariant-loop-at
invariant-loop-at l =
    (((d : Dependence) → In d (map dep_of (drop l.at l.ruled)) → IsEmptyDep l.search.parameters
    (above_at l.search.parameters (row_of l.row) d))
    → (d : Dependence) → In d (map dep_of l.ruled)
    → IsEmptyDep l.search.parameters (above_at l.search.parameters (row_of l.row) d))
    × All (λ x. AnswersMark l.search.parameters (row_of l.row) l.search.budget true x.dep) (take l.at l.ruled)
