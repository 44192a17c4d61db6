use Rattle.schedule_rows.specs.Measure.{measure}
use Rattle.pluto_search.specs.Questions.{Answered}
use Rattle.pluto_search.specs.steps.Steps.{state_of, IsOf}
use Rattle.pluto_search.proofs.searching.run.Given as goal

abbrev pub invariant-loop-kept : goal.invariant-loop-kept
invariant-loop-kept l =
    IsOf l.search l.progress
    × Answered l.search.parameters l.search.loops.now l.search.budget l.deps (state_of l.progress)

abbrev pub decreases-loop-kept : goal.decreases-loop-kept
decreases-loop-kept l = measure l.search.loops.now (state_of l.progress)
