use Rattle.scop_syntax.proofs.Common.{[]}
use Rattle.planner_callers.proofs.writers.minima_in_kernels_without_parameters.Goals as goal

pub returns : goal.returns
returns c = λ way program j w b cell dep p number loops t has touches candidate one answers.
    let minimum = c.minima_are_the_writers.ensures way program [] j w b cell dep p number loops t in
    minimum has touches candidate one answers
