use Rattle.scop_syntax.proofs.Common.{[], ap, length, refl, sym}
use Rattle.planner_callers.proofs.writers.joins_in_kernels_without_parameters.Goals as goal

pub returns : goal.returns
returns c = λ way program j w b cell point trees deps is none touches all only solved.
    let join = c.joins_are_the_writers.ensures way program [] j w b cell (length point) point trees deps is in
    join (sym (ap length none)) tt touches refl all only solved
