use Rattle.scop_syntax.proofs.Common.{take, ℤ, List, All}
use Rattle.pip_solver.specs.Emptiness.{IsBoundedPoint}
use Rattle.polypar.proofs.index_check.all_have_none.Given as goal

abbrev pub invariant-loop-system : goal.invariant-loop-system
invariant-loop-system l = All (λ c. (x p : List ℤ) → IsBoundedPoint c x p → ⊥) (take l.system-index l.systems)
