use Rattle.scop_syntax.proofs.Common.{[], ◌∷◌, subst, sym, arith, pos, negsuc, ◌-ℤ◌, ints, condition_at, falling}
use Rattle.scop_syntax.specs.Examples.{form, head}
use Rattle.scop_syntax.specs.Walk.{Falls}
use Rattle.contract_callers.proofs.walks.turns_of_a_falling_loop.Goals as goal

pub returns-clause-falls : goal.returns-clause-falls
returns-clause-falls c = λ h is.
    subst (λ h. Falls (λ k. condition_at h [] (pos k))) (sym is)
    (c.loops_walk_while_their_condition_holds.ensures.falls
    (head (pos 3) (negsuc 1) (form (pos 1 ∷ []) (negsuc 0))) [] falling.kernel.body.0.1)

pub returns-clause-ends : goal.returns-clause-ends
returns-clause-ends c = λ condition falls.
    let run = c.loops_walk_while_their_condition_holds.ensures.ends condition falls in (run.0, run.1.fails)

pub returns-clause-turns : goal.returns-clause-turns
returns-clause-turns c = λ body.
    c.loops_walk_while_their_condition_holds.ensures.turns (λ k. pos 1 -ℤ pos k) body 2 (λ k. omega (arith, ints))
    (record { holds = λ k less. omega (arith, ints, less); fails = omega (arith, ints) })
