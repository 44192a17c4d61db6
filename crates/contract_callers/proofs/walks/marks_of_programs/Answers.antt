use Rattle.scop_syntax.proofs.Common.{ℕ, ◌<◌, inl, refl, subst, Sorted}
use Rattle.contract_callers.proofs.walks.marks_of_programs.Goals as goal

pub returns-clause-sums : goal.returns-clause-sums
returns-clause-sums c = λ program a p marked there writes.
    (((c.marks_are_the_reduced_arrays.ensures.reduced program a).0 marked).adds p there).sum writes

pub returns-clause-all : goal.returns-clause-all
returns-clause-all c = λ program a is. (c.marks_are_the_reduced_arrays.ensures.reduced program a).1 is

pub returns-clause-rise : goal.returns-clause-rise
returns-clause-rise c = λ program a b are.
    (subst (Sorted (λ (x y : ℕ). x < y)) are (c.marks_are_the_reduced_arrays.ensures.rise program)).0 b (inl refl)
