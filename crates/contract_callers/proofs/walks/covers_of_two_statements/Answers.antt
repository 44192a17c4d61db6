use Rattle.scop_syntax.proofs.Common.{[], ◌∷◌, inl, inr, pos, refl, suc, zero, walk_of}
use Rattle.conflict_deps.specs.Examples.{two}
use Rattle.contract_callers.proofs.walks.covers_of_two_statements.Goals as goal

pub returns-clause-none : goal.returns-clause-none
returns-clause-none c (inl (zero, last)) = absurd cc
returns-clause-none c (inl (suc zero, last)) = absurd cc
returns-clause-none c (inl (suc (suc a), last)) = absurd cc
returns-clause-none c (inr (zero, next)) = absurd cc
returns-clause-none c (inr (suc r, next)) = absurd cc

pub returns-clause-covers : goal.returns-clause-covers
returns-clause-covers c =
    c.conflicts_are_chains_of_covers.ensures.covers (walk_of two (pos 2 ∷ [])) 1 2 (inr (0, refl))

pub returns-clause-closure : goal.returns-clause-closure
returns-clause-closure c = λ i j. c.conflicts_are_chains_of_covers.ensures.closure (walk_of two (pos 2 ∷ [])) i j

pub returns-clause-rises : goal.returns-clause-rises
returns-clause-rises c = λ cell j. c.conflicts_are_chains_of_covers.ensures.rises (walk_of two (pos 2 ∷ [])) cell 1 j
