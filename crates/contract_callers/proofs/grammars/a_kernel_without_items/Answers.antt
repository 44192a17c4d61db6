use Rattle.scop_syntax.proofs.Common.{ℕ, subst, refl, arith}
use Rattle.scop_grammar.specs.Claims.{IsAnswer}
use Rattle.scop_grammar.specs.Kernel.{Spells, kernel_elements, spelled}
use Rattle.contract_callers.specs.Worked.{bare}
use Rattle.contract_callers.proofs.grammars.a_kernel_without_items.Goals as goal

-- the tokens spell it
spells : (d n : ℕ) → Spells d n (spelled (kernel_elements bare)) bare
spells d n = record { fits = record { first = tt; others = tt; items = tt }; tokens = refl }

pub returns-clause-read : goal.returns-clause-read
returns-clause-read c = λ d n. c.kernels_are_read.ensures d n (spelled (kernel_elements bare)) bare (spells d n)

pub returns-clause-one : goal.returns-clause-one
returns-clause-one c = λ d n k is.
    c.tokens_spell_one_kernel.ensures d n (spelled (kernel_elements bare)) k bare is (spells d n)

pub returns-clause-answer : goal.returns-clause-answer
returns-clause-answer c = λ n ts ps is.
    subst (IsAnswer 1 n ts) is (c.answers_tell_the_grammar.ensures 1 n ts (omega arith))
