use Rattle.scop_syntax.proofs.Common.{ℕ, refl, arith}
use Rattle.scop_expressions.specs.Grammar.{Spells}
use Rattle.scop_expressions.specs.Tree.{name, tokens_of}
use Rattle.contract_callers.proofs.grammars.a_name_alone.Goals as goal

-- the tokens spell it
spells : (d n : ℕ) → Spells d n (tokens_of name) name
spells d n =
    record {
      expression = record { brackets = tt; rank = omega arith };
      within = record { depth = omega arith; operators = omega arith };
      tokens = refl;
    }

pub returns-clause-read : goal.returns-clause-read
returns-clause-read c = λ d n. c.expressions_are_read.ensures d n (tokens_of name) name (spells d n)

pub returns-clause-one : goal.returns-clause-one
returns-clause-one c = λ d n t is. c.tokens_spell_one_tree.ensures d n (tokens_of name) t name is (spells d n)
