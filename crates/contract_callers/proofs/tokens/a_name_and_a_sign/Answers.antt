use Rattle.scop_syntax.proofs.Common.{subst, sym, codes}
use Rattle.scop_lexer.specs.Tokens.{HasTokens}
use Rattle.contract_callers.proofs.LexedTexts.{lexed, name_and_sign}
use Rattle.contract_callers.proofs.tokens.a_name_and_a_sign.Goals as goal

pub returns-clause-has : goal.returns-clause-has
returns-clause-has c = λ ts is. subst (HasTokens (codes "x;")) (sym is) lexed

pub returns-clause-tokens : goal.returns-clause-tokens
returns-clause-tokens c = λ ts has. c.tokens_are_unique.ensures (codes "x;") ts name_and_sign has lexed

pub returns-clause-sound : goal.returns-clause-sound
returns-clause-sound c = λ fault has. c.tokens_exclude_a_fault.ensures (codes "x;") name_and_sign fault lexed has
