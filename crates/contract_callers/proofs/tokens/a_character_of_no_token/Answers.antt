use Rattle.scop_syntax.proofs.Common.{inl, inr, codes}
use Rattle.contract_callers.proofs.LexedTexts.{at_front, refused}
use Rattle.contract_callers.proofs.tokens.a_character_of_no_token.Goals as goal

pub returns-clause-fault : goal.returns-clause-fault
returns-clause-fault c = λ fault has. c.first_fault_is_unique.ensures (codes "@") fault at_front has refused

pub returns-clause-none : goal.returns-clause-none
returns-clause-none c = λ ts has. c.tokens_exclude_a_fault.ensures (codes "@") ts at_front has refused

pub returns-clause-tokens : goal.returns-clause-tokens
returns-clause-tokens c = λ text none.
    elim (c.text_has_tokens_or_a_fault.ensures text) [
      | inl found ↦ found
      | inr fault ↦ absurd (none fault.0 fault.1)
    ]
