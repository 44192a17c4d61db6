-- The next token tells the name.
use Rattle.scop_syntax.proofs.Common.{◌∙◌}
use Rattle.data_lines.proofs.HeadLemmas.{name_of_token, no_name_of_fault, no_name_of_gap}
use Rattle.data_lines.proofs.head.name_len.Goals as goal

pub returns-in-Ok-Some-clause-value : goal.returns-in-Ok-Some-clause-value
returns-in-Ok-Some-clause-value c =
    let next = rw c.in-Ok-Some.field-0-is at c.in-Ok-Some.ensures.next in
    c.name_end.ensures ∙ name_of_token c.args.text.now c.in-Ok-Some.token next

pub returns-in-Ok-None-clause-value : goal.returns-in-Ok-None-clause-value
returns-in-Ok-None-clause-value c =
    let next = rw c.in-Ok-None.field-0-is at c.in-Ok-None.ensures.next in
    no_name_of_gap c.args.text.now next

pub returns-in-Err-clause-value : goal.returns-in-Err-clause-value
returns-in-Err-clause-value c = no_name_of_fault c.args.text.now _ c.in-Err.ensures.fault
