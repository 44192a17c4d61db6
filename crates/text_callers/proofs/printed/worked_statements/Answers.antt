use Rattle.text_callers.proofs.printed.worked_statements.Goals as goal

pub returns : goal.returns
returns c = c.statements_and_their_texts.ensures
