use Rattle.c_meaning.proofs.FormWorths.{tree_form_worth}
use Rattle.c_meaning.proofs.laws.printed_forms_are_worth_their_values.Goals as goal

pub returns : goal.returns
returns c = record { form = tree_form_worth }
