-- What was put so far and the forms to come are all forms.
use Rattle.whole_numbers.proofs.Common.{◌≡◌, ◌++◌, drop}
use Rattle.quast_text.specs.Text.{forms_from, texts_of}
use Rattle.quast_text.proofs.writer.put_forms.Given as goal

abbrev pub invariant-loop-at : goal.invariant-loop-at
invariant-loop-at l =
    l.out.items ++ forms_from (texts_of l.names) l.at (drop l.at l.forms)
    ≡ l.fn.out.items ++ forms_from (texts_of l.names) 0 l.forms
