-- What is put so far, and the terms to come, are those of the whole form.
use Rattle.whole_numbers.proofs.Common.{◌≡◌, ◌++◌, map, drop, true}
use Rattle.form_text.specs.Forms.{terms_text}
use Rattle.form_text.proofs.form_writer.put_form.Given as goal

abbrev pub invariant-loop-at : goal.invariant-loop-at
invariant-loop-at l = l.out.items
    ++ terms_text l.front (map (λ n. n.items) (drop l.at l.names)) (drop l.at l.coefficients) l.constant
    ≡ l.fn.out.items ++ terms_text true (map (λ n. n.items) l.names) l.coefficients l.constant
