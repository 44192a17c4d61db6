-- The coefficients so far, in front of what is still read, are those of all.
use Rattle.whole_numbers.proofs.Common.{◌≡◌, map, drop, true}
use Rattle.std.specs.Prelude.{option_map}
use Rattle.form_text.specs.Reading.{read_terms}
use Rattle.form_text.specs.View.{nearest_form}
use Rattle.form_text.proofs.StrippedFronts.{joined}
use Rattle.form_text.proofs.form_reader.read_form.Given as goal

abbrev pub invariant-loop-at : goal.invariant-loop-at
invariant-loop-at l = joined l.coefficients.items
    (option_map nearest_form (read_terms l.front (map (λ n. n.items) (drop l.at l.names)) l.rest))
    ≡ option_map nearest_form (read_terms true (map (λ n. n.items) l.names) l.text)
