-- What may stand behind a form.
use Rattle.whole_numbers.proofs.Common.{◌≡◌, ◌∙◌, ap, refl, ℕ, ◌++◌, codes, None}
use Rattle.std.specs.Prelude.{option_map}
use Rattle.std.proofs.lemmas.List.{append_assoc}
use Rattle.scop_lexer.specs.Bytes.{Text}
use Rattle.form_text.specs.Numerals.{numeral}
use Rattle.form_text.specs.Reading.{term_in_front, factor_in_front, minus, EndsForm}
use Rattle.form_text.proofs.Terms.{number_back}

pub ends_nothing : EndsForm (codes "")
unfolding term_in_front
ends_nothing = record { factor = refl; term = refl }

pub ends_at_least : (rest : Text) → EndsForm (codes " >= 0" ++ rest)
unfolding term_in_front
ends_at_least rest = record { factor = refl; term = refl }

pub ends_equal : (rest : Text) → EndsForm (codes " == 0" ++ rest)
unfolding term_in_front
ends_equal rest = record { factor = refl; term = refl }

pub ends_comma : (rest : Text) → EndsForm (codes "," ++ rest)
unfolding term_in_front
ends_comma rest = record { factor = refl; term = refl }

pub ends_parenthesis : (rest : Text) → EndsForm (codes ")" ++ rest)
unfolding term_in_front
ends_parenthesis rest = record { factor = refl; term = refl }

pub ends_bracket : (rest : Text) → EndsForm (codes "]" ++ rest)
unfolding term_in_front
ends_bracket rest = record { factor = refl; term = refl }

pub ends_semicolon : (rest : Text) → EndsForm (codes ";" ++ rest)
unfolding term_in_front
ends_semicolon rest = record { factor = refl; term = refl }

pub ends_divisor : (rest : Text) → EndsForm (codes " / " ++ rest)
unfolding term_in_front
ends_divisor rest = record { factor = refl; term = refl }

-- a call is no name, so a product with one is no term
call_is_no_factor : (d : ℕ) (rest : Text) → factor_in_front (numeral d ++ codes "*pp_floord(" ++ rest) ≡ None
call_is_no_factor d rest =
    ap factor_in_front (append_assoc (numeral d) (codes "*pp_floord(") rest)
    ∙ number_back d (codes "*pp_floord(" ++ rest) refl

pub ends_multiple : (d : ℕ) (rest : Text) → EndsForm (codes " - " ++ numeral d ++ codes "*pp_floord(" ++ rest)
unfolding term_in_front
ends_multiple d rest = record { factor = refl; term = ap (option_map minus) (call_is_no_factor d rest) }
