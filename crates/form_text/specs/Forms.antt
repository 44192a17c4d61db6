-- The text of an affine form over names: the terms that are not zero, then the constant; `0` if there is none.
use Rattle.std.specs.Prelude.{ℕ, zero, suc, ◌==◌, ◌&&◌, Bool, true, false, if◌then◌else◌, ℤ, pos, negsuc}
use Rattle.std.specs.Prelude.{List, [], ◌∷◌, ◌++◌, codes, unsigned_abs}
use Rattle.whole_numbers.specs.Affine.{Affine}
use Rattle.scop_lexer.specs.Bytes.{Text}
use Rattle.form_text.specs.Numerals.{numeral}

-- m times a name, or m alone where there is no name
abbrev pub factor_text : ℕ → Text → Text
factor_text m [] = numeral m
factor_text m (b ∷ bs) = if m == 1 then b ∷ bs else numeral m ++ (42 ∷ b ∷ bs)

-- the sign of a term in front of all terms, or behind some
abbrev pub sign_text : Bool → ℤ → Text
sign_text true (pos m) = []
sign_text true (negsuc m) = codes "-"
sign_text false (pos m) = codes " + "
sign_text false (negsuc m) = codes " - "

-- c times a name, in front of all terms or behind some
abbrev pub signed_text : Bool → ℤ → Text → Text
signed_text front c name = sign_text front c ++ factor_text (unsigned_abs c) name

-- whether a number is 0
abbrev pub is_zero : ℤ → Bool
is_zero (pos zero) = true
is_zero (pos (suc m)) = false
is_zero (negsuc m) = false

-- the term of a name, which is left out where it is 0
abbrev pub term_text : Bool → ℤ → Text → Text
term_text front c name = if is_zero c then [] else signed_text front c name

-- the constant, which is left out where it is 0 behind terms
abbrev pub constant_text : Bool → ℤ → Text
constant_text front k = if is_zero k && front then codes "0" else term_text front k []

-- terms in the order of the names, then the constant
abbrev pub terms_text : Bool → List Text → List ℤ → ℤ → Text
terms_text front [] cs k = constant_text front k
terms_text front (name ∷ names) [] k = constant_text front k
terms_text front (name ∷ names) (c ∷ cs) k = term_text front c name ++ terms_text (is_zero c && front) names cs k

-- a form over names, one for each of its variables
unfoldable pub form_text : List Text → Affine → Text
form_text names form = terms_text true names form.coefficients form.constant
