-- Reading what stands in front of a text: given bytes, digits, names, terms and forms.
use Rattle.std.specs.Prelude.{◌≡◌, ℕ, zero, suc, ◌+◌, ◌-◌, ◌*◌, ◌==◌, ◌||◌, not, Bool, true, false}
use Rattle.std.specs.Prelude.{if◌then◌else◌, ℤ, pos, negsuc, List, [], ◌∷◌, codes, Option, Some, None, option_map}
use Rattle.std.specs.Str.{bytes_eq}
use Rattle.whole_numbers.specs.Affine.{Affine, form_of}
use Rattle.scop_lexer.specs.Bytes.{Text, is_digit}
use Rattle.form_text.specs.Names.{is_name_byte}

-- what stands behind given bytes
abbrev pub strip : Text → Text → Option Text
strip [] text = Some text
strip (p ∷ ps) [] = None
strip (p ∷ ps) (b ∷ bs) = if p == b then strip ps bs else None

-- go on with what was read
abbrev pub when : {A B : Type 0} → Option A → (A → Option B) → Option B
when None f = None
when (Some a) f = f a

-- the number that the digits in front write behind those of v
abbrev pub number_in_front : ℕ → Text → ℕ
number_in_front v [] = v
number_in_front v (b ∷ bs) = if is_digit b then number_in_front (v * 10 + (b - 48)) bs else v

-- what stands behind the digits in front
abbrev pub behind_digits : Text → Text
behind_digits [] = []
behind_digits (b ∷ bs) = if is_digit b then behind_digits bs else b ∷ bs

-- the longest run of bytes of names
abbrev pub name_in_front : Text → Text
name_in_front [] = []
name_in_front (b ∷ bs) = if is_name_byte b then b ∷ name_in_front bs else []

-- what stands behind it
abbrev pub behind_name : Text → Text
behind_name [] = []
behind_name (b ∷ bs) = if is_name_byte b then behind_name bs else b ∷ bs

-- a number, a name (none: the number is a constant), and what stands behind
pub record Factor : Type 0 where
  pub number : ℕ
  pub name : Text
  pub rest : Text

abbrev pub factor_of : ℕ → Text → Text → Factor
factor_of m name rest = record { number = m; name = name; rest = rest }

-- the same with a sign
pub record Term : Type 0 where
  pub coefficient : ℤ
  pub name : Text
  pub rest : Text

abbrev pub term_of : ℤ → Text → Text → Term
term_of c name rest = record { coefficient = c; name = name; rest = rest }

-- m times a name, unless it is called
abbrev pub named_as : ℕ → Text → Text → Option Factor
named_as m [] rest = None
named_as m (b ∷ bs) [] = Some (factor_of m (b ∷ bs) [])
named_as m (b ∷ bs) (r ∷ rs) = if r == 40 then None else Some (factor_of m (b ∷ bs) (r ∷ rs))

-- m times the name in front
abbrev pub named : ℕ → Text → Option Factor
named m text = named_as m (name_in_front text) (behind_name text)

-- m times the name behind `*`, or m alone
abbrev pub numbered : ℕ → Text → Option Factor
numbered m [] = Some (factor_of m [] [])
numbered m (b ∷ bs) = if b == 42 then named m bs else Some (factor_of m [] (b ∷ bs))

-- a number, a number times a name, or a name
abbrev pub factor_in_front : Text → Option Factor
factor_in_front [] = None
factor_in_front (b ∷ bs) =
    if is_digit b then numbered (number_in_front 0 (b ∷ bs)) (behind_digits (b ∷ bs)) else named 1 (b ∷ bs)

-- -m
abbrev pub negative : ℕ → ℤ
negative zero = pos zero
negative (suc m) = negsuc m

-- a factor as a term
abbrev pub plus : Factor → Term
plus f = term_of (pos f.number) f.name f.rest

-- the negative of a factor as a term
abbrev pub minus : Factor → Term
minus f = term_of (negative f.number) f.name f.rest

-- a term in front of all terms, by what stands behind `-`
abbrev pub first_term : Option Text → Text → Option Term
first_term (Some behind) text = option_map minus (factor_in_front behind)
first_term None text = option_map plus (factor_in_front text)

-- a term behind others, by what stands behind ` + ` and ` - `
abbrev pub later_term : Option Text → Option Text → Option Term
later_term (Some behind) other = option_map plus (factor_in_front behind)
later_term None (Some behind) = option_map minus (factor_in_front behind)
later_term None None = None

-- the term that stands in front of all terms, or behind others
unfoldable pub term_in_front : Bool → Text → Option Term
term_in_front true text = first_term (strip (codes "-") text) text
term_in_front false text = later_term (strip (codes " + ") text) (strip (codes " - ") text)

-- what is read for a name: its coefficient, whether no term was read yet, and what stands behind
pub record Next : Type 0 where
  pub coefficient : ℤ
  pub front : Bool
  pub rest : Text

abbrev pub next_of : ℤ → Bool → Text → Next
next_of c front rest = record { coefficient = c; front = front; rest = rest }

-- the coefficient of the term in front, if it has this name, or 0
abbrev pub next_in : Bool → Text → Text → Option Term → Next
next_in front name text None = next_of (pos 0) front text
next_in front name text (Some t) =
    if bytes_eq t.name name then next_of t.coefficient false t.rest else next_of (pos 0) front text

-- the constant ends a form; without any term there is none
abbrev pub ended : Next → Option (Affine × Text)
ended n = if n.front then None else Some (form_of [] n.coefficient, n.rest)

-- a form with one coefficient more in front
abbrev pub with_coefficient : ℤ → Option (Affine × Text) → Option (Affine × Text)
with_coefficient c r = when r (λ f. Some (form_of (c ∷ f.0.coefficients) f.0.constant, f.1))

-- a term for each name, or 0 where it is left out; then the constant, or 0
abbrev pub read_terms : Bool → List Text → Text → Option (Affine × Text)
read_terms front [] text = ended (next_in front [] text (term_in_front front text))
read_terms front (name ∷ names) text = let n = next_in front name text (term_in_front front text) in
    with_coefficient n.coefficient (read_terms n.front names n.rest)

-- the form over these names that stands in front of a text, and what stands behind it
unfoldable pub read_form : List Text → Text → Option (Affine × Text)
read_form names text = read_terms true names text

-- no byte in front goes on with a number or a name, calls it or multiplies it
abbrev pub ends_factor : Text → Bool
ends_factor [] = true
ends_factor (b ∷ bs) = not (is_name_byte b || (b == 40 || b == 42))

-- what may stand behind a form: what goes on with no number or name, and is no further term
pub record EndsForm (rest : Text) : Type 0 where
  pub factor : ends_factor rest ≡ true
  pub term : term_in_front false rest ≡ None
