-- The plain data that the reader's answers stand for. Code reads numbers up to 2^128 - 1, which stands for more, too,
-- and coefficients of 128 bits, of which the least and the greatest stand for those beyond them.
use Rattle.std.specs.Prelude.{ℕ, ◌-◌, ◌^◌, min, ℤ, pos, negsuc, List, map, Option, Some, None, option_map}
use Rattle.std.specs.Borrow.{Bor}
use Rattle.whole_numbers.specs.Affine.{Affine, form_of}
use Rattle.scop_lexer.specs.Bytes.{Text}
use Rattle.form_text.specs.Reading.{Factor, factor_of, Term, term_of, Next, next_of}
use Rattle.form_text.specs.declared.form_reader.Factor.{Factor as CodeFactor}
use Rattle.form_text.specs.declared.form_reader.Term.{Term as CodeTerm}
use Rattle.form_text.specs.declared.form_reader.Next.{Next as CodeNext}
use Rattle.form_text.specs.declared.form_reader.FormRead.{FormRead}

-- what stands behind, if anything was read
abbrev pub text_in : Option (Bor (List ℕ)) → Option Text
text_in (Some text) = Some text.now
text_in None = None

-- a number, or the greatest of 128 bits where it is more
abbrev pub saturated : ℕ → ℕ
saturated n = min n (2 ^ 128 - 1)

-- a factor with its number so
abbrev pub saturated_factor : Option Factor → Option Factor
saturated_factor None = None
saturated_factor (Some f) = Some (factor_of (saturated f.number) f.name f.rest)

-- a factor that was read
abbrev pub factor_read : CodeFactor → Factor
factor_read f = factor_of f.number f.name.now f.rest.now

-- a factor that was read, if any
abbrev pub factor_in : Option CodeFactor → Option Factor
factor_in (Some f) = Some (factor_read f)
factor_in None = None

-- the nearest number of 128 bits
abbrev pub nearest : ℤ → ℤ
nearest (pos n) = pos (min n (2 ^ 127 - 1))
nearest (negsuc n) = negsuc (min n (2 ^ 127 - 1))

-- a term with its coefficient so, what is read for a name, and a form
abbrev pub nearest_term : Term → Term
nearest_term t = term_of (nearest t.coefficient) t.name t.rest

abbrev pub nearest_next : Next → Next
nearest_next n = next_of (nearest n.coefficient) n.front n.rest

abbrev pub nearest_form : Affine × Text → Affine × Text
nearest_form r = (form_of (map nearest r.0.coefficients) (nearest r.0.constant), r.1)

-- a term that was read
abbrev pub term_read : CodeTerm → Term
term_read t = term_of t.coefficient t.name.now t.rest.now

-- a term that was read, if any
abbrev pub term_in : Option CodeTerm → Option Term
term_in t = option_map term_read t

-- what was read for a name
abbrev pub next_read : CodeNext → Next
next_read n = next_of n.coefficient n.front n.rest.now

-- a form that was read, if any, and what stands behind it
abbrev pub form_in : Option FormRead → Option (Affine × Text)
form_in (Some f) = Some (form_of f.coefficients.items f.constant, f.rest.now)
form_in None = None
