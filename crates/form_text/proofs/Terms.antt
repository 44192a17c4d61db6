-- A term in front of a text is read back.
use Rattle.whole_numbers.proofs.Common.{◌≡◌, ◌∙◌, ap, sym, subst, refl, ℕ, suc, ◌≤◌, Bool, true, false, [], ◌∷◌, ◌++◌}
use Rattle.whole_numbers.proofs.Common.{arith, ◌==◌, ◌||◌, ◌&&◌, nat_le, ⊤, ℤ, pos, negsuc, Some, None, codes}
use Rattle.whole_numbers.proofs.Common.{if◌then◌else◌, false≢true, false_from_ne_true, eqb-true, leb-true, lt-leb}
use Rattle.std.specs.Prelude.{option_map}
use Rattle.std.proofs.Common.{ne_eqb}
use Rattle.std.proofs.lemmas.List.{append_assoc}
use Rattle.scop_lexer.specs.Bytes.{Text, is_letter, is_digit}
use Rattle.form_text.specs.Forms.{factor_text, signed_text}
use Rattle.form_text.specs.Names.{is_mark, begins_name, is_name_byte, AreNameBytes, IsVariableName}
use Rattle.form_text.specs.Numerals.{numeral}
use Rattle.form_text.specs.Reading.{number_in_front, behind_digits, behind_name, factor_of, term_of}
use Rattle.form_text.specs.Reading.{named_as, named, numbered, factor_in_front, plus, minus, first_term}
use Rattle.form_text.specs.Reading.{strip, term_in_front}
use Rattle.form_text.proofs.Digits.{numeral_digits, numeral_number, numeral_behind, Clean, EndsDigits, clean_ends}
use Rattle.form_text.proofs.Digits.{name_front, name_behind}

-- a name, or none
abbrev pub IsNameOrNone : Text → Type 0
IsNameOrNone [] = ⊤
IsNameOrNone (b ∷ bs) = IsVariableName (b ∷ bs)

pub name_or_none : (name : Text) → IsVariableName name → IsNameOrNone name
name_or_none [] w = tt
name_or_none (b ∷ bs) w = w

-- a first byte of names is a byte of names, and no digit
pub begins_is_byte : (b : ℕ) → begins_name b ≡ true → is_name_byte b ≡ true
begins_is_byte b h = widened (is_letter b) (is_digit b) (is_mark b) h
  where
    widened : (letter digit mark : Bool) → (letter || mark) ≡ true → ((letter || digit) || mark) ≡ true
    widened true digit mark h = refl
    widened false true mark h = refl
    widened false false mark h = h

pub left_true : (a b : Bool) → (a && b) ≡ true → a ≡ true
left_true true b h = refl
left_true false b h = absurd (false≢true h)

pub right_true : (a b : Bool) → (a && b) ≡ true → b ≡ true
right_true true b h = h
right_true false b h = absurd (false≢true h)

between_begins_none : (b : ℕ) → 48 ≤ b → b ≤ 57 → begins_name b ≡ false
between_begins_none b l h =
    rw (
      lt-leb 65 b (omega (arith, h)),
      lt-leb 97 b (omega (arith, h)),
      ne_eqb b 95 (λ e. omega (arith, h, e)),
      ne_eqb b 35 (λ e. omega (arith, l, e)),
      ne_eqb b 36 (λ e. omega (arith, l, e)),
    ) refl

pub begins_no_digit : (b : ℕ) → begins_name b ≡ true → is_digit b ≡ false
begins_no_digit b h = false_from_ne_true (is_digit b) (λ d. false≢true (
    sym (between_begins_none b (leb-true 48 b (left_true (nat_le 48 b) (nat_le b 57) d))
    (leb-true b 57 (right_true (nat_le 48 b) (nat_le b 57) d))) ∙ h))

at_name : (b : ℕ) (bs : Text) → is_digit b ≡ false → factor_in_front (b ∷ bs) ≡ named 1 (b ∷ bs)
at_name b bs e = ap (λ (t : Bool). if t then numbered (number_in_front 0 (b ∷ bs)) (behind_digits (b ∷ bs))
    else named 1 (b ∷ bs)) e

named_is : (m b : ℕ) (bs rest : Text) → Clean rest → named_as m (b ∷ bs) rest ≡ Some (factor_of m (b ∷ bs) rest)
named_is m b bs [] c = refl
named_is m b bs (r ∷ rs) c = rw c.1 refl

named_back : (m b : ℕ) (bs rest : Text) → IsVariableName (b ∷ bs) → Clean rest
    → named m ((b ∷ bs) ++ rest) ≡ Some (factor_of m (b ∷ bs) rest)
named_back m b bs rest w c =
    let all : AreNameBytes (b ∷ bs) = (begins_is_byte b w.0, w.1) in
    ap (λ (x : Text). named_as m x (behind_name ((b ∷ bs) ++ rest))) (name_front (b ∷ bs) rest all c)
    ∙ (ap (λ (x : Text). named_as m (b ∷ bs) x) (name_behind (b ∷ bs) rest all c) ∙ named_is m b bs rest c)

numbered_clean : (m : ℕ) (rest : Text) → Clean rest → numbered m rest ≡ Some (factor_of m [] rest)
numbered_clean m [] c = refl
numbered_clean m (b ∷ bs) c = rw c.2 refl

at_digits : (ds rest : Text) → (b : ℕ) × (bs : Text) × (ds ≡ b ∷ bs) × (is_digit b ≡ true)
    → factor_in_front (ds ++ rest) ≡ numbered (number_in_front 0 (ds ++ rest)) (behind_digits (ds ++ rest))
at_digits ds rest f = subst (λ (x : Text). factor_in_front (x ++ rest)
    ≡ numbered (number_in_front 0 (x ++ rest)) (behind_digits (x ++ rest))) (sym f.2) (rw f.3 refl)

-- digits, with what is no digit behind them
pub number_back : (m : ℕ) (rest : Text) → EndsDigits rest → factor_in_front (numeral m ++ rest) ≡ numbered m rest
number_back m rest e =
    at_digits (numeral m) rest (numeral_digits m).first
    ∙ (ap (λ v. numbered v (behind_digits (numeral m ++ rest))) (numeral_number m rest e)
    ∙ ap (numbered m) (numeral_behind m rest e))

factor_is : (same : Bool) (m b : ℕ) (bs rest : Text) → (m == 1) ≡ same → IsVariableName (b ∷ bs)
    → Clean rest
    → factor_in_front ((if same then b ∷ bs else numeral m ++ (42 ∷ b ∷ bs)) ++ rest) ≡ Some (factor_of m (b ∷ bs) rest)
factor_is true m b bs rest e w c = at_name b (bs ++ rest) (begins_no_digit b w.0)
    ∙ (named_back 1 b bs rest w c ∙ ap (λ x. Some (factor_of x (b ∷ bs) rest)) (sym (eqb-true m 1 e)))
factor_is false m b bs rest e w c = ap factor_in_front (append_assoc (numeral m) (42 ∷ b ∷ bs) rest)
    ∙ (number_back m (42 ∷ ((b ∷ bs) ++ rest)) refl ∙ named_back m b bs rest w c)

-- a factor is read back in front of what does not go on with it
pub factor_back : (m : ℕ) (name rest : Text) → IsNameOrNone name → Clean rest
    → factor_in_front (factor_text m name ++ rest) ≡ Some (factor_of m name rest)
factor_back m [] rest w c = number_back m rest (clean_ends rest c) ∙ numbered_clean m rest c
factor_back m (b ∷ bs) rest w c = factor_is (m == 1) m b bs rest refl w c

-- no sign stands in front of a factor
no_sign : (b : ℕ) (bs : Text) → is_name_byte b ≡ true → strip (codes "-") (b ∷ bs) ≡ None
no_sign b bs h =
    ap (λ (t : Bool). if t then Some bs else None) (ne_eqb 45 b (λ e. false≢true (ap is_name_byte e ∙ h)))

pub digit_is_byte : (b : ℕ) → is_digit b ≡ true → is_name_byte b ≡ true
digit_is_byte b h = widened (is_letter b) (is_digit b) (is_mark b) h
  where
    widened : (letter digit mark : Bool) → digit ≡ true → ((letter || digit) || mark) ≡ true
    widened true digit mark h = refl
    widened false true mark h = refl
    widened false false mark h = absurd (false≢true h)

no_sign_of_digits : (ds rest : Text) → (b : ℕ) × (bs : Text) × (ds ≡ b ∷ bs) × (is_digit b ≡ true)
    → strip (codes "-") (ds ++ rest) ≡ None
no_sign_of_digits ds rest f = subst (λ (x : Text). strip (codes "-") (x ++ rest) ≡ None) (sym f.2)
    (no_sign f.0 (f.1 ++ rest) (digit_is_byte f.0 f.3))

unsigned_is : (same : Bool) (m b : ℕ) (bs rest : Text) → IsVariableName (b ∷ bs)
    → strip (codes "-") ((if same then b ∷ bs else numeral m ++ (42 ∷ b ∷ bs)) ++ rest) ≡ None
unsigned_is true m b bs rest w = no_sign b (bs ++ rest) (begins_is_byte b w.0)
unsigned_is false m b bs rest w = ap (strip (codes "-")) (append_assoc (numeral m) (42 ∷ b ∷ bs) rest)
    ∙ no_sign_of_digits (numeral m) ((42 ∷ b ∷ bs) ++ rest) (numeral_digits m).first

unsigned : (m : ℕ) (name rest : Text) → IsNameOrNone name → strip (codes "-") (factor_text m name ++ rest) ≡ None
unsigned m [] rest w = no_sign_of_digits (numeral m) rest (numeral_digits m).first
unsigned m (b ∷ bs) rest w = unsigned_is (m == 1) m b bs rest w

-- a term is read back in front of what does not go on with it
pub term_back : (front : Bool) (c : ℤ) (name rest : Text) → IsNameOrNone name → Clean rest
    → term_in_front front (signed_text front c name ++ rest) ≡ Some (term_of c name rest)
unfolding term_in_front
term_back true (pos m) name rest w c =
    ap (λ x. first_term x (factor_text m name ++ rest)) (unsigned m name rest w)
    ∙ ap (option_map plus) (factor_back m name rest w c)
term_back true (negsuc m) name rest w c = ap (option_map minus) (factor_back (suc m) name rest w c)
term_back false (pos m) name rest w c = ap (option_map plus) (factor_back m name rest w c)
term_back false (negsuc m) name rest w c = ap (option_map minus) (factor_back (suc m) name rest w c)
