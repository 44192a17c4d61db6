-- Digits and names in front of a text are read back.
use Rattle.whole_numbers.proofs.Common.{◌≡◌, ◌∙◌, ap, sym, refl, ℕ, zero, suc, ◌+◌, ◌-◌, ◌*◌, ◌<◌, Bool, true}
use Rattle.whole_numbers.proofs.Common.{false, List, [], ◌∷◌, ◌++◌, get_or, arith, ◌==◌, ◌||◌, ⊤, false≢true, not-true}
use Rattle.std.specs.Int.Digits.{digits_of, number_from_digits_after, AllBelowBase}
use Rattle.std.proofs.Common.{le-leb}
use Rattle.std.proofs.lemmas.Int.Digits.{all_below_base_digits_of, first_digits_of, number_digits_of}
use Rattle.scop_lexer.specs.Bytes.{Text, is_letter, is_digit, is_word_byte}
use Rattle.form_text.specs.Names.{is_mark, is_name_byte, AreNameBytes}
use Rattle.form_text.specs.Numerals.{numeral}
use Rattle.form_text.specs.Reading.{number_in_front, behind_digits, name_in_front, behind_name, ends_factor}
use Rattle.form_text.proofs.Numerals.{bytes_of}

-- what the digits of n are in front of any text
pub record AreDigitsOf (n : ℕ) (ds : Text) : Type 0 where
  pub number : (rest : Text) → number_in_front 0 (ds ++ rest) ≡ number_in_front n rest
  pub behind : (rest : Text) → behind_digits (ds ++ rest) ≡ behind_digits rest
  pub first : (b : ℕ) × (bs : Text) × (ds ≡ b ∷ bs) × (is_digit b ≡ true)

pub is_digit_of : (n : ℕ) → n < 10 → is_digit (48 + n) ≡ true
is_digit_of n h = rw (le-leb 48 (48 + n) (omega arith), le-leb (48 + n) 57 (omega arith)) refl

-- digits in front write on a number
pub digits_front : (v : ℕ) (ds : List ℕ) (rest : Text) → AllBelowBase 10 ds
    → number_in_front v (bytes_of ds ++ rest) ≡ number_in_front (number_from_digits_after 10 v ds) rest
digits_front v [] rest below = refl
digits_front v (d ∷ ds) rest below =
    let same : 48 + d - 48 ≡ d = omega arith in
    rw (is_digit_of d below.0) (ap (λ k. number_in_front (v * 10 + k) (bytes_of ds ++ rest)) same
    ∙ digits_front (v * 10 + d) ds rest below.1)

pub digits_behind : (ds : List ℕ) (rest : Text) → AllBelowBase 10 ds
    → behind_digits (bytes_of ds ++ rest) ≡ behind_digits rest
digits_behind [] rest below = refl
digits_behind (d ∷ ds) rest below = rw (is_digit_of d below.0) (digits_behind ds rest below.1)

first_digit : (ds : List ℕ) → AllBelowBase 10 ds → 0 < get_or ds 0 0
    → (b : ℕ) × (bs : Text) × (bytes_of ds ≡ b ∷ bs) × (is_digit b ≡ true)
first_digit [] below some = absurd (omega (arith, some))
first_digit (d ∷ ds) below some = (48 + d, bytes_of ds, refl, is_digit_of d below.0)

pub numeral_digits : (n : ℕ) → AreDigitsOf n (numeral n)
numeral_digits zero = record { number = λ rest. refl; behind = λ rest. refl; first = (48, [], refl, refl) }
numeral_digits (suc n) =
    let ds = digits_of 10 (suc n) in
    let below = all_below_base_digits_of 10 (suc n) (omega arith) in
    record {
      number = λ rest. digits_front 0 ds rest below
          ∙ ap (λ v. number_in_front v rest) (number_digits_of 10 (suc n) (omega arith));
      behind = λ rest. digits_behind ds rest below;
      first = first_digit ds below (first_digits_of 10 (suc n) (omega arith) (omega arith));
    }

-- what no byte of a name begins, nor `(` or `*`
abbrev pub Clean : Text → Type 0
Clean [] = ⊤
Clean (b ∷ bs) = (is_name_byte b ≡ false) × ((b == 40) ≡ false) × ((b == 42) ≡ false)

left_false : (a b : Bool) → (a || b) ≡ false → a ≡ false
left_false true b h = absurd (false≢true (sym h))
left_false false b h = refl

right_false : (a b : Bool) → (a || b) ≡ false → b ≡ false
right_false true b h = absurd (false≢true (sym h))
right_false false b h = h

pub clean_of : (rest : Text) → ends_factor rest ≡ true → Clean rest
clean_of [] h = tt
clean_of (b ∷ bs) h =
    let none = not-true (is_name_byte b || (b == 40 || b == 42)) h in
    let others = right_false (is_name_byte b) (b == 40 || b == 42) none in (
      left_false (is_name_byte b) (b == 40 || b == 42) none,
      left_false (b == 40) (b == 42) others,
      right_false (b == 40) (b == 42) others,
    )

pub no_digit : (b : ℕ) → is_name_byte b ≡ false → is_digit b ≡ false
no_digit b h = right_false (is_letter b) (is_digit b) (left_false (is_word_byte b) (is_mark b) h)

pub name_front : (w rest : Text) → AreNameBytes w → Clean rest → name_in_front (w ++ rest) ≡ w
name_front [] [] a c = refl
name_front [] (b ∷ bs) a c = rw c.0 refl
name_front (x ∷ w) rest a c = rw a.0 (ap (λ (t : Text). x ∷ t) (name_front w rest a.1 c))

pub name_behind : (w rest : Text) → AreNameBytes w → Clean rest → behind_name (w ++ rest) ≡ rest
name_behind [] [] a c = refl
name_behind [] (b ∷ bs) a c = rw c.0 refl
name_behind (x ∷ w) rest a c = rw a.0 (name_behind w rest a.1 c)

-- what no digit begins
abbrev pub EndsDigits : Text → Type 0
EndsDigits [] = ⊤
EndsDigits (b ∷ bs) = is_digit b ≡ false

pub clean_ends : (rest : Text) → Clean rest → EndsDigits rest
clean_ends [] c = tt
clean_ends (b ∷ bs) c = no_digit b c.0

pub stops : (v : ℕ) (rest : Text) → EndsDigits rest → number_in_front v rest ≡ v
stops v [] e = refl
stops v (b ∷ bs) e = rw e refl

pub stays : (rest : Text) → EndsDigits rest → behind_digits rest ≡ rest
stays [] e = refl
stays (b ∷ bs) e = rw e refl

-- the number that stands in front
pub numeral_number : (n : ℕ) (rest : Text) → EndsDigits rest → number_in_front 0 (numeral n ++ rest) ≡ n
numeral_number n rest e = (numeral_digits n).number rest ∙ stops n rest e

pub numeral_behind : (n : ℕ) (rest : Text) → EndsDigits rest → behind_digits (numeral n ++ rest) ≡ rest
numeral_behind n rest e = (numeral_digits n).behind rest ∙ stays rest e

-- two numerals with one text in front of what no digit begins are one
pub one_number : (m n : ℕ) (r s : Text) → EndsDigits r → EndsDigits s → numeral m ++ r ≡ numeral n ++ s
    → (m ≡ n) × (r ≡ s)
one_number m n r s c d e = (
  sym (numeral_number m r c) ∙ (ap (number_in_front 0) e ∙ numeral_number n s d),
  sym (numeral_behind m r c) ∙ (ap behind_digits e ∙ numeral_behind n s d),
)
