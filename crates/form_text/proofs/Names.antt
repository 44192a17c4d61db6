-- Words and numerals as bytes of names, and a name told apart from two lists.
use Rattle.whole_numbers.proofs.Common.{◌≡◌, refl, ℕ, zero, suc, ◌+◌, arith, true, List, [], ◌∷◌, ◌++◌, list_all}
use Rattle.whole_numbers.proofs.Common.{false≢true, and_parts}
use Rattle.std.specs.Int.Digits.{digits_of, AllBelowBase}
use Rattle.std.proofs.lemmas.Bool.{or_left}
use Rattle.std.proofs.lemmas.Int.Digits.{all_below_base_digits_of}
use Rattle.scop_lexer.specs.Bytes.{Text, is_letter, is_word_byte}
use Rattle.scop_lexer.specs.Words.{IsName}
use Rattle.form_text.specs.Names.{is_mark, AreNameBytes, IsVariableName, IsFresh}
use Rattle.form_text.specs.Numerals.{numeral}
use Rattle.form_text.proofs.Digits.{is_digit_of}
use Rattle.form_text.proofs.Numerals.{bytes_of}
use Rattle.form_text.proofs.Terms.{digit_is_byte}

-- none of some, nor of others
pub fresh_append : (name : Text) (xs ys : List Text) → IsFresh name xs → IsFresh name ys → IsFresh name (xs ++ ys)
fresh_append name [] ys h g = g
fresh_append name (x ∷ xs) ys h g = (h.0, fresh_append name xs ys h.1 g)

-- words are names
pub words_are_names : (bs : Text) → list_all is_word_byte bs ≡ true → AreNameBytes bs
words_are_names [] h = tt
words_are_names (b ∷ bs) h =
    let both = and_parts (is_word_byte b) (list_all is_word_byte bs) h in
    (or_left (is_word_byte b) (is_mark b) both.0, words_are_names bs both.1)

pub variable_name : (name : Text) → IsName name → IsVariableName name
variable_name [] w = absurd (false≢true w.letter)
variable_name (b ∷ bs) w = (or_left (is_letter b) (is_mark b) w.letter, (words_are_names (b ∷ bs) w.bytes).1)

digit_bytes : (ds : List ℕ) → AllBelowBase 10 ds → AreNameBytes (bytes_of ds)
digit_bytes [] below = tt
digit_bytes (d ∷ ds) below = (digit_is_byte (48 + d) (is_digit_of d below.0), digit_bytes ds below.1)

-- the bytes of a numeral are bytes of names
pub numeral_bytes : (n : ℕ) → AreNameBytes (numeral n)
numeral_bytes zero = (refl, tt)
numeral_bytes (suc n) = digit_bytes (digits_of 10 (suc n)) (all_below_base_digits_of 10 (suc n) (omega arith))
