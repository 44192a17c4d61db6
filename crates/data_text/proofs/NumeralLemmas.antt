-- Decimals are numbers, and the text of cells is words that are their decimals.
use Rattle.scop_syntax.proofs.Common.{◌≡◌, ◌∙◌, ap, refl, ℕ, suc, ◌+◌, ◌-◌, ◌*◌, ◌^◌, ◌<◌, Bool, true, false, List, []}
use Rattle.scop_syntax.proofs.Common.{◌∷◌, ◌++◌, map, length, get_or, decimal, append-nil, arith, rules, get_or_default}
use Rattle.scop_syntax.proofs.Common.{All, Some, Ok, list_all, filter, slice_split}
use Rattle.std.proofs.Common.{lt-ltb, le-leb, ne_eqb}
use Rattle.std.proofs.lemmas.List.Splits.{slice_split_none, slice_split_at}
use Rattle.std.proofs.lemmas.Str.Parse.{IsNumeralModel, numerals_by_fold, tells_by_index}
use Rattle.std.proofs.lemmas.Fmt.{digits_value-decimal, digits_decimal, decimal_nonempty}
use Rattle.std.specs.Int.{IsInRange}
use Rattle.scop_lexer.specs.Bytes.{Text, is_digit, is_blank}
use Rattle.scop_lexer.specs.Constants.{digit_value, number_behind}
use Rattle.data_lines.specs.Words.{not_empty, words_of}
use Rattle.data_lines.specs.Numbers.{HaveWidth, cells_of, decimal_value, fitting, number_of, numbers_of}
use Rattle.data_lines.proofs.NumberLemmas.{fitting_all}
use Rattle.data_lines.specs.Sheets.{listed}
use Rattle.data_lines.specs.Entries.{is_seed, row_said}
use Rattle.data_text.specs.ArrayText.{cells_text}

-- digits and their value, as std says them
abbrev AreDigits : Text → Type 0
AreDigits digits = (i : ℕ) → i < length digits → IsInRange 48 57 (get_or digits i 0)

abbrev value_behind : ℕ → Text → ℕ
value_behind n [] = n
value_behind n (digit ∷ digits) = value_behind (10 * n + (digit - 48)) digits

own : IsNumeralModel AreDigits (value_behind 0)
own = numerals_by_fold _ tells_by_index value_behind (search rules)

digit_is : (b : ℕ) → IsInRange 48 57 b → is_digit b ≡ true
digit_is b range = rw (le-leb 48 b (omega (arith, range.0)), le-leb b 57 (omega (arith, range.1))) refl

digit_value_is : (b : ℕ) → IsInRange 48 57 b → digit_value b ≡ b - 48
digit_value_is b range = rw (le-leb b 57 (omega (arith, range.1))) refl

all_digits : (digits : Text) → AreDigits digits → list_all is_digit digits ≡ true
all_digits [] are = refl
all_digits (b ∷ bs) are = rw (digit_is b (are 0 (omega arith))) (all_digits bs (λ i h. are (suc i) (omega (arith, h))))

same_value : (n : ℕ) (digits : Text) → AreDigits digits → number_behind 10 n digits ≡ value_behind n digits
same_value n [] are = refl
same_value n (b ∷ bs) are = rw (digit_value_is b (are 0 (omega arith)))
    (same_value (10 * n + (b - 48)) bs (λ i h. are (suc i) (omega (arith, h))))

-- a decimal is the number that it writes
pub decimal_is_number : (n : ℕ) → n < 2 ^ 64 → number_of (decimal n) ≡ Some n
decimal_is_number n small =
    let digits : AreDigits (decimal n) = digits_decimal own n small in
    let value : decimal_value (decimal n) ≡ n = same_value 0 (decimal n) digits ∙ digits_value-decimal own n small in
    rw (all_digits (decimal n) digits, value, lt-ltb n (2 ^ 64) small) refl

-- digits are no blanks, and no `seed`
digit_not_blank : (b : ℕ) → IsInRange 48 57 b → is_blank b ≡ false
digit_not_blank b range =
    rw (
      ne_eqb b 32 (λ e. omega (arith, e, range.0)),
      ne_eqb b 9 (λ e. omega (arith, e, range.0)),
      ne_eqb b 10
          (λ e. omega (arith, e, range.0)),
      ne_eqb b 12 (λ e. omega (arith, e, range.0)),
      ne_eqb b 13 (λ e. omega (arith, e, range.0)),
    ) refl

no_blanks : (digits : Text) → AreDigits digits → All (λ b. is_blank b ≡ false) digits
no_blanks digits are = λ k d h. ap is_blank (get_or_default digits k d 0 h)
    ∙ digit_not_blank (get_or digits k 0) (are k h)

pub decimal_no_blank : (n : ℕ) → n < 2 ^ 64 → All (λ b. is_blank b ≡ false) (decimal n)
decimal_no_blank n small = no_blanks (decimal n) (digits_decimal own n small)

not_seed : (digits : Text) → AreDigits digits → is_seed digits ≡ false
not_seed [] are = refl
not_seed (b ∷ bs) are = rw (ne_eqb b 115 (λ e. let high = (are 0 (omega arith)).1 in omega (arith, e, high))) refl

-- a part that has bytes is a word
one_word : (part : Text) (parts : List Text) → 0 < length part
    → filter not_empty (part ∷ parts) ≡ part ∷ filter not_empty parts
one_word [] parts some = absurd (omega (arith, some))
one_word (b ∷ bs) parts some = refl

-- the words of cells are their decimals
pub words_of_cells : (cells : List ℕ) → All (λ cell. cell < 2 ^ 64) cells
    → words_of (cells_text cells) ≡ map decimal cells
words_of_cells [] small = refl
words_of_cells (cell ∷ []) small =
    let fits : cell < 2 ^ 64 = small 0 0 (omega arith) in
    let none = no_blanks (decimal cell) (digits_decimal own cell fits) in
    ap words_of (append-nil (decimal cell))
    ∙ (ap (filter not_empty) (slice_split_none is_blank (decimal cell) none)
    ∙ one_word (decimal cell) [] (decimal_nonempty cell fits))
words_of_cells (cell ∷ other ∷ cells) small =
    let fits : cell < 2 ^ 64 = small 0 0 (omega arith) in
    let none = no_blanks (decimal cell) (digits_decimal own cell fits) in
    let behind = decimal other ++ cells_text cells in
    let parts : slice_split is_blank (decimal cell ++ 32 ∷ behind) ≡ decimal cell ∷ slice_split is_blank behind =
    slice_split_at is_blank (decimal cell) 32 behind none refl in
    let rest = words_of_cells (other ∷ cells) (λ k d h. small (suc k) d (omega (arith, h))) in
    ap (filter not_empty) parts ∙ (one_word (decimal cell) (slice_split is_blank behind)
    (decimal_nonempty cell fits) ∙ ap (λ ws. decimal cell ∷ ws) rest)

-- the decimals are these numbers
pub numbers_of_cells : (cells : List ℕ) → All (λ cell. cell < 2 ^ 64) cells
    → numbers_of (map decimal cells) ≡ Some cells
numbers_of_cells [] small = refl
numbers_of_cells (cell ∷ cells) small =
    rw (
      decimal_is_number cell (small 0 0 (omega arith)),
      numbers_of_cells cells
          (λ k d h. small (suc k) d (omega (arith, h))),
    ) refl

-- the decimals of cells are read as a list of them
pub cells_are_listed : (narrow : Bool) (line : ℕ) (cells : List ℕ) → 0 < length cells
    → All (λ cell. cell < 2 ^ 64) cells → HaveWidth narrow cells
    → row_said narrow line (map decimal cells) ≡ Ok (listed line cells)
cells_are_listed narrow line [] some small have = absurd (omega (arith, some))
cells_are_listed narrow line (cell ∷ cells) some small have =
    let fits : cell < 2 ^ 64 = small 0 0 (omega arith) in
    let are : cells_of narrow (map decimal (cell ∷ cells)) ≡ Some (cell ∷ cells) =
    ap (fitting narrow) (numbers_of_cells (cell ∷ cells) small) ∙ fitting_all narrow (cell ∷ cells) have in
    rw (not_seed (decimal cell) (digits_decimal own cell fits), are) refl
