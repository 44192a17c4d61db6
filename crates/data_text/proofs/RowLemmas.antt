-- The line of an array is a data line: its head is read as its name.
use Rattle.scop_syntax.proofs.Common.{◌≡◌, ◌∙◌, sym, ap, refl, ℕ, suc, ◌+◌, ◌^◌, ◌<◌, ◌==◌, Bool, true, false, ◌&&◌}
use Rattle.scop_syntax.proofs.Common.{if◌then◌else◌, List, [], ◌∷◌, ◌++◌, map, length, take, drop, codes, decimal}
use Rattle.scop_syntax.proofs.Common.{append_assoc, arith, All, Some, None, cond, nat_lt, list_all, prefix_len}
use Rattle.scop_syntax.proofs.Common.{take-append_seam, drop-append_seam, Program}
use Rattle.std.proofs.Common.{ne_eqb, lt-ltb}
use Rattle.scop_lexer.specs.Bytes.{Text, is_blank, is_letter, is_word_byte}
use Rattle.scop_lexer.specs.Words.{IsName, word_stands}
use Rattle.scop_lexer.specs.Stands.{stands_at, word_of}
use Rattle.scop_lexer.specs.declared.stand.Stand.{Stand}
use Rattle.scop_lexer.specs.declared.stand.Stand.TheVariants.{Gap}
use Rattle.data_lines.specs.Words.{unindented, words_of}
use Rattle.data_lines.specs.Heads.{behind_name, name_bytes, name_len, named_list}
use Rattle.data_lines.specs.Sheets.{Sheet, place_of}
use Rattle.data_lines.specs.Entries.{with_line, with_list, with_text, with_words, written_at}
use Rattle.data_lines.proofs.EachLemmas.{HasHead}
use Rattle.data_text.specs.ArrayText.{cells_text, row_text}
use Rattle.data_text.proofs.NumeralLemmas.{words_of_cells}

-- a letter is no blank
not_byte : (b c : ℕ) → is_letter b ≡ true → is_letter c ≡ false → b == c ≡ false
not_byte b c letter other = ne_eqb b c (λ e. let wrong : true ≡ false = sym letter ∙ (ap is_letter e ∙ other) in cc)

letter_not_blank : (b : ℕ) → is_letter b ≡ true → is_blank b ≡ false
letter_not_blank b letter =
    rw (
      not_byte b 32 letter refl,
      not_byte b 9 letter refl,
      not_byte b 10 letter refl,
      not_byte b 12 letter refl,
      not_byte b 13 letter refl,
    ) refl

-- a word ends at a blank
ends_by : (k n : ℕ) (all is : Bool) → (is && all) ≡ true → (all ≡ true → k ≡ n)
    → cond is (1 + k) 0 ≡ suc n
ends_by k n all true both rest = omega (arith, rest both)
ends_by k n all false both rest = cc

word_ends : (word behind : Text) → list_all is_word_byte word ≡ true
    → prefix_len is_word_byte (word ++ 32 ∷ behind) ≡ length word
word_ends [] behind all = refl
word_ends (b ∷ bs) behind all =
    ends_by (prefix_len is_word_byte (bs ++ 32 ∷ behind)) (length bs) (list_all is_word_byte bs) (is_word_byte b) all
    (word_ends bs behind)

-- what stands in front is the name
by_letter : (blank letter : Bool) (gap word other : Stand) → blank ≡ false → letter ≡ true
    → (if blank then gap else if letter then word else other) ≡ word
by_letter true letter gap word other none is = cc
by_letter false true gap word other none is = refl
by_letter false false gap word other none is = cc

word_stands_there : (b : ℕ) (rest : Text) → is_letter b ≡ true
    → stands_at (b ∷ rest) 0 ≡ word_stands (word_of (b ∷ rest))
unfolding stands_at
word_stands_there b rest letter =
    by_letter (is_blank b) (is_letter b) (Gap 1) (word_stands (word_of (b ∷ rest))) _ (letter_not_blank b letter) letter

name_stands : (b : ℕ) (bs behind : Text) → IsName (b ∷ bs) → name_len ((b ∷ bs) ++ 32 ∷ behind) ≡ length (b ∷ bs)
name_stands b bs behind is =
    let text = (b ∷ bs) ++ 32 ∷ behind in
    let word : word_of text ≡ b ∷ bs =
    ap (λ n. take n text) (word_ends (b ∷ bs) behind is.bytes) ∙ take-append_seam (b ∷ bs) (32 ∷ behind) in
    ap name_bytes (word_stands_there b (bs ++ 32 ∷ behind) is.letter)
    ∙ (ap (λ w. name_bytes (word_stands w)) word ∙ ap name_bytes is.word)

-- the head of the line
head_is : (b : ℕ) (bs list : Text) → IsName (b ∷ bs) → named_list ((b ∷ bs) ++ 32 ∷ 61 ∷ list) ≡ Some (b ∷ bs, list)
head_is b bs list is =
    let name = b ∷ bs in
    let text = name ++ 32 ∷ 61 ∷ list in
    let long = name_stands b bs (61 ∷ list) is in
    let some : nat_lt 0 (length name) ≡ true = lt-ltb 0 (length name) (omega arith) in
    let by_length : named_list text ≡ (if nat_lt 0 (length name)
    then behind_name (take (length name) text) (unindented (drop (length name) text)) else None) =
    ap (λ n. if nat_lt 0 n then behind_name (take n text) (unindented (drop n text)) else None) long in
    by_length ∙ rw (some, take-append_seam name (32 ∷ 61 ∷ list), drop-append_seam name (32 ∷ 61 ∷ list)) refl

pub row_head : (name : Text) (cells : List ℕ) → IsName name → All (λ cell. cell < 2 ^ 64) cells
    → HasHead name (map decimal cells) (row_text name cells)
row_head [] cells is small = absurd (let wrong = is.letter in cc)
row_head (b ∷ bs) cells is small =
    let list = cells_text cells in
    let text = (b ∷ bs) ++ 32 ∷ 61 ∷ list in
    let same : unindented text ≡ text = rw (letter_not_blank b is.letter) refl in
    record {
      list = list;
      head = ap (λ t. named_list (unindented t)) (append_assoc (b ∷ bs) (codes " =") list)
          ∙ (ap named_list same ∙ head_is b bs list is);
      words_are = words_of_cells cells small;
    }

-- the whole line
line_is : (program : Program) (sheet : Sheet) (line : ℕ) (b : ℕ) (bs list : Text) → IsName (b ∷ bs)
    → with_line program sheet line ((b ∷ bs) ++ 32 ∷ 61 ∷ list)
    ≡ with_words program sheet line (b ∷ bs) (words_of list)
line_is program sheet line b bs list is =
    let text = (b ∷ bs) ++ 32 ∷ 61 ∷ list in
    let same : unindented text ≡ text = rw (letter_not_blank b is.letter) refl in
    ap (with_text program sheet line) same ∙ ap (with_list program sheet line) (head_is b bs list is)

-- an array's line puts its cells into the place of its name
pub row_is_read : (program : Program) (sheet : Sheet) (line : ℕ) (name : Text) (cells : List ℕ) → IsName name
    → 0 < length cells → All (λ cell. cell < 2 ^ 64) cells
    → with_line program sheet line (row_text name cells) ≡ written_at program sheet line (place_of program name)
    (map decimal cells)
row_is_read program sheet line [] cells is some small = absurd (let wrong = is.letter in cc)
row_is_read program sheet line name [] is some small = absurd (omega (arith, some))
row_is_read program sheet line (b ∷ bs) (cell ∷ cells) is some small =
    let list = cells_text (cell ∷ cells) in
    ap (with_line program sheet line) (append_assoc (b ∷ bs) (codes " =") list)
    ∙ (line_is program sheet line b bs list is
    ∙ ap (with_words program sheet line (b ∷ bs)) (words_of_cells (cell ∷ cells) small))
