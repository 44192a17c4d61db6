-- What stands in front of a text, and at a place of one: the end, a gap, a token, or what is wrong.
use Rattle.std.specs.Prelude.{◌≡◌, ℕ, ◌<◌, ◌≤◌, Bool, ◌==◌, if◌then◌else◌, [], ◌∷◌, take, drop, get_or}
use Rattle.std.specs.List.{prefix_len, take_while}
use Rattle.scop_lexer.specs.Bytes.{Text, is_blank, is_letter, is_digit, is_word_byte, is_in_line, is_fresh}
use Rattle.scop_lexer.specs.Words.{word_stands}
use Rattle.scop_lexer.specs.Constants.{numeral_stands}
use Rattle.scop_lexer.specs.Signs.{sign_stands}
use Rattle.scop_lexer.specs.Gaps.{comment_stands, hash_stands}
use Rattle.scop_lexer.specs.declared.stand.Stand.{Stand}
use Rattle.scop_lexer.specs.declared.stand.Stand.TheVariants.{End, Gap, Lexeme, Wrong}

-- the longest run of letters, digits and `_` in front
abbrev pub word_of : Text → Text
word_of text = take_while is_word_byte text

-- a text that begins with `/`: a comment (C17 6.4.9), or a sign
abbrev pub slash_stands : Text → Stand
slash_stands text = if get_or text 1 0 == 47 then Gap (prefix_len is_in_line text)
    else (if get_or text 1 0 == 42 then comment_stands text else sign_stands text)

-- what stands in front of a text; `fresh` says that only blanks stand in front of it on its line
abbrev pub stands : Bool → Text → Stand
stands fresh [] = End
stands fresh (b ∷ bs) = if is_blank b then Gap 1
    else if is_letter b then word_stands (word_of (b ∷ bs))
    else if is_digit b then numeral_stands (word_of (b ∷ bs))
    else if b == 35 then hash_stands fresh (b ∷ bs)
    else if b == 47 then slash_stands (b ∷ bs)
    else sign_stands (b ∷ bs)

-- what stands at a place of a text
unfoldable pub stands_at : Text → ℕ → Stand
stands_at text at = stands (is_fresh (take at text)) (drop at text)

-- what stands in front of m bytes has some of them; a fault stands at one of them
abbrev pub HasRoom : ℕ → Stand → Type 0
HasRoom m End = m ≡ 0
HasRoom m (Gap n) = (0 < n) × (n ≤ m)
HasRoom m (Lexeme kind value n) = (0 < n) × (n ≤ m)
HasRoom m (Wrong kind n) = n < m
