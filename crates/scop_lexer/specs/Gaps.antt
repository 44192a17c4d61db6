-- What stands between tokens: blanks, comments (C17 6.4.9) and directive lines (C17 6.10).
use Rattle.std.specs.Prelude.{ℕ, suc, Bool, true, false, not, ◌==◌, ◌||◌, ◌&&◌, if◌then◌else◌, [], ◌∷◌, length}
use Rattle.std.specs.Prelude.{drop, codes, Option, Some, None, option_map, get_or, ◌+◌, ◌-◌}
use Rattle.std.specs.Str.{bytes_eq}
use Rattle.std.specs.List.{prefix_len, take_while}
use Rattle.scop_lexer.specs.Bytes.{Text, is_blank, is_word_byte, is_in_line}
use Rattle.scop_lexer.specs.declared.token.FaultKind.TheVariants.{Character, Directive, UnendedComment}
use Rattle.scop_lexer.specs.declared.stand.Stand.{Stand}
use Rattle.scop_lexer.specs.declared.stand.Stand.TheVariants.{Gap, Wrong}

-- the bytes of the first line, without its line feed
abbrev pub line_of : Text → Text
line_of text = take_while is_in_line text

-- these two bytes end a comment that is open, or begin one where none is
abbrev pub turns : Bool → ℕ → ℕ → Bool
turns true a b = a == 42 && b == 47
turns false a b = a == 47 && b == 42

-- how many bytes stand in front up to the end of the first `*/`, where there is one
abbrev pub close : Text → Option ℕ
close [] = None
close (a ∷ []) = None
close (a ∷ b ∷ bs) = if turns true a b then Some 2 else option_map suc (close (b ∷ bs))

-- what stands in front where a comment ends after so many bytes of its text, or does not end
abbrev pub comment_stands_as : Option ℕ → Stand
comment_stands_as (Some n) = Gap (2 + n)
comment_stands_as None = Wrong UnendedComment 0

-- a text that begins with `/*`
abbrev pub comment_stands : Text → Stand
comment_stands text = comment_stands_as (close (drop 2 text))

-- each comment that begins in the text ends in it, where `inside` says that the text begins inside one
abbrev pub are_closed : Bool → Text → Bool
are_closed inside [] = not inside
are_closed inside (a ∷ []) = not inside
are_closed inside (a ∷ b ∷ bs) = if turns inside a b then are_closed (not inside) bs else are_closed inside (b ∷ bs)

-- the word behind `#` and blanks
abbrev pub word_behind : Text → Text
word_behind text = take_while is_word_byte (drop (prefix_len is_blank text) text)

-- the word of a directive that is read over
abbrev pub is_directive_word : Text → Bool
is_directive_word word = bytes_eq word (codes "include") || bytes_eq word (codes "pragma")

-- a line that begins with `#` and is read over: its word is `include` or `pragma`, its last byte is no
-- `\`, and its comments are closed
abbrev pub is_directive : Text → Bool
is_directive line = is_directive_word (word_behind (drop 1 line)) && not (get_or line (length line - 1) 0 == 92)
    && are_closed false line

-- a text that begins with `#`; `fresh` says that only blanks stand in front of it on its line
abbrev pub hash_stands : Bool → Text → Stand
hash_stands fresh text = if fresh
    then (if is_directive (line_of text) then Gap (length (line_of text)) else Wrong Directive 0)
    else Wrong Character 0
