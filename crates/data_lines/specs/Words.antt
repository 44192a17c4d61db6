-- A text cut into lines, and a line into words.
use Rattle.std.specs.Prelude.{ℕ, Bool, true, false, ◌==◌, List, [], ◌∷◌, drop}
use Rattle.std.specs.List.{slice_split, filter, prefix_len}
use Rattle.scop_lexer.specs.Bytes.{Text, is_blank}

-- a line feed
abbrev pub is_line_feed : ℕ → Bool
is_line_feed b = b == 10

-- the lines of a text, without their line feeds
abbrev pub lines_of : Text → List Text
lines_of text = slice_split is_line_feed text

-- a part of a text that has bytes
abbrev pub not_empty : Text → Bool
not_empty [] = false
not_empty (b ∷ bs) = true

-- the words of a line: what stands between its blanks
abbrev pub words_of : Text → List Text
words_of line = filter not_empty (slice_split is_blank line)

-- a text without the blanks in front of it
abbrev pub unindented : Text → Text
unindented text = drop (prefix_len is_blank text) text
