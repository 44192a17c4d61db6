-- The line and the column of a place: of the text in front of it.
use Rattle.std.specs.Prelude.{ℕ, suc, ◌==◌, ◌+◌, if◌then◌else◌, [], ◌∷◌}
use Rattle.scop_lexer.specs.Bytes.{Text}

-- how many line feeds a text has
abbrev pub line_feeds : Text → ℕ
line_feeds [] = 0
line_feeds (b ∷ bs) = if b == 10 then suc (line_feeds bs) else line_feeds bs

-- how many bytes stand behind the last line feed, where n stand in front of the text
abbrev pub behind_line_feed : ℕ → Text → ℕ
behind_line_feed n [] = n
behind_line_feed n (b ∷ bs) = if b == 10 then behind_line_feed 0 bs else behind_line_feed (n + 1) bs

-- the line that the byte behind a text stands in, from 1
abbrev pub line_behind : Text → ℕ
line_behind front = line_feeds front + 1

-- its column in bytes, from 1
abbrev pub column_behind : Text → ℕ
column_behind front = behind_line_feed 0 front + 1
