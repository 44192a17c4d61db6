-- The bytes of a C text, and runs of bytes in front of a text.
use Rattle.std.specs.Prelude.{ℕ, Bool, true, false, ◌==◌, ◌||◌, ◌&&◌, nat_le, if◌then◌else◌, List, [], ◌∷◌}

-- a text, or a part of one: a list of bytes
abbrev pub Text : Type 0
Text = List ℕ

-- a space, tab, line feed, form feed or carriage return
abbrev pub is_blank : ℕ → Bool
is_blank b = b == 32 || b == 9 || b == 10 || b == 12 || b == 13

-- A to Z, a to z or `_`
abbrev pub is_letter : ℕ → Bool
is_letter b = (nat_le 65 b && nat_le b 90) || (nat_le 97 b && nat_le b 122) || b == 95

-- 0 to 9
abbrev pub is_digit : ℕ → Bool
is_digit b = nat_le 48 b && nat_le b 57

-- a byte that names, keywords and constants are made of
abbrev pub is_word_byte : ℕ → Bool
is_word_byte b = is_letter b || is_digit b

-- a byte that does not end its line
abbrev pub is_in_line : ℕ → Bool
is_in_line b = if b == 10 then false else true

-- only blanks stand in the last line of a text, where `start` says so of the bytes in front of it
abbrev pub is_fresh_behind : Bool → Text → Bool
is_fresh_behind start [] = start
is_fresh_behind start (b ∷ bs) = is_fresh_behind (b == 10 || (start && is_blank b)) bs

-- only blanks stand in the last line of a text, which is what stands in front of a place
abbrev pub is_fresh : Text → Bool
is_fresh text = is_fresh_behind true text
