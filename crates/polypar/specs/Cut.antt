-- The input is cut at its first line that is `%%`, with or without a carriage return.
use Rattle.std.specs.Prelude.{ℕ, ◌==◌, Bool, ◌||◌, List, [], ◌∷◌, ◌++◌, codes, if◌then◌else◌}
use Rattle.std.specs.Str.{bytes_eq}

-- a first byte before lines: it ends a line of its own where it is a line feed
abbrev pub before_lines : ℕ → List (List ℕ) → List (List ℕ)
before_lines byte [] = (byte ∷ []) ∷ []
before_lines byte (line ∷ lines) = if byte == 10 then (byte ∷ []) ∷ line ∷ lines else (byte ∷ line) ∷ lines

-- the lines of a text, each with its line feed; the last may have none
abbrev pub whole_lines : List ℕ → List (List ℕ)
whole_lines [] = []
whole_lines (byte ∷ text) = before_lines byte (whole_lines text)

-- the lines that cut
abbrev pub is_cut : List ℕ → Bool
is_cut line = bytes_eq line (codes "%%") || (bytes_eq line (codes "%%\r")
    || (bytes_eq line (codes "%%\n") || bytes_eq line (codes "%%\r\n")))

-- the lines before the first one that cuts, joined
abbrev pub before_cut : List (List ℕ) → List ℕ
before_cut [] = []
before_cut (line ∷ lines) = if is_cut line then [] else line ++ before_cut lines

-- lines, joined
abbrev pub joined : List (List ℕ) → List ℕ
joined [] = []
joined (line ∷ lines) = line ++ joined lines

-- the lines behind the first one that cuts, joined
abbrev pub after_cut : List (List ℕ) → List ℕ
after_cut [] = []
after_cut (line ∷ lines) = if is_cut line then joined lines else after_cut lines

-- the kernel's text of an input
abbrev pub kernel_part : List ℕ → List ℕ
kernel_part input = before_cut (whole_lines input)

-- the data of an input
abbrev pub data_part : List ℕ → List ℕ
data_part input = after_cut (whole_lines input)
