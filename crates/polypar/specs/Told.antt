-- What a command tells: lines, which go to `err` first, and the text, which goes to `out`.
use Rattle.std.specs.Prelude.{◌≡◌, ℕ, ◌^◌, ◌<◌, List, [], length}
use Rattle.scop_syntax.specs.Tree.{Program}
use Rattle.data_text.specs.ArrayText.{array_text}
use Rattle.polypar.specs.declared.told.Told as code

-- lines and a text
pub record Told : Type 0 where
  pub lines : List ℕ
  pub text : List ℕ

-- memory can hold both: no allocation has 2^63 bytes
pub record IsHeld (told : Told) : Type 0 where
  pub lines : length told.lines < 2 ^ 63
  pub text : length told.text < 2 ^ 63

-- so it is of the lines
abbrev pub HasHeldLines : Told → Type 0
HasHeldLines told = length told.lines < 2 ^ 63

-- what the code's lines and text stand for
abbrev pub told_of : code.Told → Told
told_of t = record { lines = t.lines.items; text = t.text.items }

-- no lines, and a text
abbrev pub text_alone : List ℕ → Told
text_alone text = record { lines = []; text = text }

-- no lines, and a text of which this holds
abbrev pub IsTextAlone : (List ℕ → Type 0) → Told → Type 0
IsTextAlone IsText told = IsText told.text × (told.lines ≡ [])

-- lines, and the text of arrays
abbrev pub lines_and_arrays : Program → List (List ℕ) → List ℕ → Told
lines_and_arrays program contents lines = record { lines = lines; text = array_text program contents }
