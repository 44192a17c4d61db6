-- Names that a text tells apart, and forms that have a text over them.
use Rattle.std.specs.Prelude.{◌≡◌, ◌≢◌, ℕ, ◌==◌, ◌||◌, Bool, true, List, [], ◌∷◌, length, ⊤}
use Rattle.whole_numbers.specs.Affine.{Affine}
use Rattle.scop_lexer.specs.Bytes.{Text, is_letter, is_word_byte}

-- `#` or `$`, which no name of a program has
abbrev pub is_mark : ℕ → Bool
is_mark b = b == 35 || b == 36

-- a letter, `_` or a mark
abbrev pub begins_name : ℕ → Bool
begins_name b = is_letter b || is_mark b

-- one of these, or a digit
abbrev pub is_name_byte : ℕ → Bool
is_name_byte b = is_word_byte b || is_mark b

-- bytes of names
abbrev pub AreNameBytes : Text → Type 0
AreNameBytes [] = ⊤
AreNameBytes (b ∷ bs) = (is_name_byte b ≡ true) × AreNameBytes bs

-- the name of a variable: bytes of names, of which the first is no digit
abbrev pub IsVariableName : Text → Type 0
IsVariableName [] = ⊥
IsVariableName (b ∷ bs) = (begins_name b ≡ true) × AreNameBytes bs

-- the name is none of these
abbrev pub IsFresh : Text → List Text → Type 0
IsFresh name [] = ⊤
IsFresh name (other ∷ others) = (name ≢ other) × IsFresh name others

-- names of variables, no two the same
abbrev pub AreNames : List Text → Type 0
AreNames [] = ⊤
AreNames (name ∷ names) = IsVariableName name × IsFresh name names × AreNames names

-- a form over n variables
abbrev pub IsFormOver : ℕ → Affine → Type 0
IsFormOver n form = length form.coefficients ≡ n
