-- The number that a word is: decimal digits, leading zeros among them, of a value of at most 64 bits; and the cells
-- that a list of words says.
use Rattle.std.specs.Prelude.{ℕ, ◌+◌, ◌*◌, ◌^◌, ◌<◌, Bool, true, false, ◌&&◌, nat_lt, if◌then◌else◌, List, [], ◌∷◌}
use Rattle.std.specs.Prelude.{Option, Some, None, All, ⊤}
use Rattle.std.specs.List.{list_all}
use Rattle.scop_lexer.specs.Bytes.{Text, is_digit}
use Rattle.scop_lexer.specs.Constants.{digit_value, number_behind}

-- the number that decimal digits write
abbrev pub decimal_value : Text → ℕ
decimal_value digits = number_behind 10 0 digits

-- a number with one more digit behind it, while it has 64 bits
abbrev pub next_number : ℕ → ℕ → Option ℕ
next_number value byte = if is_digit byte && nat_lt (10 * value + digit_value byte) (2 ^ 64)
    then Some (10 * value + digit_value byte) else None

-- a word is a number: digits alone, of a value that has 64 bits
abbrev pub is_number : Text → Bool
is_number word = list_all is_digit word && nat_lt (decimal_value word) (2 ^ 64)

-- the number that a word is, if it is one
abbrev pub number_of : Text → Option ℕ
number_of word = if is_number word then Some (decimal_value word) else None

-- a number in front of numbers, where both are there
abbrev pub with_number : Option ℕ → Option (List ℕ) → Option (List ℕ)
with_number (Some number) (Some numbers) = Some (number ∷ numbers)
with_number (Some number) None = None
with_number None numbers = None

-- the numbers that words are, where each word is one
abbrev pub numbers_of : List Text → Option (List ℕ)
numbers_of [] = Some []
numbers_of (word ∷ words) = with_number (number_of word) (numbers_of words)

-- these numbers, where each has 32 bits if it is to
abbrev pub fitting : Bool → Option (List ℕ) → Option (List ℕ)
fitting false numbers = numbers
fitting true None = None
fitting true (Some numbers) = if list_all (λ n. nat_lt n (2 ^ 32)) numbers then Some numbers else None

-- the cells that words are, of a narrow array or of another: numbers of 32 bits, or of 64
abbrev pub cells_of : Bool → List Text → Option (List ℕ)
cells_of narrow words = fitting narrow (numbers_of words)

-- cells of 32 bits have no more
abbrev pub HaveWidth : Bool → List ℕ → Type 0
HaveWidth true cells = All (λ cell. cell < 2 ^ 32) cells
HaveWidth false cells = ⊤
