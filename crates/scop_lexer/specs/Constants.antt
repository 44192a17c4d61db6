-- Integer constants (C17 6.4.4.1): `0`, decimals without a leading zero, hexadecimals, each with or
-- without the suffix of `unsigned long long`.
use Rattle.std.specs.Prelude.{ℕ, ◌+◌, ◌-◌, ◌*◌, ◌^◌, Bool, ◌==◌, ◌||◌, ◌&&◌, nat_le, nat_lt}
use Rattle.std.specs.Prelude.{if◌then◌else◌, List, [], ◌∷◌, length, drop, get_or, codes, Option, Some, None}
use Rattle.std.specs.List.{list_any, prefix_len, take_while}
use Rattle.std.specs.Str.{bytes_eq}
use Rattle.scop_lexer.specs.Bytes.{Text, is_digit}
use Rattle.scop_tokens.specs.declared.Base.{Base}
use Rattle.scop_tokens.specs.declared.Base.TheVariants.{Decimal, Hexadecimal}
use Rattle.scop_tokens.specs.declared.Suffix.{Suffix}
use Rattle.scop_tokens.specs.declared.Suffix.TheVariants.{Absent, Present}
use Rattle.scop_tokens.specs.declared.Token.TheVariants.{Constant}
use Rattle.scop_lexer.specs.declared.token.FaultKind.TheVariants.{LiteralRange}
use Rattle.scop_lexer.specs.declared.stand.Stand.{Stand}
use Rattle.scop_lexer.specs.declared.stand.Stand.TheVariants.{Lexeme, Wrong}

-- 0 to 9, a to f or A to F
abbrev pub is_hex_digit : ℕ → Bool
is_hex_digit b = is_digit b || (nat_le 97 b && nat_le b 102) || (nat_le 65 b && nat_le b 70)

-- the number that a hexadecimal digit stands for
abbrev pub digit_value : ℕ → ℕ
digit_value b = if nat_le b 57 then b - 48 else (if nat_le b 70 then b - 55 else b - 87)

-- the number that digits write behind those of n, each counting so many times the next
abbrev pub number_behind : ℕ → ℕ → Text → ℕ
number_behind radix n [] = n
number_behind radix n (b ∷ bs) = number_behind radix (radix * n + digit_value b) bs

-- how many digits a base has
abbrev pub radix : Base → ℕ
radix Decimal = 10
radix Hexadecimal = 16

-- a digit of a base
abbrev pub is_digit_in : Base → ℕ → Bool
is_digit_in Decimal b = is_digit b
is_digit_in Hexadecimal b = is_hex_digit b

-- the greatest constant of a base without a suffix: a decimal is signed (C17 6.4.4.1p5)
abbrev pub greatest : Base → ℕ
greatest Decimal = 2 ^ 63 - 1
greatest Hexadecimal = 2 ^ 64 - 1

-- `u` or `U` and `ll` or `LL`, in either order
abbrev pub suffixes : List Text
suffixes = codes "ull" ∷ codes "uLL" ∷ codes "Ull" ∷ codes "ULL" ∷ codes "llu" ∷ codes "llU" ∷ codes "LLu"
    ∷ codes "LLU" ∷ []

-- the text is such a suffix
abbrev pub is_suffix : Text → Bool
is_suffix text = list_any (λ suffix. bytes_eq suffix text) suffixes

-- a constant of a base and of this value, with this text behind its digits
abbrev pub with_suffix : Base → ℕ → Text → Option (Suffix × ℕ)
with_suffix base value [] = if nat_le value (greatest base) then Some (Absent base, value) else None
with_suffix base value (b ∷ bs) = if is_suffix (b ∷ bs) && nat_lt value (2 ^ 64)
    then Some (Present, value) else None

-- a constant by its longest run of digits of a base, of which there are some
abbrev pub constant_in : Base → Text → Option (Suffix × ℕ)
constant_in base text = if prefix_len (is_digit_in base) text == 0 then None
    else with_suffix base (number_behind (radix base) 0 (take_while (is_digit_in base) text))
    (drop (prefix_len (is_digit_in base) text) text)

-- `0x` or `0X` stands in front
abbrev pub is_hexadecimal : Text → Bool
is_hexadecimal word = get_or word 0 0 == 48 && (get_or word 1 0 == 120 || get_or word 1 0 == 88)

-- a zero stands in front of another digit
abbrev pub is_octal : Text → Bool
is_octal word = get_or word 0 0 == 48 && is_digit (get_or word 1 0)

-- the constant that a word is: its suffix, or its base where it has none, and its value
abbrev pub constant_of : Text → Option (Suffix × ℕ)
constant_of word = if is_hexadecimal word then constant_in Hexadecimal (drop 2 word)
    else (if is_octal word then None else constant_in Decimal word)

-- what stands in front where a word begins with a digit
abbrev pub numeral_stands_as : Option (Suffix × ℕ) → ℕ → Stand
numeral_stands_as (Some constant) n = Lexeme (Constant constant.0) constant.1 n
numeral_stands_as None n = Wrong LiteralRange 0

-- a word that begins with a digit
abbrev pub numeral_stands : Text → Stand
numeral_stands word = numeral_stands_as (constant_of word) (length word)
