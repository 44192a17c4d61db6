-- Numbers in decimals.
use Rattle.std.specs.Prelude.{ℕ, zero, suc, ◌+◌, map, codes}
use Rattle.std.specs.Int.Digits.{digits_of}
use Rattle.scop_lexer.specs.Bytes.{Text}

-- a number in decimals, without a zero in front, however large it is
abbrev pub numeral : ℕ → Text
numeral zero = codes "0"
numeral (suc n) = map (λ d. 48 + d) (digits_of 10 (suc n))
