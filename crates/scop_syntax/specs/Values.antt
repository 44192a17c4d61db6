-- Values are numbers below 2^64, the values of unsigned 64 bit arithmetic (C17 6.2.5p9); those of 32 bits are below
-- 2^32.
use Rattle.std.specs.Prelude.{ℕ, ◌+◌, ◌-◌, ◌*◌, ◌/◌, ◌%◌, ◌^◌, ℤ, pos, negsuc, List, length, drop, slice_index_or}
use Rattle.std.specs.Prelude.{bit_and, bit_or}
use Rattle.std.specs.Int.Bits.{bit_xor}
use Rattle.whole_numbers.specs.Affine.{value_of}
use Rattle.scop_syntax.specs.Tree.{Operator, plus, minus, times, bits_and, bits_or, bits_xor, Expression, read}
use Rattle.scop_syntax.specs.Tree.{constant, affine, negated, complemented, cast, binary, shifted_left, shifted_right}
use Rattle.scop_syntax.specs.Tree.{narrowed, Right, assigned, combined, moved_left, moved_right, combined_narrow}
use Rattle.scop_syntax.specs.Tree.{moved_left_narrow}
use Rattle.scop_syntax.specs.Cells.{reads_of}

-- a whole number modulo 2^64 (C17 6.3.1.3p2)
abbrev pub wrapped : ℤ → ℕ
wrapped (pos n) = n % 2 ^ 64
wrapped (negsuc n) = 2 ^ 64 - 1 - n % 2 ^ 64

-- the value of a binary operator (C17 6.5.5p5, 6.5.6p5 and p6, 6.5.10p4, 6.5.11p4, 6.5.12p4), modulo 2^64 (6.2.5p9)
abbrev pub applied : Operator → ℕ → ℕ → ℕ
applied plus a b = (a + b) % 2 ^ 64
applied minus a b = (a + (2 ^ 64 - b)) % 2 ^ 64
applied times a b = (a * b) % 2 ^ 64
applied bits_and a b = bit_and a b
applied bits_or a b = bit_or a b
applied bits_xor a b = bit_xor a b

-- what it makes in 32 bits, modulo 2^32
abbrev pub applied_narrow : Operator → ℕ → ℕ → ℕ
applied_narrow plus a b = (a + b) % 2 ^ 32
applied_narrow minus a b = (a + (2 ^ 32 - b)) % 2 ^ 32
applied_narrow times a b = (a * b) % 2 ^ 32
applied_narrow bits_and a b = bit_and a b
applied_narrow bits_or a b = bit_or a b
applied_narrow bits_xor a b = bit_xor a b

-- the value of an expression at a point, where its reads have the first of the values vs, from left to right:
-- unary - and ~ (C17 6.5.3.3p3 and p4), shifts (6.5.7p4 and p5), 32 bits (6.3.1.3p2); since 2^32 divides 2^64, a sum,
-- a difference, a product, an opposite, a complement or a left shift of 32 bits is that of 64 bits, kept to 32
abbrev pub value_on : Expression → List ℤ → List ℕ → ℕ
value_on (read access) point vs = slice_index_or vs 0 0
value_on (constant c) point vs = c
value_on (affine form) point vs = wrapped (value_of form point)
value_on (negated e) point vs = (2 ^ 64 - value_on e point vs) % 2 ^ 64
value_on (complemented e) point vs = 2 ^ 64 - 1 - value_on e point vs
value_on (cast e) point vs = value_on e point vs
value_on (binary op e f) point vs =
    applied op (value_on e point vs) (value_on f point (drop (length (reads_of e)) vs))
value_on (shifted_left e k) point vs = (value_on e point vs * 2 ^ k) % 2 ^ 64
value_on (shifted_right e k) point vs = value_on e point vs / 2 ^ k
value_on (narrowed w e) point vs = value_on e point vs % 2 ^ 32

-- what a statement stores, where its reads have the values vs (C17 6.5.16.2p3)
abbrev pub stored_by : Right → List ℤ → List ℕ → ℕ
stored_by (assigned e) point vs = value_on e point vs
stored_by (combined op e) point vs = applied op (slice_index_or vs 0 0) (value_on e point (drop 1 vs))
stored_by (moved_left k) point vs = (slice_index_or vs 0 0 * 2 ^ k) % 2 ^ 64
stored_by (moved_right k) point vs = slice_index_or vs 0 0 / 2 ^ k
stored_by (combined_narrow op e) point vs =
    applied op (slice_index_or vs 0 0) (value_on e point (drop 1 vs)) % 2 ^ 32
stored_by (moved_left_narrow k) point vs = (slice_index_or vs 0 0 * 2 ^ k) % 2 ^ 32
