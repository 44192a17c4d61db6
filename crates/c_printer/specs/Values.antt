-- What printed values are worth in C, and what printed assignments store: each operator computes in the type that C
-- gives it by its operands, of 32 bits or of 64, modulo 2^32 or 2^64 (C17 6.2.5p9).
use Rattle.std.specs.Prelude.{ℕ, ◌-◌, ◌*◌, ◌/◌, ◌%◌, ◌^◌, Bool, true, false, ◌&&◌, ℤ, pos, negsuc, List}
use Rattle.std.specs.Prelude.{length, drop, slice_index_or}
use Rattle.whole_numbers.specs.Affine.{value_of}
use Rattle.scop_syntax.specs.Tree.{Operator, Expression, read, constant, affine, negated, complemented, cast, binary}
use Rattle.scop_syntax.specs.Tree.{shifted_left, shifted_right, explicit, implied, converted, narrowed, Right, assigned}
use Rattle.scop_syntax.specs.Tree.{combined, moved_left, moved_right, combined_narrow, moved_left_narrow}
use Rattle.scop_syntax.specs.Cells.{reads_of}
use Rattle.scop_syntax.specs.Values.{applied, applied_narrow}
use Rattle.scop_syntax.specs.Widths.{bits, is_narrow}

-- how many numbers a type has: 2^32 where it is narrow, else 2^64
abbrev pub modulus : Bool → ℕ
modulus narrow = 2 ^ bits narrow

-- a signed number converted to a type (C17 6.3.1.3p2)
abbrev pub residue : Bool → ℤ → ℕ
residue narrow (pos n) = n % modulus narrow
residue narrow (negsuc n) = modulus narrow - 1 - n % modulus narrow

-- what an operator makes in a type
abbrev pub made : Bool → Operator → ℕ → ℕ → ℕ
made true op a b = applied_narrow op a b
made false op a b = applied op a b

-- `(uint32_t)(FORM)`, or `(uint32_t)` in front of what is worth v
abbrev pub converted_worth : Expression → List ℤ → ℕ → ℕ
converted_worth (affine form) point v = residue true (value_of form point)
converted_worth e point v = v % 2 ^ 32

-- what a printed value is worth at a point, where the arrays have these widths and its reads have the first of the
-- values vs: operands of an operator are converted to its type, which changes none of them (6.3.1.8p1, 6.3.1.3p1), and
-- `implied` has no text
abbrev pub worth : List Bool → Expression → List ℤ → List ℕ → ℕ
worth arrays (read access) point vs = slice_index_or vs 0 0
worth arrays (constant c) point vs = c
worth arrays (affine form) point vs = residue false (value_of form point)
worth arrays (negated e) point vs =
    (modulus (is_narrow arrays e) - worth arrays e point vs) % modulus (is_narrow arrays e)
worth arrays (complemented e) point vs = modulus (is_narrow arrays e) - 1 - worth arrays e point vs
worth arrays (cast e) point vs = worth arrays e point vs
worth arrays (binary op e f) point vs =
    made (is_narrow arrays (binary op e f)) op (worth arrays e point vs)
    (worth arrays f point (drop (length (reads_of e)) vs))
worth arrays (shifted_left e k) point vs = (worth arrays e point vs * 2 ^ k) % modulus (is_narrow arrays e)
worth arrays (shifted_right e k) point vs = worth arrays e point vs / 2 ^ k
worth arrays (narrowed explicit e) point vs = worth arrays e point vs % 2 ^ 32
worth arrays (narrowed implied e) point vs = worth arrays e point vs
worth arrays (narrowed converted e) point vs = converted_worth e point (worth arrays e point vs)

-- what a printed assignment stores in a cell, narrow or not: the value converted to the cell's type (6.5.16.1p2);
-- place op= value is place = place op value (6.5.16.2p3)
abbrev pub stores : List Bool → Bool → Right → List ℤ → List ℕ → ℕ
stores arrays cell (assigned e) point vs = worth arrays e point vs % modulus cell
stores arrays cell (combined op e) point vs =
    made (cell && is_narrow arrays e) op (slice_index_or vs 0 0) (worth arrays e point (drop 1 vs)) % modulus cell
stores arrays cell (moved_left k) point vs = (slice_index_or vs 0 0 * 2 ^ k) % modulus cell
stores arrays cell (moved_right k) point vs = slice_index_or vs 0 0 / 2 ^ k
stores arrays cell (combined_narrow op e) point vs =
    made (cell && is_narrow arrays e) op (slice_index_or vs 0 0) (worth arrays e point (drop 1 vs)) % modulus cell
stores arrays cell (moved_left_narrow k) point vs = (slice_index_or vs 0 0 * 2 ^ k) % modulus cell
