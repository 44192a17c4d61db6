-- Which formulas are signed, which can be affine, and the affine form that they are.
use Rattle.std.specs.Prelude.{ℕ, ◌-◌, ◌^◌, Bool, true, false, ◌&&◌, ◌||◌, not, if◌then◌else◌, nat_le, ℤ, pos}
use Rattle.std.specs.Prelude.{negsuc, unsigned_abs, set}
use Rattle.std.specs.List.{list_all}
use Rattle.whole_numbers.specs.Affine.{Affine, form_of, sum_of_forms, multiple_of_form}
use Rattle.whole_numbers.specs.Lists.{zeros}
use Rattle.scop_expressions.specs.Op.{Op}
use Rattle.scop_expressions.specs.Op.TheVariants as op
use Rattle.scop_expressions.specs.declared.token.Sign.{Sign}
use Rattle.scop_expressions.specs.declared.token.Sign.TheVariants as sign
use Rattle.scop_expressions.specs.Base.{Base}
use Rattle.scop_expressions.specs.Base.TheVariants as base
use Rattle.scop_expressions.specs.Suffix.TheVariants as suffix
use Rattle.scop_expressions.specs.Width.{Width}
use Rattle.scop_expressions.specs.Width.TheVariants as width
use Rattle.scop_roles.specs.declared.formula.Meaning.{Meaning}
use Rattle.scop_roles.specs.declared.formula.Meaning.TheVariants as meaning
use Rattle.scop_roles.specs.Formula.{Formula, constant, name, index, unary, cast, binary, meaning_of}

-- + - *
abbrev pub is_sum_or_product : Op → Bool
is_sum_or_product op.Plus = true
is_sum_or_product op.Minus = true
is_sum_or_product op.Times = true
is_sum_or_product _ = false

-- *
abbrev pub is_product : Op → Bool
is_product op.Times = true
is_product _ = false

-- << >>
abbrev pub is_shift : Op → Bool
is_shift op.ShiftLeft = true
is_shift op.ShiftRight = true
is_shift _ = false

-- &&
abbrev pub is_and : Op → Bool
is_and op.LogicalAnd = true
is_and _ = false

-- the sign -
abbrev pub is_minus : Sign → Bool
is_minus sign.Minus = true
is_minus _ = false

-- < <= > >= ==
abbrev pub is_comparison : Op → Bool
is_comparison op.Less = true
is_comparison op.AtMost = true
is_comparison op.Greater = true
is_comparison op.AtLeast = true
is_comparison op.Equal = true
is_comparison _ = false

-- a parameter or an iterator, whose loop may be open or not
abbrev pub is_number : Meaning → Bool
is_number (meaning.Variable k) = true
is_number meaning.Closed = true
is_number _ = false

-- signed: a constant without suffix, a parameter, an iterator, and sums, differences, products and opposites of such
-- (C17 6.3.1.8); every other value is unsigned
abbrev pub is_signed : Formula → Bool
is_signed (constant (suffix.Absent b) v at) = true
is_signed (name m at) = is_number m
is_signed (unary s f at) = is_minus s && is_signed f
is_signed (binary o f g at) = is_sum_or_product o && (is_signed f && is_signed g)
is_signed _ = false

-- a name stands in it
abbrev pub has_name : Formula → Bool
has_name (constant s v at) = false
has_name (unary s f at) = has_name f
has_name (cast w f at) = has_name f
has_name (binary o f g at) = has_name f || has_name g
has_name _ = true

-- uint32_t, in place of uint64_t
abbrev pub is_narrow_width : Width → Bool
is_narrow_width width.Narrow = true
is_narrow_width width.Full = false

-- an array of 32 bits
abbrev pub is_narrow_array : Meaning → Bool
is_narrow_array (meaning.Array k r narrow) = narrow
is_narrow_array _ = false

-- + - * & | ^
abbrev pub is_joining : Op → Bool
is_joining op.BitAnd = true
is_joining op.BitXor = true
is_joining op.BitOr = true
is_joining o = is_sum_or_product o

-- what an operator makes has 32 bits, by which of its sides have, and which are signed: a shift is as its left side
-- (C17 6.5.7p3), else one side has 32 bits, and the other has too or is signed of no more (6.3.1.8p1)
abbrev pub makes_narrow : Op → Bool → Bool → Bool → Bool → Bool
makes_narrow o left right left_signed right_signed =
    if is_shift o then left
    else (is_joining o && ((left && (right || right_signed)) || (left_signed && right)))

-- a sign whose result is of its operand's type: - ~
abbrev pub keeps_type : Sign → Bool
keeps_type sign.Not = false
keeps_type _ = true

-- unsigned with 32 bits: a cell of such an array, a cast to uint32_t, and what operators make of such; no integer
-- promotion reaches it, where int has 32 bits (C17 6.3.1.1p2)
abbrev pub is_narrow : Formula → Bool
is_narrow (index p i) = is_narrow_array (meaning_of p)
is_narrow (unary s f at) = keeps_type s && is_narrow f
is_narrow (cast w f at) = is_narrow_width w
is_narrow (binary o f g at) = makes_narrow o (is_narrow f) (is_narrow g) (is_signed f) (is_signed g)
is_narrow _ = false

-- the greatest constant of this base that has no more than 32 bits by its type (C17 6.4.4.1p5)
abbrev pub greatest : Base → ℕ
greatest base.Decimal = 2 ^ 31 - 1
greatest base.Hexadecimal = 2 ^ 32 - 1

-- a signed part that may stand beside 32 bits, to which C then converts it (C17 6.3.1.8p1): no name stands in it, and
-- a single constant has no more than 32 bits by its type (6.4.4.1p5)
abbrev pub is_bare : Formula → Bool
is_bare (constant (suffix.Absent b) v at) = nat_le v (greatest b)
is_bare f = not (has_name f)

-- a signed part that may not
abbrev pub is_long : Formula → Bool
is_long f = is_signed f && not (is_bare f)

-- one side has 32 bits, and the other is a signed part that may not stand beside it
abbrev pub mixes : Formula → Formula → Bool
mixes f g = (is_narrow f && is_long g) || (is_long f && is_narrow g)

-- a form times another, of which one is a constant: the right one where the left formula has a name
abbrev pub product_of_forms : Bool → Affine → Affine → Affine
product_of_forms left_has_name f g =
    if left_has_name then multiple_of_form g.constant f else multiple_of_form f.constant g

-- the sum, the difference or the product of two forms; n: whether a name stands in the left formula
abbrev pub combined_forms : Op → Bool → Affine → Affine → Affine
combined_forms op.Plus n f g = sum_of_forms f g
combined_forms op.Minus n f g = sum_of_forms f (multiple_of_form (negsuc 0) g)
combined_forms op.Times n f g = product_of_forms n f g
combined_forms _ n f g = f

-- the form over n entries that an affine formula is
abbrev pub form : ℕ → Formula → Affine
form n (constant s v at) = form_of (zeros n) (pos v)
form n (name (meaning.Variable k) at) = form_of (set (zeros n) k (pos 1)) (pos 0)
form n (unary sign.Minus f at) = multiple_of_form (negsuc 0) (form n f)
form n (binary o f g at) = combined_forms o (has_name f) (form n f) (form n g)
form n _ = form_of (zeros n) (pos 0)

-- a coefficient up to 16 in absolute value
abbrev pub is_small : ℤ → Bool
is_small c = nat_le (unsigned_abs c) 16

-- coefficients up to 16 and a constant up to 2^20 in absolute value
abbrev pub is_within : Affine → Bool
is_within f = list_all is_small f.coefficients && nat_le (unsigned_abs f.constant) (2 ^ 20)
