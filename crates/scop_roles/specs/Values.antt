-- What a formula without faults stands for: a value, or the comparisons of a condition.
use Rattle.std.specs.Prelude.{◌≡◌, ℕ, Bool, true, false, ◌&&◌, if◌then◌else◌, ℤ, pos, negsuc, List, [], ◌∷◌, ◌++◌}
use Rattle.std.specs.Prelude.{None}
use Rattle.whole_numbers.specs.Affine.{Affine, form_of, sum_of_forms, multiple_of_form}
use Rattle.scop_syntax.specs.Tree.{Access, Operator, plus, minus, times, bits_and, bits_or, bits_xor, Expression, read}
use Rattle.scop_syntax.specs.Tree.{affine, negated, complemented, shifted_left, shifted_right, Narrowing, explicit}
use Rattle.scop_syntax.specs.Tree.{implied, converted, narrowed, Test, at_least, equal}
use Rattle.scop_syntax.specs.Tree as scop
use Rattle.scop_expressions.specs.Op.{Op}
use Rattle.scop_expressions.specs.Op.TheVariants as op
use Rattle.scop_expressions.specs.declared.token.Sign.{Sign}
use Rattle.scop_expressions.specs.declared.token.Sign.TheVariants as sign
use Rattle.scop_expressions.specs.Width.{Width}
use Rattle.scop_expressions.specs.Width.TheVariants as width
use Rattle.scop_roles.specs.declared.formula.Meaning.{Meaning}
use Rattle.scop_roles.specs.declared.formula.Meaning.TheVariants as meaning
use Rattle.scop_roles.specs.declared.formula.Role.TheVariants as role
use Rattle.scop_roles.specs.Faults.{first, faults}
use Rattle.scop_roles.specs.Formula.{Formula, constant, name, index, unary, cast, binary, meaning_of, place}
use Rattle.scop_roles.specs.Forms.{is_and, is_signed, is_narrow, form}

-- the number of an array, in declared order from 0
abbrev pub array_number : Meaning → ℕ
array_number (meaning.Array k r narrow) = k
array_number _ = 0

-- the forms of a place's subscripts
abbrev pub subscript_forms : ℕ → Formula → List Affine
subscript_forms n (index p i) = subscript_forms n p ++ form n i ∷ []
subscript_forms n _ = []

-- the cell that a place names
abbrev pub access : ℕ → Formula → Access
access n p = record { array = array_number (meaning_of p); subscripts = subscript_forms n p }

-- the operator of values that a binary operator is, but for shifts
abbrev pub operator : Op → Operator
operator op.Plus = plus
operator op.Minus = minus
operator op.Times = times
operator op.BitAnd = bits_and
operator op.BitXor = bits_xor
operator _ = bits_or

-- the number that a constant is
abbrev pub count : Formula → ℕ
count (constant s v at) = v
count _ = 0

-- a binary operator over the values of its sides; a shift's right side is a count
abbrev pub combined : Op → Expression → Expression → ℕ → Expression
combined op.ShiftLeft e d k = shifted_left e k
combined op.ShiftRight e d k = shifted_right e k
combined o e d k = scop.binary (operator o) e d

-- a sign over the value of its operand
abbrev pub signed_value : Sign → Expression → Expression
signed_value sign.Minus e = negated e
signed_value s e = complemented e

-- a value is kept to 32 bits, where this is so
abbrev pub narrowed_where : Bool → Narrowing → Expression → Expression
narrowed_where true w e = narrowed w e
narrowed_where false w e = e

-- a cast of a value
abbrev pub cast_to : Width → Expression → Expression
cast_to width.Narrow e = narrowed explicit e
cast_to width.Full e = scop.cast e

-- the value of an operator over those of its sides f and g; a signed side of an operator of 32 bits is converted
abbrev pub joined : Op → Formula → Formula → ℕ → Expression → Expression → Expression
joined o f g at d e =
    let narrow = is_narrow (binary o f g at) in
    narrowed_where narrow implied (combined o
    (narrowed_where (narrow && is_signed f) converted d)
    (narrowed_where (narrow && is_signed g) converted e) (count g))

-- the value that a formula stands for: a largest signed part is its constant or its affine form
abbrev pub expression : ℕ → Formula → Expression
expression n (constant s v at) = scop.constant v
expression n (name m at) = affine (form n (name m at))
expression n (index p i) = read (access n (index p i))
expression n (unary s f at) =
    if is_signed (unary s f at)
    then affine (form n (unary s f at))
    else narrowed_where (is_narrow (unary s f at)) implied (signed_value s (expression n f))
expression n (cast w f at) = cast_to w (expression n f)
expression n (binary o f g at) =
    if is_signed (binary o f g at)
    then affine (form n (binary o f g at))
    else joined o f g at (expression n f) (expression n g)
expression n _ = scop.constant 0

-- an expression is the value of a formula, if that has no fault as one
abbrev pub IsValueOf : ℕ → Formula → Expression → Type 0
IsValueOf n f e = first (faults n role.Value f) ≡ None → e ≡ expression n f

-- so it is of an operator's side, that is converted where it is signed and the operator has 32 bits
abbrev pub IsSideOf : ℕ → Bool → Formula → Expression → Type 0
IsSideOf n narrow f e =
    first (faults n role.Value f) ≡ None → e ≡ narrowed_where (narrow && is_signed f) converted (expression n f)

-- f - g + k
abbrev pub difference : Affine → Affine → ℤ → Affine
difference f g k = sum_of_forms (sum_of_forms f (multiple_of_form (negsuc 0) g)) (form_of [] k)

-- one comparison: a < b is b - a - 1 >= 0, a <= b is b - a >= 0, a == b is a - b = 0
abbrev pub comparison : Op → Affine → Affine → Test
comparison op.Less f g = at_least (difference g f (negsuc 0))
comparison op.AtMost f g = at_least (difference g f (pos 0))
comparison op.Greater f g = at_least (difference f g (negsuc 0))
comparison op.AtLeast f g = at_least (difference f g (pos 0))
comparison _ f g = equal (difference f g (pos 0))

-- what is asked of the difference that an operator compares with 0
abbrev pub asked : Op → Affine → Test
asked op.Less f = at_least f
asked op.AtMost f = at_least f
asked op.Greater f = at_least f
asked op.AtLeast f = at_least f
asked _ f = equal f

-- the comparisons that a condition joins, from left to right
abbrev pub tests : ℕ → Formula → List Test
tests n (binary o f g at) = if is_and o then tests n f ++ tests n g else comparison o (form n f) (form n g) ∷ []
tests n _ = []

-- the places of the cells that a value reads, from left to right
abbrev pub read_places : Formula → List ℕ
read_places (index p i) = place p ∷ []
read_places (unary s f at) = read_places f
read_places (cast w f at) = read_places f
read_places (binary o f g at) = read_places f ++ read_places g
read_places _ = []
