-- What the expressions of a text are worth by C's own arithmetic (ISO/IEC 9899:2018). A point has the parameters and,
-- behind them, the iterators of the open loops.
use Rattle.std.specs.Prelude.{◌≡◌, ℕ, ◌+◌, ◌-◌, ◌*◌, ◌/◌, ◌%◌, ◌^◌, ◌<◌, ◌≤◌, Bool, true, false, if◌then◌else◌, ℤ, pos}
use Rattle.std.specs.Prelude.{neg_ℤ, ◌+ℤ◌, ◌-ℤ◌, ◌*ℤ◌}
use Rattle.std.specs.Prelude.{◌≤ℤ◌, ◌<ℤ◌, List, [], ◌∷◌, ◌++◌, get_or, ⊤}
use Rattle.scop_expressions.specs.Assign.{Assign}
use Rattle.scop_expressions.specs.Assign.TheVariants as assign
use Rattle.scop_expressions.specs.Base.{Base}
use Rattle.scop_expressions.specs.Base.TheVariants as base
use Rattle.scop_expressions.specs.Count.TheVariants as count
use Rattle.scop_expressions.specs.Op.{Op}
use Rattle.scop_expressions.specs.Op.TheVariants as op
use Rattle.scop_expressions.specs.declared.token.Sign.TheVariants as sign
use Rattle.scop_expressions.specs.Suffix.TheVariants as suffix
use Rattle.scop_expressions.specs.Width.{Width}
use Rattle.scop_expressions.specs.Width.TheVariants as width
use Rattle.scop_syntax.specs.Tree.{Operator, plus, minus, times, bits_and, bits_or, bits_xor}
use Rattle.scop_syntax.specs.Cells.{Cell}
use Rattle.scop_syntax.specs.Values.{wrapped, applied, applied_narrow}
use Rattle.scop_roles.specs.declared.formula.Meaning.{Meaning}
use Rattle.scop_roles.specs.declared.formula.Meaning.TheVariants as meaning
use Rattle.scop_roles.specs.Formula.{Formula, constant, name, index, bare_call, call, unary, cast, binary}
use Rattle.scop_units.specs.Loops.{Change, counted, assigned}

-- the whole number that a signed expression is at a point, where its names are entries, and nothing overflows
-- (C17 6.5.3.3p3, 6.5.5p5, 6.5.6p5 and p6)
abbrev pub whole : List ℤ → Formula → ℤ
whole p (constant s v at) = pos v
whole p (name (meaning.Variable k) at) = get_or p k (pos 0)
whole p (unary sign.Minus f at) = neg_ℤ (whole p f)
whole p (binary op.Plus f g at) = whole p f +ℤ whole p g
whole p (binary op.Minus f g at) = whole p f -ℤ whole p g
whole p (binary op.Times f g at) = whole p f *ℤ whole p g
whole p _ = pos 0

-- an expression has a whole number: constants without suffix, entries, and opposites, sums, differences and products
abbrev pub HasWhole : Formula → Type 0
HasWhole (constant (suffix.Absent b) v at) = ⊤
HasWhole (name (meaning.Variable k) at) = ⊤
HasWhole (unary sign.Minus f at) = HasWhole f
HasWhole (binary op.Plus f g at) = HasWhole f × HasWhole g
HasWhole (binary op.Minus f g at) = HasWhole f × HasWhole g
HasWhole (binary op.Times f g at) = HasWhole f × HasWhole g
HasWhole _ = ⊥

-- a condition of signed sides holds at a point (6.5.8p6, 6.5.9p3, 6.5.13p3)
abbrev pub Holds : List ℤ → Formula → Type 0
Holds p (binary op.Less f g at) = whole p f <ℤ whole p g
Holds p (binary op.AtMost f g at) = whole p f ≤ℤ whole p g
Holds p (binary op.Greater f g at) = whole p g <ℤ whole p f
Holds p (binary op.AtLeast f g at) = whole p g ≤ℤ whole p f
Holds p (binary op.Equal f g at) = whole p f ≡ whole p g
Holds p (binary op.LogicalAnd f g at) = Holds p f × Holds p g
Holds p _ = ⊥

-- a condition has a truth: comparisons of such expressions, joined by &&
abbrev pub HasTruth : Formula → Type 0
HasTruth (binary op.Less f g at) = HasWhole f × HasWhole g
HasTruth (binary op.AtMost f g at) = HasWhole f × HasWhole g
HasTruth (binary op.Greater f g at) = HasWhole f × HasWhole g
HasTruth (binary op.AtLeast f g at) = HasWhole f × HasWhole g
HasTruth (binary op.Equal f g at) = HasWhole f × HasWhole g
HasTruth (binary op.LogicalAnd f g at) = HasTruth f × HasTruth g
HasTruth _ = ⊥

-- the number of the array that a place is of
abbrev pub array_named : Formula → ℕ
array_named (name (meaning.Array k r b) at) = k
array_named (index q i) = array_named q
array_named _ = 0

-- the whole numbers of a place's subscripts, in order (6.5.2.1)
abbrev pub subscripts_at : List ℤ → Formula → List ℤ
subscripts_at p (index q i) = subscripts_at p q ++ whole p i ∷ []
subscripts_at p _ = []

-- the cell that a place is at a point
abbrev pub cell : List ℤ → Formula → Cell
cell p f = record { array = array_named f; subscripts = subscripts_at p f }

-- a place has a cell: the name of an array with such expressions as subscripts
abbrev pub HasCell : Formula → Type 0
HasCell (name (meaning.Array k r b) at) = ⊤
HasCell (index q i) = HasCell q × HasWhole i
HasCell _ = ⊥

-- the types of values: int or int64_t; uint32_t, which int does not hold, so that no promotion changes it (6.3.1.1p2);
-- uint64_t (7.20.1.1)
pub data Class : Type 0 where
  signed : Class
  narrow : Class
  full : Class

-- the type to which both sides of an operator are converted: unsigned where one side is, and then as wide as the widest
-- (6.3.1.8p1)
abbrev pub common : Class → Class → Class
common signed c = c
common full c = full
common narrow full = full
common narrow c = narrow

-- the type of what an operator makes, by those of its sides: a shift has that of its left side, and truth is an int
-- (6.3.1.8p1, 6.5.7p3, 6.5.8p6, 6.5.9p3, 6.5.13p3, 6.5.14p3, 6.5.17p2)
abbrev pub made : Op → Class → Class → Class
made op.Times c d = common c d
made op.Divide c d = common c d
made op.Remainder c d = common c d
made op.Plus c d = common c d
made op.Minus c d = common c d
made op.ShiftLeft c d = c
made op.ShiftRight c d = c
made op.Less c d = signed
made op.AtMost c d = signed
made op.Greater c d = signed
made op.AtLeast c d = signed
made op.Equal c d = signed
made op.NotEqual c d = signed
made op.BitAnd c d = common c d
made op.BitXor c d = common c d
made op.BitOr c d = common c d
made op.LogicalAnd c d = signed
made op.LogicalOr c d = signed
made op.Comma c d = d

-- the type of a name that is a value: a parameter and an iterator are signed
abbrev pub name_class : Meaning → Class
name_class (meaning.Variable k) = signed
name_class meaning.Closed = signed
name_class _ = full

-- the type of the cells of the array that a place is of, by its declaration
abbrev pub cell_class : Formula → Class
cell_class (name (meaning.Array k r true) at) = narrow
cell_class (index q i) = cell_class q
cell_class _ = full

-- the type that a text names
abbrev pub named_class : Width → Class
named_class width.Narrow = narrow
named_class width.Full = full

-- the type of an expression (6.4.4.1p5, 6.5.3.3p3 to p5, 6.5.4); a call has none here. A constant that is no int stands
-- beside uint64_t alone, or is an unsigned int beside uint32_t, where its own type makes no difference.
abbrev pub class : Formula → Class
class (constant (suffix.Absent b) v at) = signed
class (constant suffix.Present v at) = full
class (name m at) = name_class m
class (index q i) = cell_class q
class (bare_call m at) = full
class (call m f at) = full
class (unary sign.Minus f at) = class f
class (unary sign.Complement f at) = class f
class (unary sign.Not f at) = signed
class (cast w f at) = named_class w
class (binary o f g at) = made o (class f) (class g)

-- a type is signed
abbrev pub is_signed_class : Class → Bool
is_signed_class signed = true
is_signed_class _ = false

-- an expression is of a signed type
abbrev pub has_sign : Formula → Bool
has_sign f = is_signed_class (class f)

-- how many bits a value of a type has
abbrev pub bits : Class → ℕ
bits narrow = 32
bits _ = 64

-- a value is converted to a type: to uint32_t modulo 2^32, and none is too large for the others (6.3.1.3p1 and p2)
abbrev pub kept : Class → ℕ → ℕ
kept narrow v = v % 2 ^ 32
kept _ v = v

-- what an operator of two sides makes in an unsigned type, to which both are converted first, modulo 2^32 or 2^64 (6.2.5p9,
-- 6.3.1.8p1, 6.5.5p5, 6.5.6p5 and p6, 6.5.10p4, 6.5.11p4, 6.5.12p4)
abbrev pub joined : Class → Operator → ℕ → ℕ → ℕ
joined narrow k a b = applied_narrow k (kept narrow a) (kept narrow b)
joined _ k a b = applied k a b

-- a signed expression is converted: its whole number modulo 2^64; an unsigned one has its own value (6.3.1.3p2)
abbrev pub converted : List ℤ → Formula → ℕ → ℕ
converted p f own = if has_sign f then wrapped (whole p f) else own

-- what an operator makes of two sides of these values
abbrev pub computed : List ℤ → Formula → Operator → ℕ → ℕ → ℕ
computed p f k a b = converted p f (joined (class f) k a b)

-- an expression's value at a point as a number of 64 bits, where each cell holds one; that of uint32_t is below 2^32
-- (6.2.5p9, 6.5.3.3p3 and p4, 6.5.4 to 6.5.7, 6.5.10 to 6.5.12); what no value may have is worth 0
abbrev pub word : (Cell → ℕ) → List ℤ → Formula → ℕ
word held p (constant s v at) = converted p (constant s v at) v
word held p (name m at) = converted p (name m at) 0
word held p (index q i) = held (cell p (index q i))
word held p (unary sign.Minus f at) =
    converted p (unary sign.Minus f at) ((2 ^ bits (class f) - word held p f) % 2 ^ bits (class f))
word held p (unary sign.Complement f at) =
    converted p (unary sign.Complement f at) (2 ^ bits (class f) - 1 - word held p f)
word held p (cast w f at) = kept (named_class w) (word held p f)
word held p (binary op.Plus f g at) = computed p (binary op.Plus f g at) plus (word held p f) (word held p g)
word held p (binary op.Minus f g at) = computed p (binary op.Minus f g at) minus (word held p f) (word held p g)
word held p (binary op.Times f g at) = computed p (binary op.Times f g at) times (word held p f) (word held p g)
word held p (binary op.BitAnd f g at) = computed p (binary op.BitAnd f g at) bits_and (word held p f) (word held p g)
word held p (binary op.BitOr f g at) = computed p (binary op.BitOr f g at) bits_or (word held p f) (word held p g)
word held p (binary op.BitXor f g at) = computed p (binary op.BitXor f g at) bits_xor (word held p f) (word held p g)
word held p (binary op.ShiftLeft f g at) =
    converted p (binary op.ShiftLeft f g at) ((word held p f * 2 ^ word held p g) % 2 ^ bits (class f))
word held p (binary op.ShiftRight f g at) =
    converted p (binary op.ShiftRight f g at) (word held p f / 2 ^ word held p g)
word held p _ = 0

-- the cells that an expression reads at a point hold numbers of their types: in an array of uint32_t below 2^32
abbrev pub HoldTypes : (Cell → ℕ) → List ℤ → Formula → Type 0
HoldTypes held p (index q i) = cell_class q ≡ narrow → held (cell p (index q i)) < 2 ^ 32
HoldTypes held p (unary s f at) = HoldTypes held p f
HoldTypes held p (cast w f at) = HoldTypes held p f
HoldTypes held p (binary o f g at) = HoldTypes held p f × HoldTypes held p g
HoldTypes held p _ = ⊤

-- a constant without suffix that a shift of a value of this type may have (6.5.7p3)
abbrev pub IsCount : Class → Formula → Type 0
IsCount c (constant (suffix.Absent b) v at) = v < bits c
IsCount c _ = ⊥

-- the greatest constant without suffix of type int or unsigned int, by its base (6.4.4.1p5)
abbrev pub greatest : Base → ℕ
greatest base.Decimal = 2 ^ 31 - 1
greatest base.Hexadecimal = 2 ^ 32 - 1

-- a signed expression has no more than 32 bits: names are of int64_t
abbrev pub IsShort : Formula → Type 0
IsShort (constant (suffix.Absent b) v at) = v ≤ greatest b
IsShort (unary sign.Minus f at) = IsShort f
IsShort (binary op.Plus f g at) = IsShort f × IsShort g
IsShort (binary op.Minus f g at) = IsShort f × IsShort g
IsShort (binary op.Times f g at) = IsShort f × IsShort g
IsShort _ = ⊥

-- a signed expression beside a value of this type is no wider, so that it is converted to that type (6.3.1.8p1)
abbrev pub MayStandBeside : Class → Formula → Type 0
MayStandBeside c f = c ≡ narrow → class f ≡ signed → IsShort f

-- both sides of an operator, each beside the other
abbrev pub MayJoin : Formula → Formula → Type 0
MayJoin f g = MayStandBeside (class f) g × MayStandBeside (class g) f

-- an expression has a word: what is signed is an opposite, a sum, a difference or a product, or has no operator
abbrev pub HasWord : Formula → Type 0
HasWord (constant s v at) = ⊤
HasWord (name m at) = HasWhole (name m at)
HasWord (index q i) = HasCell (index q i)
HasWord (unary sign.Minus f at) = HasWord f
HasWord (unary sign.Complement f at) = (has_sign f ≡ false) × HasWord f
HasWord (cast w f at) = HasWord f
HasWord (binary op.Plus f g at) = HasWord f × HasWord g × MayJoin f g
HasWord (binary op.Minus f g at) = HasWord f × HasWord g × MayJoin f g
HasWord (binary op.Times f g at) = HasWord f × HasWord g × MayJoin f g
HasWord (binary op.BitAnd f g at) = (has_sign (binary op.BitAnd f g at) ≡ false) × HasWord f × HasWord g × MayJoin f g
HasWord (binary op.BitOr f g at) = (has_sign (binary op.BitOr f g at) ≡ false) × HasWord f × HasWord g × MayJoin f g
HasWord (binary op.BitXor f g at) = (has_sign (binary op.BitXor f g at) ≡ false) × HasWord f × HasWord g × MayJoin f g
HasWord (binary op.ShiftLeft f g at) = (has_sign f ≡ false) × HasWord f × IsCount (class f) g
HasWord (binary op.ShiftRight f g at) = (has_sign f ≡ false) × HasWord f × IsCount (class f) g
HasWord _ = ⊥

-- the cells that a value reads at a point, from left to right
abbrev pub cells_in : List ℤ → Formula → List Cell
cells_in p (index q i) = cell p (index q i) ∷ []
cells_in p (unary s f at) = cells_in p f
cells_in p (cast w f at) = cells_in p f
cells_in p (binary o f g at) = cells_in p f ++ cells_in p g
cells_in p _ = []

-- the cells that `place operator value` reads, where c is the place's: all operators but = read it first
abbrev pub cells_read : Assign → Cell → List Cell → List Cell
cells_read assign.Set c cs = cs
cells_read _ c cs = c ∷ cs

-- no comma stands outside of a call's arguments
abbrev pub HasNoComma : Formula → Type 0
HasNoComma (constant s v at) = ⊤
HasNoComma (name m at) = ⊤
HasNoComma (index q i) = HasNoComma q × HasNoComma i
HasNoComma (bare_call m at) = ⊤
HasNoComma (call m f at) = ⊤
HasNoComma (unary s f at) = HasNoComma f
HasNoComma (cast w f at) = HasNoComma f
HasNoComma (binary op.Comma f g at) = ⊥
HasNoComma (binary o f g at) = HasNoComma f × HasNoComma g

-- what `place operator value` stores, by the types of place and value, the cell's own number v and the value w: an
-- operator computes as between values (6.5.16.2p3), and what is stored is converted to the place's type (6.5.16.1p2)
abbrev pub stored : Class → Class → Assign → ℕ → ℕ → ℕ
stored c d assign.Set v w = kept c w
stored c d assign.Plus v w = kept c (joined (common c d) plus v w)
stored c d assign.Minus v w = kept c (joined (common c d) minus v w)
stored c d assign.Times v w = kept c (joined (common c d) times v w)
stored c d assign.And v w = kept c (joined (common c d) bits_and v w)
stored c d assign.Or v w = kept c (joined (common c d) bits_or v w)
stored c d assign.Xor v w = kept c (joined (common c d) bits_xor v w)
stored c d assign.ShiftLeft v w = (v * 2 ^ w) % 2 ^ bits c
stored c d assign.ShiftRight v w = v / 2 ^ w
stored c d _ v w = 0

-- an operator stores something of this value in a place of this type
abbrev pub HasStored : Class → Assign → Formula → Type 0
HasStored c assign.Set f = HasWord f
HasStored c assign.Divide f = ⊥
HasStored c assign.Remainder f = ⊥
HasStored c assign.ShiftLeft f = IsCount c f
HasStored c assign.ShiftRight f = IsCount c f
HasStored c _ f = HasWord f × MayStandBeside c f

-- a name means entry k
abbrev pub IsEntry : ℕ → Meaning → Type 0
IsEntry k (meaning.Variable j) = j ≡ k
IsEntry k m = ⊥

-- an expression is the name of entry k
abbrev pub IsNameOf : ℕ → Formula → Type 0
IsNameOf k (name m at) = IsEntry k m
IsNameOf k f = ⊥

-- what the third part of a `for` makes of the iterator, which is entry k of a point inside the loop (6.5.2.4p2 and p3,
-- 6.5.3.1p2 and p3, 6.5.16.1p2, 6.5.16.2p3)
abbrev pub after_step : List ℤ → ℕ → Change → ℤ
after_step p k (counted count.Up) = get_or p k (pos 0) +ℤ pos 1
after_step p k (counted count.Down) = get_or p k (pos 0) -ℤ pos 1
after_step p k (assigned assign.Plus f) = get_or p k (pos 0) +ℤ whole p f
after_step p k (assigned assign.Minus f) = get_or p k (pos 0) -ℤ whole p f
after_step p k (assigned assign.Set f) = whole p f
after_step p k (assigned _ f) = pos 0

-- a step makes something of an iterator
abbrev pub HasStep : Change → Type 0
HasStep (counted c) = ⊤
HasStep (assigned assign.Plus f) = HasWhole f
HasStep (assigned assign.Minus f) = HasWhole f
HasStep (assigned assign.Set f) = HasWhole f
HasStep (assigned _ f) = ⊥
