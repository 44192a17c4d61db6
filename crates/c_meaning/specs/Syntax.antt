-- A small C: the programs that emitted texts are, without their texts. A name is told by its place among those in
-- scope, the first declared at 0: parameters, iterators of the loops round it, constants in front of it. Arrays are told
-- by their numbers.
use Rattle.std.specs.Prelude.{ℕ, Bool, List}
use Rattle.scop_syntax.specs.Tree.{Operator}

-- the four functions at the head of a text
pub data Function : Type 0 where
  floord : Function
  ceild : Function
  greater_of : Function
  less_of : Function

-- what compares two numbers: a < b, a > b, a <= b, a >= b, a == b (C17 6.5.8, 6.5.9)
pub data Relation : Type 0 where
  below : Relation
  above : Relation
  at_most : Relation
  at_least : Relation
  equals : Relation

-- expressions of signed types: int or int64_t
pub data Expression : Type 0 where
  -- a decimal constant without suffix (6.4.4.1)
  number : ℕ → Expression
  -- a name of type int64_t (6.5.1p2)
  name : ℕ → Expression
  -- -a (6.5.3.3)
  opposite : Expression → Expression
  -- a * b, a / b (6.5.5)
  product : Expression → Expression → Expression
  quotient : Expression → Expression → Expression
  -- a + b, a - b (6.5.6)
  sum : Expression → Expression → Expression
  difference : Expression → Expression → Expression
  -- a REL b ? c : d (6.5.15)
  choice : Relation → Expression → Expression → Expression → Expression → Expression
  -- FUNCTION(a, b) (6.5.2.2)
  call : Function → Expression → Expression → Expression

-- a comparison: a REL b
pub record Comparison : Type 0 where
  pub relation : Relation
  pub left : Expression
  pub right : Expression

-- ARRAY[a][b].. (6.5.2.1)
pub record Place : Type 0 where
  pub array : ℕ
  pub subscripts : List Expression

-- expressions of unsigned types, uint32_t or uint64_t; a truth tells of a cast that it is to uint32_t
pub data Value : Type 0 where
  -- a decimal constant with the suffix ULL (6.4.4.1)
  constant : ℕ → Value
  -- what a place holds
  cell : Place → Value
  -- (TYPE)(a), where a is signed (6.5.4)
  of_signed : Bool → Expression → Value
  -- (TYPE)v (6.5.4)
  cast : Bool → Value → Value
  -- -v, ~v (6.5.3.3)
  negated : Value → Value
  complemented : Value → Value
  -- v + w, v - w, v * w, v & w, v | w, v ^ w (6.5.5, 6.5.6, 6.5.10 to 6.5.12)
  joined : Operator → Value → Value → Value
  -- v << k, v >> k by a constant (6.5.7)
  moved_left : Value → ℕ → Value
  moved_right : Value → ℕ → Value

-- what stands behind a place (6.5.16)
pub data Right : Type 0 where
  -- = v
  plain : Value → Right
  -- += v, -= v, *= v, &= v, |= v, ^= v
  compound : Operator → Value → Right
  -- <<= and >>= by a constant
  shifted_left : ℕ → Right
  shifted_right : ℕ → Right

-- PLACE RIGHT
pub record Assignment : Type 0 where
  pub place : Place
  pub right : Right

mutual
  pub data Statement : Type 0 where
    -- for (int64_t NAME = first; NAME <= last; NAME++) { body }, with `#pragma omp parallel for` in front or without
    loop : Bool → Expression → Expression → Statements → Statement
    -- if (c && d && ..) { body }: the comparison in front and those behind it
    branch : Comparison → List Comparison → Statements → Statement
    -- { const int64_t NAME = a; const int64_t NAME = b; .. ASSIGNMENT; }
    block : List Expression → Assignment → Statement

  -- statements, one after another
  pub data Statements : Type 0 where
    none : Statements
    more : Statement → Statements → Statements
