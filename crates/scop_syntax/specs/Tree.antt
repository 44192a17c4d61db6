-- What a kernel says, as plain data: the tree without the memory that holds it.
use Rattle.std.specs.Prelude.{ℕ, ℤ, Bool, List}
use Rattle.whole_numbers.specs.Affine.{Affine}

-- a cell: the array's number, and a form for each subscript
pub record Access : Type 0 where
  pub array : ℕ
  pub subscripts : List Affine

-- + - * & | ^ (C17 6.5.5, 6.5.6, 6.5.10 to 6.5.12)
pub data Operator : Type 0 where
  plus : Operator
  minus : Operator
  times : Operator
  bits_and : Operator
  bits_or : Operator
  bits_xor : Operator

-- why a value is kept to 32 bits: a cast of the text; the type of what an operator makes, or of what is stored (C17
-- 6.5.16.1p2); a signed part beside 32 bits (6.3.1.8)
pub data Narrowing : Type 0 where
  explicit : Narrowing
  implied : Narrowing
  converted : Narrowing

-- a value: cells, constants and affine parts, and what C makes of them
pub data Expression : Type 0 where
  read : Access → Expression
  constant : ℕ → Expression
  affine : Affine → Expression
  negated : Expression → Expression
  complemented : Expression → Expression
  cast : Expression → Expression
  binary : Operator → Expression → Expression → Expression
  shifted_left : Expression → ℕ → Expression
  shifted_right : Expression → ℕ → Expression
  narrowed : Narrowing → Expression → Expression

-- what stands behind the place: = e, op= e, <<= k, >>= k; narrow where what is stored is kept to 32 bits: `>>=` needs
-- no such form
pub data Right : Type 0 where
  assigned : Expression → Right
  combined : Operator → Expression → Right
  moved_left : ℕ → Right
  moved_right : ℕ → Right
  combined_narrow : Operator → Expression → Right
  moved_left_narrow : ℕ → Right

-- place = value;  or  place op= value;
pub record Statement : Type 0 where
  pub place : Access
  pub right : Right

-- one comparison of a guard: form >= 0 or form == 0, where form is the difference of the two sides
pub data Test : Type 0 where
  at_least : Affine → Test
  equal : Affine → Test

-- for (iterator = first; condition >= 0; iterator += stride)
pub record Head : Type 0 where
  pub iterator : List ℕ
  pub first : Affine
  pub stride : ℤ
  pub condition : Affine

-- a list of trees is a type of its own, since a type can't hold a list of itself
mutual
  -- a loop or a guard with its body, or a statement
  pub data Tree : Type 0 where
    loop : Head → Trees → Tree
    guard : List Test → Trees → Tree
    statement : Statement → Tree

  -- trees, one after another
  pub data Trees : Type 0 where
    none : Trees
    more : Tree → Trees → Trees

-- an array: how many of the parameters are declared before it, whether its cells have 32 bits in place of 64, and an
-- extent for each dimension, in the parameters
pub record Declaration : Type 0 where
  pub name : List ℕ
  pub parameters_before : ℕ
  pub narrow : Bool
  pub extents : List Affine

-- a kernel
pub record Program : Type 0 where
  pub name : List ℕ
  pub parameters : List (List ℕ)
  pub arrays : List Declaration
  pub body : Trees
