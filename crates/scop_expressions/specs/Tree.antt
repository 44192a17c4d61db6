-- The grammar of expressions: trees that keep every spelling, the tokens of a tree, and how tightly its
-- operators bind. ISO/IEC 9899:2018, 6.5.1 to 6.5.14 and 6.5.17, without the forms that this grammar leaves out.
use Rattle.std.specs.Prelude.{ℕ, ◌+◌, ◌<◌, ◌≤◌, max, List, [], ◌∷◌, ◌++◌, length, ⊤}
use Rattle.scop_tokens.specs.declared.Op.{Op}
use Rattle.scop_tokens.specs.declared.Op.TheVariants as op
use Rattle.scop_expressions.specs.declared.token.Sign.{Sign}
use Rattle.scop_expressions.specs.declared.token.Sign.TheVariants as sign
use Rattle.scop_tokens.specs.declared.Suffix.{Suffix}
use Rattle.scop_tokens.specs.declared.Token.{Token}
use Rattle.scop_tokens.specs.declared.Token.TheVariants as token
use Rattle.scop_tokens.specs.declared.Width.{Width}
use Rattle.scop_expressions.specs.declared.node.Node.{Node}
use Rattle.scop_expressions.specs.declared.node.Node.TheVariants as node

-- an expression with all its spelling; a constant has its suffix alone, since its value is no part of the grammar
pub data Tree : Type 0 where
  constant : Suffix → Tree
  name : Tree
  -- ( tree )
  group : Tree → Tree
  -- place [ tree ]
  index : Tree → Tree → Tree
  -- name ( )
  bare_call : Tree
  -- name ( arguments ), the arguments joined by commas
  call : Tree → Tree
  unary : Sign → Tree → Tree
  -- ( uint64_t ) tree, ( uint32_t ) tree
  cast : Width → Tree → Tree
  binary : Op → Tree → Tree → Tree

-- the token of a sign
abbrev pub sign_token : Sign → Token
sign_token sign.Minus = token.Binary op.Minus
sign_token sign.Complement = token.Complement
sign_token sign.Not = token.Not

-- the tokens that a tree is spelled by
abbrev pub tokens_of : Tree → List Token
tokens_of (constant c) = token.Constant c ∷ []
tokens_of name = token.Name ∷ []
tokens_of (group t) = token.Open ∷ (tokens_of t ++ token.Close ∷ [])
tokens_of (index t i) = tokens_of t ++ token.OpenIndex ∷ (tokens_of i ++ token.CloseIndex ∷ [])
tokens_of bare_call = token.Name ∷ token.Open ∷ token.Close ∷ []
tokens_of (call t) = token.Name ∷ token.Open ∷ (tokens_of t ++ token.Close ∷ [])
tokens_of (unary s t) = sign_token s ∷ tokens_of t
tokens_of (cast w t) = token.Open ∷ token.Unsigned w ∷ token.Close ∷ tokens_of t
tokens_of (binary o a b) = tokens_of a ++ token.Binary o ∷ tokens_of b

-- how tightly an operator binds
abbrev pub level : Op → ℕ
level op.Comma = 0
level op.LogicalOr = 1
level op.LogicalAnd = 2
level op.BitOr = 3
level op.BitXor = 4
level op.BitAnd = 5
level op.Equal = 6
level op.NotEqual = 6
level op.Less = 7
level op.AtMost = 7
level op.Greater = 7
level op.AtLeast = 7
level op.ShiftLeft = 8
level op.ShiftRight = 8
level op.Plus = 9
level op.Minus = 9
level op.Times = 10
level op.Divide = 10
level op.Remainder = 10

-- how tightly a tree holds together: as its operator does; a sign and a cast more than any binary operator
abbrev pub rank : Tree → ℕ
rank (binary o a b) = level o
rank (unary s t) = 11
rank (cast w t) = 11
rank _ = 12

-- a name, or a name with subscripts
abbrev pub IsPlace : Tree → Type 0
IsPlace name = ⊤
IsPlace (index t i) = ⊤
IsPlace _ = ⊥

-- each operand is a tree that may stand there without parentheses: on the left of a binary operator one of
-- its level or above, on the right one above, and a comma in a call alone
abbrev pub WellBracketed : Tree → Type 0
WellBracketed (constant c) = ⊤
WellBracketed name = ⊤
WellBracketed (group t) = (1 ≤ rank t) × WellBracketed t
WellBracketed (index t i) = IsPlace t × (1 ≤ rank i) × WellBracketed t × WellBracketed i
WellBracketed bare_call = ⊤
WellBracketed (call t) = WellBracketed t
WellBracketed (unary s t) = (11 ≤ rank t) × WellBracketed t
WellBracketed (cast w t) = (11 ≤ rank t) × WellBracketed t
WellBracketed (binary o a b) = (level o ≤ rank a) × (level o < rank b) × WellBracketed a × WellBracketed b

-- how many brackets are open at the deepest place
abbrev pub depth : Tree → ℕ
depth (constant c) = 0
depth name = 0
depth (group t) = depth t + 1
depth (index t i) = max (depth t) (depth i + 1)
depth bare_call = 1
depth (call t) = depth t + 1
depth (unary s t) = depth t
depth (cast w t) = max 1 (depth t)
depth (binary o a b) = max (depth a) (depth b)

-- a comma is no operator
abbrev pub cost : Op → ℕ
cost op.Comma = 0
cost _ = 1

-- how many operators a tree has
abbrev pub operators : Tree → ℕ
operators (constant c) = 0
operators name = 0
operators (group t) = operators t
operators (index t i) = operators t + operators i
operators bare_call = 0
operators (call t) = operators t
operators (unary s t) = operators t + 1
operators (cast w t) = operators t + 1
operators (binary o a b) = operators a + (cost o + operators b)

-- how many tokens a tree has
abbrev pub size : Tree → ℕ
size t = length (tokens_of t)

-- the nodes of a tree that begins at a place among the tokens
abbrev pub written : ℕ → Tree → List Node
written at (constant c) = node.Constant c at ∷ []
written at name = node.Name at ∷ []
written at (group t) = written (at + 1) t
written at (index t i) = written at t ++ (written (at + size t + 1) i ++ node.Index (at + size t) ∷ [])
written at bare_call = node.Name at ∷ node.BareCall (at + 1) ∷ []
written at (call t) = node.Name at ∷ (written (at + 1 + 1) t ++ node.Call (at + 1) ∷ [])
written at (unary s t) = written (at + 1) t ++ node.Unary s at ∷ []
written at (cast w t) = written (at + 1 + 1 + 1) t ++ node.Cast w at ∷ []
written at (binary o a b) = written at a ++ (written (at + size a + 1) b ++ node.Binary o (at + size a) ∷ [])
