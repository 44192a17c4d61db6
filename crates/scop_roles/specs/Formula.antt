-- Expressions with their names looked up: the syntax tree without its parentheses, each node with the place of its
-- token among the tokens of the text.
use Rattle.std.specs.Prelude.{ℕ, ◌+◌}
use Rattle.std.specs.List.{fold}
use Rattle.scop_expressions.specs.Op.{Op}
use Rattle.scop_expressions.specs.Op.TheVariants as op
use Rattle.scop_expressions.specs.declared.token.Sign.{Sign}
use Rattle.scop_expressions.specs.Suffix.{Suffix}
use Rattle.scop_expressions.specs.Width.{Width}
use Rattle.scop_expressions.specs.Tree as tree
use Rattle.scop_roles.specs.declared.formula.Meaning.{Meaning}
use Rattle.scop_roles.specs.declared.formula.Meaning.TheVariants as meaning
use Rattle.scop_roles.specs.declared.formula.Argument.{Argument as CodeArgument}
use Rattle.scop_roles.specs.declared.formula.Formula.{Formula as CodeFormula}
use Rattle.scop_roles.specs.declared.formula.Formula.TheFolds.{fold-Formula}
use Rattle.scop_roles.specs.declared.formula.Formula.TheOpen.{Argument-F, Formula-F}

-- a constant with its number, a name with its meaning, and what is made of them, each with the place of its token
pub data Formula : Type 0 where
  constant : Suffix → ℕ → ℕ → Formula
  name : Meaning → ℕ → Formula
  -- place [ subscript ]
  index : Formula → Formula → Formula
  -- name ( )
  bare_call : Meaning → ℕ → Formula
  -- name ( arguments ), the arguments joined by commas
  call : Meaning → Formula → ℕ → Formula
  unary : Sign → Formula → ℕ → Formula
  cast : Width → Formula → ℕ → Formula
  binary : Op → Formula → Formula → ℕ → Formula

-- what the names of a text mean where an expression stands, and what its constants are worth, by the places of tokens
pub record Lookup : Type 0 where
  pub meaning : ℕ → Meaning
  pub worth : ℕ → ℕ

-- the formula of a tree that begins at a place
abbrev pub formula : Lookup → ℕ → tree.Tree → Formula
formula look at (tree.constant s) = constant s (look.worth at) at
formula look at tree.name = name (look.meaning at) at
formula look at (tree.group t) = formula look (at + 1) t
formula look at (tree.index t i) = index (formula look at t) (formula look (at + tree.size t + 1) i)
formula look at tree.bare_call = bare_call (look.meaning at) at
formula look at (tree.call t) = call (look.meaning at) (formula look (at + 1 + 1) t) at
formula look at (tree.unary s t) = unary s (formula look (at + 1) t) at
formula look at (tree.cast w t) = cast w (formula look (at + 1 + 1 + 1) t) at
formula look at (tree.binary o a b) =
    binary o (formula look at a) (formula look (at + tree.size a + 1) b) (at + tree.size a)

-- where a formula is told: at its operator, else at its first token
abbrev pub place : Formula → ℕ
place (constant s v at) = at
place (name m at) = at
place (index p i) = place p
place (bare_call m at) = at
place (call m f at) = at
place (unary s f at) = at
place (cast w f at) = at
place (binary o f g at) = at

-- what the name of a place means
abbrev pub meaning_of : Formula → Meaning
meaning_of (name m at) = m
meaning_of (index p i) = meaning_of p
meaning_of _ = meaning.Unknown

-- how many subscripts a place has
abbrev pub subscripts : Formula → ℕ
subscripts (index p i) = subscripts p + 1
subscripts _ = 0

-- arguments with one more behind a comma
abbrev pub with_argument : Formula → Formula × ℕ → Formula
with_argument f a = binary op.Comma f a.0 a.1

-- one level of a formula, over the views of the levels below
abbrev pub formula_step : Formula-F Formula (Formula × ℕ) → Formula
formula_step (Formula-F.Constant s v at) = constant s v at
formula_step (Formula-F.Name m at) = name m at
formula_step (Formula-F.Index p is i) = index (fold index p.value is.items) i.value
formula_step (Formula-F.BareCall m at) = bare_call m at
formula_step (Formula-F.Call m f at) = call m f.value at
formula_step (Formula-F.Unary s f at) = unary s f.value at
formula_step (Formula-F.Cast w f at) = cast w f.value at
formula_step (Formula-F.Commas f gs g at) = binary op.Comma (fold with_argument f.value gs.items) g.value at
formula_step (Formula-F.Binary o f g at) = binary o f.value g.value at

-- one level of an argument, with its comma, over the view of the level below
abbrev pub argument_step : Argument-F Formula (Formula × ℕ) → Formula × ℕ
argument_step a = (a.value, a.comma)

-- the formula that a value of the code stands for
abbrev pub formula_of : CodeFormula → Formula
formula_of = fold-Formula Formula (Formula × ℕ) formula_step argument_step

-- an argument and its comma
abbrev pub argument_of : CodeArgument → Formula × ℕ
argument_of a = (formula_of a.value, a.comma)
