-- Expressions of the grammar have commas in calls alone.
use Rattle.scop_syntax.proofs.Common.{ℕ, ◌+◌, ◌≤◌, arith}
use Rattle.scop_expressions.specs.Op.TheVariants as op
use Rattle.scop_expressions.specs.Tree.{Tree, rank, IsPlace, WellBracketed, size}
use Rattle.scop_expressions.specs.Tree as tree
use Rattle.scop_roles.specs.Formula.{Lookup, formula}
use Rattle.scop_arithmetic.specs.Arithmetic.{HasNoComma}

place_rank : (t : Tree) → IsPlace t → 1 ≤ rank t
place_rank tree.name h = omega arith
place_rank (tree.index t i) h = omega arith
place_rank _ h = absurd h

pub no_comma : (look : Lookup) (at : ℕ) (t : Tree) → WellBracketed t → 1 ≤ rank t → HasNoComma (formula look at t)
no_comma look at (tree.constant s) w r = tt
no_comma look at tree.name w r = tt
no_comma look at (tree.group t) w r = no_comma look (at + 1) t w.1 w.0
no_comma look at (tree.index t i) w r =
    (no_comma look at t w.2 (place_rank t w.0), no_comma look (at + size t + 1) i w.3 w.1)
no_comma look at tree.bare_call w r = tt
no_comma look at (tree.call t) w r = tt
no_comma look at (tree.unary s t) w r = no_comma look (at + 1) t w.1 (let high = w.0 in omega arith)
no_comma look at (tree.cast k t) w r = no_comma look (at + 1 + 1 + 1) t w.1 (let high = w.0 in omega arith)
no_comma look at (tree.binary op.Comma a b) w r = absurd (omega arith)
no_comma look at (tree.binary o a b) w r = (
  no_comma look at a w.2 (let high = w.0 in omega arith),
  no_comma look (at + size a + 1) b w.3 (let high = w.1 in omega arith),
)
