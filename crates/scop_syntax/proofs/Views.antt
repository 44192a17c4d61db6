-- The trees and expressions that the code's values stand for: what code that makes them wants.
use Rattle.whole_numbers.proofs.Common.{◌≡◌, Vec, Global, ap, sym, ◌∙◌, Box}
use Rattle.scop_syntax.specs.Tree.{binary, Head, loop, statement}
use Rattle.scop_syntax.specs.declared.tree.Operator.{Operator as Code}
use Rattle.scop_syntax.specs.declared.tree.Expr.{Expr}
use Rattle.scop_syntax.specs.declared.tree.Expr.TheVariants.{Binary, rolls-Binary}
use Rattle.scop_syntax.specs.declared.tree.Expr.TheFolds.{fold-roll-Expr}
use Rattle.scop_syntax.specs.declared.tree.Expr.TheOpen.{Expr-F}
use Rattle.scop_syntax.specs.declared.tree.Item.{Item}
use Rattle.scop_syntax.specs.declared.tree.Item.TheVariants.{Loop, Stmt, rolls-Loop, rolls-Stmt}
use Rattle.scop_syntax.specs.declared.tree.Item.TheFolds.{fold-roll-Item}
use Rattle.scop_syntax.specs.declared.tree.Item.TheOpen.{Item-F}
use Rattle.scop_syntax.specs.declared.tree.Stmt.{Stmt as Body}
use Rattle.scop_syntax.specs.Tree.{Tree, Expression}
use Rattle.scop_syntax.specs.View.{expression_step, expression_of, operator_of, statement_of, tree_of}
use Rattle.scop_syntax.specs.View.{tree_step, items_of}

pub tree_loop : (head : Head) (body : Vec Item Global) → tree_of (Loop head body) ≡ loop head (items_of body.items)
tree_loop head body = ap tree_of (sym (rolls-Loop head body)) ∙ fold-roll-Item Tree tree_step (Item-F.Loop head body)

pub tree_statement : (s : Body) → tree_of (Stmt s) ≡ statement (statement_of s)
tree_statement s = ap tree_of (sym (rolls-Stmt s)) ∙ fold-roll-Item Tree tree_step (Item-F.Stmt s)

pub expression_binary : (op : Code) (e f : Box Expr)
    → expression_of (Binary op e f) ≡ binary (operator_of op) (expression_of e.value) (expression_of f.value)
expression_binary op e f =
    ap expression_of (sym (rolls-Binary op e f)) ∙ fold-roll-Expr Expression expression_step (Expr-F.Binary op e f)
