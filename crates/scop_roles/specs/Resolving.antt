-- Nodes in postfix order read by a stack of formulas: the formula that they make.
use Rattle.std.specs.Prelude.{◌≡◌, ℕ, ◌+◌, ◌^◌, ◌≤◌, List, [], ◌∷◌, map, reverse}
use Rattle.std.specs.List.{fold}
use Rattle.scop_expressions.specs.Tree.{Tree, written, size}
use Rattle.scop_expressions.specs.declared.node.Node.{Node}
use Rattle.scop_expressions.specs.declared.node.Node.TheVariants as node
use Rattle.scop_expressions.specs.Base.TheVariants as base
use Rattle.scop_expressions.specs.Suffix.TheVariants as suffix
use Rattle.scop_roles.specs.declared.formula.Formula.{Formula as CodeFormula}
use Rattle.scop_roles.specs.Formula.{Formula, constant, name, index, bare_call, call, unary, cast, binary, Lookup}
use Rattle.scop_roles.specs.Formula.{place, meaning_of, formula_of}

-- nodes of a tree whose places, counted from a first one, are small
pub record IsWritten (nodes : List Node) (first : ℕ) : Type 0 where
  pub tree : Tree
  pub nodes_are : nodes ≡ written 0 tree
  pub room : first + size tree ≤ 2 ^ 63

-- the place of a node, counted from its expression's first token
abbrev pub place_of : Node → ℕ
place_of (node.Constant s at) = at
place_of (node.Name at) = at
place_of (node.Index at) = at
place_of (node.BareCall at) = at
place_of (node.Call at) = at
place_of (node.Unary s at) = at
place_of (node.Cast w at) = at
place_of (node.Binary o at) = at

-- the formula on top; of an empty stack nothing is asked
abbrev pub top : List Formula → Formula
top [] = constant (suffix.Absent base.Decimal) 0 0
top (f ∷ fs) = f

-- the formulas below the top
abbrev pub below : List Formula → List Formula
below [] = []
below (f ∷ fs) = fs

-- the stack with a node more
abbrev pub built : Lookup → ℕ → List Formula → Node → List Formula
built look first fs (node.Constant s at) = constant s (look.worth (first + at)) (first + at) ∷ fs
built look first fs (node.Name at) = name (look.meaning (first + at)) (first + at) ∷ fs
built look first fs (node.Index at) = index (top (below fs)) (top fs) ∷ below (below fs)
built look first fs (node.BareCall at) = bare_call (meaning_of (top fs)) (place (top fs)) ∷ below fs
built look first fs (node.Call at) =
    call (meaning_of (top (below fs))) (top fs) (place (top (below fs))) ∷ below (below fs)
built look first fs (node.Unary s at) = unary s (top fs) (first + at) ∷ below fs
built look first fs (node.Cast w at) = cast w (top fs) (first + at) ∷ below fs
built look first fs (node.Binary o at) = binary o (top (below fs)) (top fs) (first + at) ∷ below (below fs)

-- the formula of nodes whose places count from a first one
abbrev pub formula_of_nodes : Lookup → ℕ → List Node → Formula
formula_of_nodes look first nodes = top (fold (built look first) [] nodes)

-- the formulas that a stack of the code holds, the last pushed first
abbrev pub held : List CodeFormula → List Formula
held fs = reverse (map formula_of fs)
