-- The whole solutions of a node, which the steps of a run keep, and what makes a node one.
use Rattle.std.specs.Prelude.{◌≡◌, ◌↔◌, ℕ, suc, ◌<◌, ◌≤◌, ℤ, pos, ◌≤ℤ◌, ◌<ℤ◌, List, [], ◌∷◌, ◌++◌, length, get_or, ⊤}
use Rattle.whole_numbers.specs.Lists.{NotNegative}
use Rattle.whole_numbers.specs.Affine.{value_of}
use Rattle.whole_numbers.specs.Floor.{floor}
use Rattle.whole_numbers.specs.Division.{IsFloor}
use Rattle.tableau_rows.specs.Problem.{row_values, Speaks}
use Rattle.tableau_rows.specs.Solutions.{IsSolution, IsTableau}
use Rattle.lexmin_runs.specs.Nodes.{Node, Bound, Next, ends, goes, binds, splits}
use Rattle.quast_trees.specs.Tree.{LeavesHave, Speaks as TreeSpeaks}

-- p is a point of a node's context
pub record IsInContext (node : Node) (p : List ℤ) : Type 0 where
  pub size : length p ≡ node.parameters
  pub not_negative : NotNegative p
  pub rows : NotNegative (row_values node.context p)

-- x is a whole solution of a node of n unknowns at p
pub record IsNodeSolution (n : ℕ) (node : Node) (p x : List ℤ) : Type 0 where
  pub context : IsInContext node p
  pub solution : IsSolution n node.rows p x

-- each parameter that a cut has bound is its form's quotient, rounded down
abbrev pub AreBound : List ℤ → List Bound → Type 0
AreBound p [] = ⊤
AreBound p (b ∷ bs) =
    ((b.place < length p) × (length b.form.coefficients ≤ length p)
    × (get_or p b.place (pos 0) ≡ floor (value_of b.form p) b.divisor))
    × AreBound p bs

-- the bound parameters are among m
abbrev pub ArePlaced : ℕ → List Bound → Type 0
ArePlaced m [] = ⊤
ArePlaced m (b ∷ bs) = (b.place < m) × ArePlaced m bs

-- a node of n unknowns: a tableau, rows over its parameters, and bound parameters that have their values wherever
-- the context holds
pub record IsNode (n : ℕ) (node : Node) : Type 0 where
  pub tableau : IsTableau n node.parameters node.rows
  pub speaks : Speaks node.parameters node.context
  pub placed : ArePlaced node.parameters node.bounds
  pub bound : (p : List ℤ) → IsInContext node p → AreBound p node.bounds

-- what a step of a node with m parameters leads to: a tree over them with a form for each of the n unknowns, or nodes,
-- with one parameter more behind a bind
abbrev pub LeadsOn : ℕ → ℕ → Next → Type 0
LeadsOn n m (ends tree) = TreeSpeaks m tree × LeavesHave n tree
LeadsOn n m (goes node) = IsNode n node × (node.parameters ≡ m)
LeadsOn n m (binds f d node) =
    IsNode n node × (node.parameters ≡ suc m) × (length f.coefficients ≡ m) × (pos 1 ≤ℤ d)
LeadsOn n m (splits f first second) =
    IsNode n first × IsNode n second × (first.parameters ≡ m) × (second.parameters ≡ m) × (length f.coefficients ≡ m)

-- a step keeps the whole solutions: a node goes on with the same ones, or with the same ones and one parameter more,
-- which is the quotient of a form, rounded down; a split parts them by the sign of a form
abbrev pub KeepsSolutions : ℕ → Node → Next → Type 0
KeepsSolutions n node (ends tree) = ⊤
KeepsSolutions n node (goes next) = (p x : List ℤ) → IsNodeSolution n node p x ↔ IsNodeSolution n next p x
KeepsSolutions n node (binds f d next) =
    (p x : List ℤ) (q : ℤ)
    → IsNodeSolution n next (p ++ q ∷ []) x ↔ (IsNodeSolution n node p x × IsFloor (value_of f p) d q)
KeepsSolutions n node (splits f first second) =
    (p x : List ℤ)
    → (IsNodeSolution n first p x ↔ (IsNodeSolution n node p x × (pos 0 ≤ℤ value_of f p)))
    × (IsNodeSolution n second p x ↔ (IsNodeSolution n node p x × (value_of f p <ℤ pos 0)))
