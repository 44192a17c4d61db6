-- A problem's run, from that of its first node.
use Rattle.whole_numbers.proofs.Common.{◌≡◌, ℕ, ◌+◌, length, refl, subst, ap, sym, ◌∙◌, All, Ok}
use Rattle.tableau_rows.specs.Problem.{problem_of, Speaks}
use Rattle.quast_trees.specs.Tree.{Tree, Speaks as TreeSpeaks}
use Rattle.checked_tableau.specs.Nodes.{Node, whole, first_node, lexmin_run}
use Rattle.checked_tableau.specs.Solutions.{IsNode}
use Rattle.checked_tableau.proofs.KeptSolutions.{first_is_node, lexmin-speaks}
use Rattle.checked_tableau.proofs.Beginnings.{speaks_all}
use Rattle.checked_tableau.specs.declared.problem.Problem.{Problem}
use Rattle.pip_solver.specs.declared.node.Tableau.{Tableau}
use Rattle.pip_solver.specs.Node.{node_of, IsGoing}
use Rattle.pip_solver.specs.steps.Frames.{IsReady}
use Rattle.pip_solver.specs.Solving.{solved}

-- a problem whose forms have the right sizes
pub record IsSized (problem : Problem) : Type 0 where
  pub rows : Speaks (problem.unknowns + problem.parameters) problem.rows.items
  pub context : Speaks problem.parameters problem.context.items

pub is_sized : (problem : Problem) → All (λ f. length f.coefficients ≡ problem.unknowns + problem.parameters)
    problem.rows.items
    → All (λ f. length f.coefficients ≡ problem.parameters) problem.context.items → IsSized problem
is_sized problem rows context =
    record {
      rows = speaks_all (problem.unknowns + problem.parameters) problem.rows.items rows;
      context = speaks_all problem.parameters problem.context.items context;
    }

abbrev pub first_of : Problem → Node
first_of problem = first_node problem.parameters (problem_of problem.unknowns problem.rows.items) problem.context.items

pub first_ready : (problem : Problem) (t : Tableau) → IsSized problem → node_of t ≡ first_of problem
    → IsGoing problem.unknowns t → IsReady t.rows.unknowns t
first_ready problem t sized is going =
    let node = subst (λ (m : Node). IsNode problem.unknowns m) (sym is)
    (first_is_node problem.unknowns problem.parameters problem.rows.items problem.context.items sized.rows
    sized.context) in
    (subst (λ (n : ℕ). IsNode n (node_of t)) (sym going.0) node, (refl, going.1))

pub first_run : (budget : ℕ) (problem : Problem) (t : Tableau) → node_of t ≡ first_of problem
    → IsGoing problem.unknowns t
    → whole t.rows.unknowns budget (node_of t) ≡ solved budget problem
unfolding lexmin_run
first_run budget problem t is going =
    ap (λ (n : ℕ). whole n budget (node_of t)) going.0 ∙ ap (λ (m : Node). whole problem.unknowns budget m) is

pub tree_speaks : (budget left : ℕ) (problem : Problem) (tree : Tree) → IsSized problem
    → solved budget problem ≡ Ok (tree, left) → TreeSpeaks problem.parameters tree
tree_speaks budget left problem tree sized run =
    lexmin-speaks budget problem.unknowns problem.parameters problem.rows.items problem.context.items tree left
    sized.rows sized.context run
