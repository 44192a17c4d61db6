-- When the quast of a problem is its run's, and what a stop tells.
use Rattle.std.specs.Prelude.{◌≡◌, ℕ, ◌+◌, ℤ, [], length, All, Option, Some, None, Result, Ok, Err, Vec, ⊤}
use Rattle.std.specs.declared.alloc.Global.{Global}
use Rattle.wide_math.specs.declared.Wide.{Wide}
use Rattle.tableau_rows.specs.Problem.{problem_of}
use Rattle.tableau_rows.specs.Run as run
use Rattle.quast_trees.specs.Tree.{Tree}
use Rattle.quast_trees.specs.Postfix.{Postfix, tree_of}
use Rattle.quast_trees.specs.Source.{Source}
use Rattle.quast_trees.specs.Leaf.{Leaf, initial, found}
use Rattle.quast_trees.specs.Value.{value}
use Rattle.checked_tableau.specs.Nodes.{Counted, lexmin_run}
use Rattle.checked_tableau.specs.declared.problem.Problem.{Problem}
use Rattle.pip_solver.specs.declared.stop.Stop.TheVariants as solver
use Rattle.pip_solver.specs.declared.minimum.Solution.{Solution}

-- a problem over so many unknowns and parameters
pub record IsOver (unknowns parameters : ℕ) (problem : Problem) : Type 0 where
  pub has : (problem.unknowns ≡ unknowns) × (problem.parameters ≡ parameters)
  pub rows : All (λ f. length f.coefficients ≡ unknowns + parameters) problem.rows.items
  pub context : All (λ f. length f.coefficients ≡ parameters) problem.context.items

-- the run of a problem
abbrev pub solved : ℕ → Problem → Counted Tree
solved budget problem = lexmin_run budget problem.parameters (problem_of problem.unknowns problem.rows.items)
    problem.context.items

-- a stop is the run's, and tells the problem and the moves made; want of memory is free
abbrev pub Stops : solver.the_data → ℕ → Problem → Type 0
Stops (solver.Wide posed moves) budget problem =
    (w : Wide) × (left : ℕ) × (solved budget problem ≡ Err (run.wide w left)) × (moves + left ≡ budget)
    × (posed ≡ problem)
Stops (solver.Spent posed moves) budget problem =
    (solved budget problem ≡ Err run.spent) × (moves ≡ budget) × (posed ≡ problem)
Stops solver.NoMemory budget problem = ⊤

-- an answer is the run's tree, over the problem's parameters
abbrev pub Solves : Result Postfix solver.the_data → ℕ → Problem → Type 0
Solves (Ok quast) budget problem =
    (left : ℕ) × (solved budget problem ≡ Ok (tree_of quast, left)) × (quast.parameters ≡ problem.parameters)
Solves (Err stop) budget problem = Stops stop budget problem

-- the same with the moves made
abbrev pub Counts : Result Solution solver.the_data → ℕ → Problem → Type 0
Counts (Ok solution) budget problem =
    (left : ℕ) × (solved budget problem ≡ Ok (tree_of solution.quast, left)) × (solution.moves + left ≡ budget)
    × (solution.quast.parameters ≡ problem.parameters)
Counts (Err stop) budget problem = Stops stop budget problem

-- the point that a leaf gives; none where it is the initial one
abbrev pub IsGiven : Option (Vec ℤ Global) → Leaf → Type 0
IsGiven None leaf = leaf ≡ initial
IsGiven (Some point) leaf = (source : Option Source) × (leaf ≡ found source point.items)

-- an answer is what the run's tree gives where there are no parameters
abbrev pub Finds : Result (Option (Vec ℤ Global)) solver.the_data → ℕ → Problem → Type 0
Finds (Ok point) budget problem =
    (tree : Tree) × (left : ℕ) × (solved budget problem ≡ Ok (tree, left)) × IsGiven point (value tree [])
Finds (Err stop) budget problem = Stops stop budget problem
