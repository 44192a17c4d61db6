-- When a step of a node is its run's.
use Rattle.std.specs.Prelude.{◌≡◌, ℕ, take, [], Result, Ok, Err}
use Rattle.quast_trees.specs.Tree.{initial}
use Rattle.checked_tableau.specs.Nodes.{Next, ends, Counted, leaf_tree}
use Rattle.checked_tableau.specs.Solutions.{IsNode}
use Rattle.pip_solver.specs.declared.node.Tableau.{Tableau}
use Rattle.pip_solver.specs.Node.{node_of, next_of, IsGoing, AreGoing}
use Rattle.pip_solver.specs.declared.question.QuestionStop.{QuestionStop}
use Rattle.pip_solver.specs.declared.step.Next.TheVariants as next
use Rattle.pip_solver.specs.steps.Promises.{Tells}

-- a step of a node of n unknowns, with what is left of the budget, is the run's; want of memory is free
abbrev pub Steps : Result next.the_data QuestionStop → ℕ → ℕ → Tableau → Counted Next → Type 0
Steps (Ok next.Empty) n left new counted = counted ≡ Ok (ends initial, left)
Steps (Ok next.Leaf) n left new counted =
    (counted ≡ Ok (ends (leaf_tree n new.rows.parameters 0 (take n new.rows.rows) []), left)) × IsGoing n new
    × IsNode n (node_of new)
Steps (Ok (next.Moves move)) n left new counted = (counted ≡ Ok (next_of move new, left)) × AreGoing n move new
Steps (Err stop) n left new counted = Tells {A = Next} (Err stop) left counted
