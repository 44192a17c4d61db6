-- The stack of a run with parameters: what waits while a node is run, and what stays of it behind each step.
use Rattle.std.specs.Prelude.{◌≡◌, ℕ, suc, ◌+◌, ◌<◌, List, [], ◌∷◌, length, drop, reverse, Option, Some, None, Result}
use Rattle.std.specs.Prelude.{Ok, Err, ⊤}
use Rattle.quast_trees.specs.Tree.{Tree, initial}
use Rattle.quast_trees.specs.Postfix.{top}
use Rattle.checked_tableau.specs.Nodes.{Counted, Frame, binding, second, joining, resumed, whole}
use Rattle.checked_tableau.specs.Solutions.{IsNode}
use Rattle.pip_solver.specs.declared.node.Tableau.{Tableau}
use Rattle.pip_solver.specs.declared.node.Move.TheVariants as move
use Rattle.pip_solver.specs.Node.{node_of, IsGoing}
use Rattle.pip_solver.specs.declared.frames.Frame.TheVariants as frame
use Rattle.pip_solver.specs.declared.question.QuestionStop.{QuestionStop}
use Rattle.pip_solver.specs.declared.run.Progress.TheVariants as progress
use Rattle.pip_solver.specs.steps.Promises.{Tells}

-- the code's frames, the innermost first: the first side of each joining one is the next of the trees that stand
abbrev pub framing : List frame.the_data → List Tree → List Frame
framing [] trees = []
framing (frame.Binding form divisor ∷ frames) trees = binding form divisor ∷ framing frames trees
framing (frame.Second test node ∷ frames) trees = second test (node_of node) ∷ framing frames trees
framing (frame.Joining test ∷ frames) [] = joining test initial ∷ framing frames []
framing (frame.Joining test ∷ frames) (first ∷ trees) = joining test first ∷ framing frames trees

-- what becomes of a run under frames, the outermost first, and the trees that stand
abbrev pub under : ℕ → List frame.the_data → List Tree → Counted Tree → Counted Tree
under n frames trees run = resumed n (framing (reverse frames) trees) run

-- how many of the frames have a first side
abbrev pub joins : List frame.the_data → ℕ
joins [] = 0
joins (frame.Joining test ∷ frames) = suc (joins frames)
joins (frame.Binding form divisor ∷ frames) = joins frames
joins (frame.Second test node ∷ frames) = joins frames

-- how many of the frames wait for their first side
abbrev pub seconds : List frame.the_data → ℕ
seconds [] = 0
seconds (frame.Second test node ∷ frames) = suc (seconds frames)
seconds (frame.Joining test ∷ frames) = seconds frames
seconds (frame.Binding form divisor ∷ frames) = seconds frames

-- a node at which the run can go on
abbrev pub IsReady : ℕ → Tableau → Type 0
IsReady n node = IsNode n (node_of node) × IsGoing n node

-- each second side is such a node
abbrev pub AreReady : ℕ → List frame.the_data → Type 0
AreReady n [] = ⊤
AreReady n (frame.Second test node ∷ frames) = IsReady n node × AreReady n frames
AreReady n (frame.Joining test ∷ frames) = AreReady n frames
AreReady n (frame.Binding form divisor ∷ frames) = AreReady n frames

-- other frames, that wait for the same sides
pub record KeepsSides (old new : List frame.the_data) : Type 0 where
  pub joined : joins (reverse new) ≡ joins (reverse old)
  pub waiting : seconds (reverse new) ≡ seconds (reverse old)
  pub ready : (n : ℕ) → AreReady n (reverse old) → AreReady n (reverse new)

-- the frame that waits behind a move
abbrev pub frames_for : move.the_data → List frame.the_data
frames_for move.Goes = []
frames_for (move.Binds form divisor) = frame.Binding form divisor ∷ []
frames_for (move.Splits test other) = frame.Second test other ∷ []

-- behind a tree that ends a node the frames go on with the next second side, or leave the whole tree
abbrev pub Resumes : {E : Type 0} → List frame.the_data → List Tree → List frame.the_data → List Tree
    → Result (Option Tableau) E → Type 0
Resumes old trees new news (Ok None) =
    (tree : Tree) × (news ≡ tree ∷ []) × ((n left : ℕ)
    → under n old (drop 1 trees) (Ok (top trees, left)) ≡ Ok (tree, left))
Resumes old trees new news (Ok (Some node)) =
    ((n left : ℕ) → under n old (drop 1 trees) (Ok (top trees, left)) ≡ under n new news (whole n left (node_of node)))
    × (length news ≡ joins (reverse new)) × (seconds (reverse old) ≡ suc (seconds (reverse new)))
    × ((n : ℕ) → AreReady n (reverse old) → IsReady n node × AreReady n (reverse new))
Resumes old trees new news (Err _) = ⊤

-- a step under frames: the run, `run` before, goes on with less, or the node has ended in the tree on top, or it stops
abbrev pub Proceeds : ℕ → Counted Tree → ℕ → List frame.the_data → List frame.the_data → List Tree → ℕ → Tableau
    → Result progress.the_data QuestionStop → Type 0
Proceeds n run before old new news left node (Ok progress.Goes) =
    (run ≡ under n new news (whole n left (node_of node))) × (length news ≡ joins (reverse new))
    × (left + left + seconds (reverse new) < before + before + seconds (reverse old)) × AreReady n (reverse new)
    × IsReady n node
Proceeds n run before old new news left node (Ok progress.Ended) =
    (run ≡ under n new (drop 1 news) (Ok (top news, left))) × (length news ≡ suc (joins (reverse new)))
    × (seconds (reverse new) ≡ seconds (reverse old)) × AreReady n (reverse new)
Proceeds n run before old new news left node (Err stop) = Tells {A = Tree} (Err stop) left run

-- a run leaves its tree, or stops
abbrev pub Runs : {U : Type 0} → Counted Tree → List Tree → ℕ → Result U QuestionStop → Type 0
Runs run news left (Ok _) = (tree : Tree) × (news ≡ tree ∷ []) × (run ≡ Ok (tree, left))
Runs run news left (Err stop) = Tells {A = Tree} (Err stop) left run
