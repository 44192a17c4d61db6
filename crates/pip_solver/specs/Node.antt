-- A node as the code holds it, and when a move on it is its run's.
use Rattle.std.specs.Prelude.{◌≡◌, ℕ, suc, Bool, List, None, Result, Ok, Err}
use Rattle.wide_math.specs.declared.Wide.{Wide}
use Rattle.whole_numbers.specs.Affine.{Affine}
use Rattle.checked_tableau.specs.Run.{wide}
use Rattle.checked_tableau.specs.Nodes.{Node, Bound, Next, goes, binds, splits, Counted, pivot}
unfoldable pub use Rattle.checked_tableau.specs.Nodes.{opposite_run, above_run, under_run, at_least_run}
use Rattle.checked_tableau.specs.Solutions.{LeadsOn, KeepsSolutions}
use Rattle.checked_tableau.specs.Table.{Table}
use Rattle.checked_tableau.specs.Table as checked
use Rattle.checked_tableau.specs.declared.stop.TableauStop.{TableauStop}
use Rattle.checked_tableau.specs.declared.stop.TableauStop.TheVariants as stop
use Rattle.pip_solver.specs.declared.node.Tableau.{Tableau}
use Rattle.pip_solver.specs.declared.node.Move.TheVariants as move

-- the node of these parts
abbrev pub node_in : Bool → Table → List Affine → List Bound → Node
node_in begins table context bounds =
    record {
      begins = begins;
      parameters = table.parameters;
      rows = table.rows;
      context = context;
      bounds = bounds;
    }

-- the node that the code holds
abbrev pub node_of : Tableau → Node
node_of t = node_in t.begins t.rows t.context.items t.bounds.items

-- what a move leads to
abbrev pub next_of : move.the_data → Tableau → Next
next_of move.Goes new = goes (node_of new)
next_of (move.Binds form divisor) new = binds form divisor (node_of new)
next_of (move.Splits test second) new = splits test (node_of new) (node_of second)

-- a node of n unknowns at which no number was too wide
abbrev pub IsGoing : ℕ → Tableau → Type 0
IsGoing n t = (t.rows.unknowns ≡ n) × (t.rows.stopped ≡ None)

-- the node stopped at a number that is too wide: its rows did, and all else stays
abbrev pub StopsAt : Wide → Tableau → Tableau → Type 0
StopsAt w old new =
    checked.StopsAt w old.rows new.rows × (node_of new ≡ node_in old.begins new.rows old.context.items old.bounds.items)

-- each node that a move leads to is such a one
abbrev pub AreGoing : ℕ → move.the_data → Tableau → Type 0
AreGoing n move.Goes new = IsGoing n new
AreGoing n (move.Binds form divisor) new = IsGoing n new
AreGoing n (move.Splits test second) new = IsGoing n new × IsGoing n second

-- a pivot is the run's with any budget that has a move left, or names its number that is too wide, and stops the node
abbrev pub Pivots : {U : Type 0} → Tableau → ℕ → Tableau → Result U Wide → Type 0
Pivots old row new (Ok _) =
    ((left : ℕ) → pivot old.rows.unknowns (suc left) (node_of old) row ≡ Ok (goes (node_of new), left))
    × IsGoing old.rows.unknowns new
Pivots old row new (Err w) =
    ((left : ℕ) → pivot old.rows.unknowns (suc left) (node_of old) row ≡ Err (wide w (suc left))) × StopsAt w old new

-- a move is the run's with any budget that has a move left, or names its number that is too wide, and stops the node;
-- where there is no memory the node stays
abbrev pub Moves : Tableau → (ℕ → Counted Next) → Tableau → Result move.the_data TableauStop → Type 0
Moves old run new (Ok move) =
    ((left : ℕ) → run (suc left) ≡ Ok (next_of move new, left)) × AreGoing old.rows.unknowns move new
Moves old run new (Err (stop.Wide w)) =
    ((left : ℕ) → run (suc left) ≡ Err (wide w (suc left))) × StopsAt w old new
Moves old run new (Err stop.NoMemory) = (node_of new ≡ node_of old) × (new.rows ≡ old.rows)

-- what a move leads to are nodes, and it keeps the whole solutions
abbrev pub Keeps : Tableau → Next → Type 0
Keeps old next =
    LeadsOn old.rows.unknowns old.rows.parameters next × KeepsSolutions old.rows.unknowns (node_of old) next
