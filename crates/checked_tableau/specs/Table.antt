-- A tableau as its buffer holds it, and when a move on it is its run's.
use Rattle.std.specs.Prelude.{◌≡◌, ℕ, ◌+◌, ◌*◌, ◌≤◌, ℤ, List, [], ◌∷◌, ◌++◌, length, Option, Some, None, Result, Ok}
use Rattle.std.specs.Prelude.{Err}
use Rattle.wide_math.specs.declared.Wide.{Wide}
use Rattle.tableau_rows.specs.Rows.{Row}
use Rattle.tableau_rows.specs.Solutions.{IsTableau}
use Rattle.tableau_rows.specs.Moves.{line_row, rows_in}
use Rattle.checked_tableau.specs.declared.stop.TableauStop.{TableauStop}
use Rattle.checked_tableau.specs.declared.stop.TableauStop.TheVariants as stop

-- rows over unknowns, as many columns, and parameters, and the number that was too wide, once one was
pub record Table : Type 0 where
  pub unknowns : ℕ
  pub parameters : ℕ
  pub rows : List Row
  pub stopped : Option Wide

-- the table of these parts
abbrev pub table_of : ℕ → ℕ → List Row → Option Wide → Table
table_of unknowns parameters rows stopped =
    record {
      unknowns = unknowns;
      parameters = parameters;
      rows = rows;
      stopped = stopped;
    }

-- how many numbers a line has: the denominator, the columns, the constant, the parameters
abbrev pub stride_of : ℕ → ℕ → ℕ
stride_of unknowns parameters = unknowns + 2 + parameters

-- the rows of a buffer of `count` lines
abbrev pub table_in : ℕ → ℕ → ℕ → List ℤ → Option Wide → Table
table_in unknowns parameters count cells stopped =
    table_of unknowns parameters (rows_in (stride_of unknowns parameters) count cells) stopped

-- the buffer has its size, and room for a line besides; its rows are a tableau as long as no number was too wide
pub record IsSound (unknowns parameters count : ℕ) (cells line : List ℤ) (stopped : Option Wide) : Type 0 where
  pub room : length line ≡ stride_of unknowns parameters
  pub size : length cells ≡ count * stride_of unknowns parameters
  pub many : unknowns ≤ count
  pub tableau : stopped ≡ None → IsTableau unknowns parameters (rows_in (stride_of unknowns parameters) count cells)

-- a run over rows that may have stopped: they stop again
abbrev pub resumed : {A : Type 0} → Option Wide → Result A Wide → Result A Wide
resumed None run = run
resumed (Some w) run = Err w

-- the rows stopped at a number that is too wide; they are as many as before, over as many unknowns and parameters
abbrev pub StopsAt : Wide → Table → Table → Type 0
StopsAt w old new =
    (new ≡ table_of old.unknowns old.parameters new.rows (Some w)) × (length new.rows ≡ length old.rows)

-- a move leaves the rows that its run gives, or names the number that is too wide and stops the rows
abbrev pub Moves : {U : Type 0} → Table → Result (List Row) Wide → Table → Result U Wide → Type 0
Moves old run new (Ok _) =
    (resumed old.stopped run ≡ Ok new.rows) × (new ≡ table_of old.unknowns old.parameters new.rows None)
Moves old run new (Err w) = (resumed old.stopped run ≡ Err w) × StopsAt w old new

-- a line that a run gives is appended, or the cells stay
abbrev pub Appends : {U : Type 0} → ℕ → List ℤ → List ℤ → Result U TableauStop → Result Row Wide → Type 0
Appends stride old new (Ok _) run =
    (line : List ℤ) × (length line ≡ stride) × (new ≡ old ++ line) × (run ≡ Ok (line_row line))
Appends stride old new (Err (stop.Wide w)) run = (run ≡ Err w) × (new ≡ old)
Appends stride old new (Err stop.NoMemory) run = new ≡ old

-- a cut leaves one row more, the one that its run gives, or names the number that is too wide and stops the
-- rows, or leaves all as it was where there is no memory
abbrev pub Cuts : {U : Type 0} → Table → Result Row Wide → Table → Result U TableauStop → Type 0
Cuts old run new (Ok _) =
    (row : Row) × (resumed old.stopped run ≡ Ok row)
    × (new ≡ table_of old.unknowns old.parameters (old.rows ++ row ∷ []) None)
Cuts old run new (Err (stop.Wide w)) = (resumed old.stopped run ≡ Err w) × StopsAt w old new
Cuts old run new (Err stop.NoMemory) = new ≡ old
