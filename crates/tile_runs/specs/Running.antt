-- What a run of a plan leaves.
use Rattle.std.specs.Prelude.{◌≡◌, ◌+◌, ◌<◌, ℕ, Bool, true, false, List, get_or, length, take}
use Rattle.scop_syntax.specs.Execution.{IsShaped, exec, total_cells, value_stored_at}
use Rattle.tile_core.specs.Plans.{HoldsContents, extents_in, is_expanded, program_in, walk_in}
use Rattle.tile_core.specs.declared.plan.Plan.{Plan}
use Rattle.tile_events.specs.Flat.{flat}

-- cells that held those of all arrays are in front as the kernel's own execution leaves the arrays
abbrev pub HasArrays : Plan → List (List ℕ) → List ℕ → Type 0
HasArrays plan contents cells =
    take (total_cells (extents_in plan)) cells ≡ flat (exec (program_in plan) plan.params.now contents)

-- they are in front as they were, and behind stands what each place of the walk stores in the kernel's own execution
pub record HasCopies (plan : Plan) (contents : List (List ℕ)) (cells : List ℕ) : Type 0 where
  pub kept : take (total_cells (extents_in plan)) cells ≡ flat contents
  pub copies : (j : ℕ) → j < length (walk_in plan)
      → get_or cells (total_cells (extents_in plan) + j) 0 ≡ value_stored_at (extents_in plan) contents (walk_in plan) j

-- so where each instance has a copy of its own; else the arrays
abbrev pub LeavesCells : Bool → Plan → List (List ℕ) → List ℕ → Type 0
LeavesCells true plan contents cells = HasCopies plan contents cells
LeavesCells false plan contents cells = HasArrays plan contents cells

-- cells that held those of all arrays, one behind another, and 0 behind them, are as many, and in front as the kernel's
-- own execution leaves the arrays; with an expansion the copies are as it stores them
abbrev pub AreExecuted : Plan → List ℕ → List ℕ → Type 0
AreExecuted plan old new = (contents : List (List ℕ)) → IsShaped (extents_in plan) contents → HoldsContents contents old
    → (length new ≡ length old)
    × LeavesCells (is_expanded plan) plan contents new
