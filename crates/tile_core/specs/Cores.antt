-- A core in memory as plain data, and what a read tells.
use Rattle.std.specs.Prelude.{◌≡◌, ℕ, ◌<◌, List, length, get_or, Result, Ok}
use mathlib.Core.Option.{some}
use lib.ListN.{get_elem?}
use Rattle.tile_events.specs.Plan as events
use Rattle.tile_events.specs.Plan.{values_read}
use Rattle.tile_events.specs.Core as core
use Rattle.tile_events.specs.Core.{State, working}
use Rattle.tile_core.specs.declared.plan.Plan.{Plan}
use Rattle.tile_core.specs.declared.board.Seen.{Seen}
use Rattle.tile_core.specs.declared.board.Seen.TheVariants.{Read}
use Rattle.tile_core.specs.declared.board.NotEnabled.{NotEnabled}
use Rattle.tile_core.specs.declared.cores.Turn.{Turn}
use Rattle.tile_core.specs.declared.cores.Core.{Core}
use Rattle.tile_core.specs.Boards.{state_of, event_of, IsBoard}

-- its plan
abbrev pub plan_in : Core → Plan
plan_in c = c.plan

-- its state
abbrev pub state_in : Core → State
state_in c = state_of c.board

-- what every core is: one that its events led to from some cells
abbrev pub IsCore : Core → Type 0
IsCore c = IsBoard c.plan c.board

-- an event with its worker
abbrev pub turn_of : Turn → ℕ × core.Event
turn_of t = (t.worker, event_of t.event)

-- the turn's worker is one of so many
abbrev pub IsTurn : ℕ → Turn → Type 0
IsTurn n t = t.worker < n

-- a read tells the value that execution read at the place of the worker's next instance
abbrev pub ReadsExecuted : events.Plan → State → ℕ → Result Seen NotEnabled → Type 0
ReadsExecuted p s id result =
    (t k x : ℕ) (xs : List ℕ) → get_elem? s.workers id ≡ some (working t k xs) → result ≡ Ok (Read x)
    → x ≡ get_or (values_read p (p.place t k)) (length xs) 0
