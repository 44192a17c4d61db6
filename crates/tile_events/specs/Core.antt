-- The core of a parallel run: workers that claim tiles, open them once what they wait for is done, do their instances
-- and finish them, one event after another.
use Rattle.std.specs.Prelude.{ℕ, suc, List, [], ◌∷◌, ◌++◌, length, get_or, set, Option, Some, None}
use Rattle.std.specs.Prelude.{Bool, true, false, not, ◌&&◌, nat_eq, nat_lt, nat_le, if◌then◌else◌}
use mathlib.Core.Option.{some, none}
use mathlib.Core.Option as plain
use lib.ListN.{get_elem?}
use Rattle.tile_events.specs.Plan.{Plan, Gate, waves, counters, updated}

-- where a worker stands
pub data Worker : Type 0 where
  -- it holds no tile
  idle : Worker
  -- it saw the claims run out
  ended : Worker
  -- it holds a tile that it has not opened
  holding : ℕ → Worker
  -- it works in an opened tile: the tile, how many of its places are done, releases included, and the values read for
  -- the next one
  working : ℕ → ℕ → List ℕ → Worker

-- what all workers share, and where each of them stands
pub record State : Type 0 where
  -- how often a tile was claimed
  pub claims : ℕ
  -- how many tiles are finished
  pub finished : ℕ
  -- what the cells hold
  pub cells : List ℕ
  -- the workers
  pub workers : List Worker

-- what a worker does at once
pub data Event : Type 0 where
  -- it claims the next tile
  claim : Event
  -- it opens the tile that it holds
  open_tile : Event
  -- it reads the next value of its instance
  load : Event
  -- it stores the value of its instance
  store : Event
  -- it adds the value of its instance, where tiles have no counters
  add : Event
  -- it adds the value of its place, where they have: 1, where that is to the counter of a tile that waits for its own
  -- (`IsCounted`)
  release : Event
  -- it finishes its tile
  finish : Event

-- what an event tells its worker
pub data Seen : Type 0 where
  -- the tile claimed; None where none was left
  claimed : Option ℕ → Seen
  -- the tile is opened
  opened : Seen
  -- it is not: so many tiles are finished, and so many have to be
  not_yet : ℕ → ℕ → Seen
  -- it is not: its counter holds so much, and has to hold so much
  short : ℕ → ℕ → Seen
  -- the value read
  value_read : ℕ → Seen
  -- the value is stored
  stored : Seen
  -- it is added
  added : Seen
  -- it is added, where tiles have counters
  released : Seen
  -- the tile is finished
  done : Seen
  -- where it stands, the worker has no such event
  not_enabled : Seen

-- the workers where worker id stands elsewhere
abbrev pub put : State → ℕ → Worker → List Worker
put s id w = set s.workers id w

-- after worker id has claimed a tile
abbrev pub after_claim : State → ℕ → State
after_claim s id =
    record { claims = suc s.claims; finished = s.finished; cells = s.cells; workers = put s id (holding s.claims) }

-- after it has seen the claims run out
abbrev pub after_last : State → ℕ → State
after_last s id =
    record { claims = suc s.claims; finished = s.finished; cells = s.cells; workers = put s id ended }

-- after it alone has changed
abbrev pub with_worker : State → ℕ → Worker → State
with_worker s id w =
    record { claims = s.claims; finished = s.finished; cells = s.cells; workers = put s id w }

-- after x was written to cell c
abbrev pub after_write : State → ℕ → Worker → ℕ → ℕ → State
after_write s id w c x =
    record { claims = s.claims; finished = s.finished; cells = set s.cells c x; workers = put s id w }

-- what cell c holds after x was stored there or added to it
abbrev pub written_to : Plan → State → ℕ → ℕ → ℕ
written_to p s c x = updated (p.adds c) (get_or s.cells c 0) x

-- after it has done the last act of instance k of tile t
abbrev pub after_last_act : Plan → State → ℕ → ℕ → ℕ → List ℕ → State
after_last_act p s id t k xs = after_write s id (working t (suc k) []) (p.written (p.place t k))
    (written_to p s (p.written (p.place t k)) (p.value (p.place t k) xs))

-- what is seen of the gate of tile t
abbrev pub seen_by : Gate → State → ℕ → ℕ
seen_by waves s t = s.finished
seen_by (counters cell needs) s t = get_or s.cells (cell t) 0

-- how much has to be seen there
abbrev pub needed_by : Gate → Plan → ℕ → ℕ
needed_by waves p t = p.offset (p.wave t)
needed_by (counters cell needs) p t = needs t

-- what an opening tells where it sees a of the b that have to be seen
abbrev pub shut : Gate → ℕ → ℕ → Seen
shut waves a b = not_yet a b
shut (counters cell needs) a b = short a b

-- whether tiles are opened by counters
abbrev pub is_counted : Gate → Bool
is_counted waves = false
is_counted (counters cell needs) = true

-- whether the event is the last act of an instance that writes cell c: where tiles have counters, who adds to a cell
-- releases
abbrev pub is_last_act : Plan → Event → ℕ → Bool
is_last_act p store c = not (p.adds c)
is_last_act p add c = p.adds c && not (is_counted p.gate)
is_last_act p release c = p.adds c && is_counted p.gate
is_last_act p e c = false

-- what such an event tells
abbrev pub told : Event → Seen
told store = stored
told add = added
told release = released
told e = not_enabled

-- the last act of instance k of tile t, where the event is of the kind that its cell asks for
abbrev pub last_act : Plan → State → ℕ → ℕ → ℕ → List ℕ → Event → State × Seen
last_act p s id t k xs e =
    if nat_lt k (p.size t)
    then (if nat_eq (length xs) (length (p.read (p.place t k))) && is_last_act p e (p.written (p.place t k))
    then (after_last_act p s id t k xs, told e)
    else (s, not_enabled))
    else (s, not_enabled)

-- after it has finished its tile
abbrev pub after_finish : State → ℕ → State
after_finish s id =
    record { claims = s.claims; finished = suc s.finished; cells = s.cells; workers = put s id idle }

-- the cell that is read after so many values, in instance k of tile t
abbrev pub cell_read : Plan → ℕ → ℕ → ℕ → ℕ
cell_read p t k n = get_or (p.read (p.place t k)) n 0

-- after it has read the value of that cell
abbrev pub after_load : Plan → State → ℕ → ℕ → ℕ → List ℕ → State
after_load p s id t k xs =
    with_worker s id (working t k (xs ++ get_or s.cells (cell_read p t k (length xs)) 0 ∷ []))

-- what an event of worker id, who stands so, does: the state after it, and what it tells
abbrev pub acts : Plan → State → ℕ → Worker → Event → State × Seen
acts p s id idle claim =
    if nat_lt s.claims p.tiles
    then (after_claim s id, claimed (Some s.claims))
    else (after_last s id, claimed None)
acts p s id idle e = (s, not_enabled)
acts p s id ended e = (s, not_enabled)
acts p s id (holding t) open_tile =
    if nat_le (needed_by p.gate p t) (seen_by p.gate s t)
    then (with_worker s id (working t 0 []), opened)
    else (s, shut p.gate (seen_by p.gate s t) (needed_by p.gate p t))
acts p s id (holding t) e = (s, not_enabled)
acts p s id (working t k xs) load =
    if nat_lt k (p.size t)
    then (if nat_lt (length xs) (length (p.read (p.place t k)))
    then (after_load p s id t k xs, value_read (get_or s.cells (cell_read p t k (length xs)) 0))
    else (s, not_enabled))
    else (s, not_enabled)
acts p s id (working t k xs) store = last_act p s id t k xs store
acts p s id (working t k xs) add = last_act p s id t k xs add
acts p s id (working t k xs) release = last_act p s id t k xs release
acts p s id (working t k xs) finish =
    if nat_eq k (p.size t) then (after_finish s id, done) else (s, not_enabled)
acts p s id (working t k xs) e = (s, not_enabled)

-- the same of a worker who may not be there
abbrev pub step_of : Plan → State → ℕ → plain.Option Worker → Event → State × Seen
step_of p s id none e = (s, not_enabled)
step_of p s id (some w) e = acts p s id w e

-- what an event of worker id does
abbrev pub step : Plan → State → ℕ → Event → State × Seen
step p s id e = step_of p s id (get_elem? s.workers id) e

-- the state after a list of events, each with its worker
abbrev pub replay : Plan → State → List (ℕ × Event) → State
replay p s [] = s
replay p s (e ∷ es) = replay p (step p s e.0 e.1).0 es
