-- The events of a worker that does instances of its tile.
use Rattle.std.specs.Prelude.{◌≡◌, Bool, true, false, ℕ, zero, suc, ◌+◌, ◌<◌, ◌≤◌, List, [], ◌∷◌, ◌++◌, length}
use mathlib.Core.Option.{some}
use lib.ListN.{get_elem?}
use Rattle.tile_events.specs.Core.{Event, State, add, load, replay, store, working}
use Rattle.tile_events.specs.Plan.{Plan}

-- the last act of an instance: it adds to its cell, or stores there
abbrev pub last_event : Bool → Event
last_event true = add
last_event false = store

-- those of one instance that reads so many cells: as many loads, then its last act
abbrev pub instance_acts : ℕ → Event → ℕ → List (ℕ × Event)
instance_acts id last zero = (id, last) ∷ []
instance_acts id last (suc reads) = (id, load) ∷ instance_acts id last reads

-- those of place j
abbrev pub place_acts : Plan → ℕ → ℕ → List (ℕ × Event)
place_acts p id j = instance_acts id (last_event (p.adds (p.written j))) (length (p.read j))

-- those of n instances of tile t, of which the first has number k there
abbrev pub stretch_acts : Plan → ℕ → ℕ → ℕ → ℕ → List (ℕ × Event)
stretch_acts p id t k zero = []
stretch_acts p id t k (suc n) = stretch_acts p id t k n ++ place_acts p id (p.place t (k + n))

-- worker id is at work in tile t, at its instance k, and has read nothing for it
abbrev pub IsAtInstance : Plan → State → ℕ → ℕ → ℕ → Type 0
IsAtInstance p s id t k = (get_elem? s.workers id ≡ some (working t k [])) × (k < p.size t)

-- from there it has done n instances of the tile, one at least; p has the instances alone, q the releases too
pub record DoesStretch (p q : Plan) (s : State) (id t k n : ℕ) (d : State) : Type 0 where
  pub some : 1 ≤ n
  pub within : k + n ≤ p.size t
  -- by the events of the instances
  pub acts : d ≡ replay q s (stretch_acts p id t k n)
  -- which need no releases
  pub alone : d ≡ replay p s (stretch_acts p id t k n)
