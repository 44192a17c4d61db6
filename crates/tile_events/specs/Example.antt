-- Runs of two workers: over two tiles in two waves, cell 0 := 5, then cell 1 := cell 0 + 1; over three tiles that add
-- to one cell; and over three tiles, of which the last waits for both others.
use Rattle.std.specs.Prelude.{ℕ, zero, suc, ◌+◌, true, false, List, [], ◌∷◌, Option, Some, get_or, nat_lt}
use Rattle.std.specs.Prelude.{if◌then◌else◌}
use Rattle.tile_events.specs.Plan.{Plan, waves}
use Rattle.tile_events.specs.Core.{idle, ended, State, Event, claim, open_tile, load, store, add, release, finish}
use Rattle.tile_events.specs.Releases.{Edges, released}

-- the first place reads nothing, the second cell 0
abbrev pub read_at : ℕ → List ℕ
read_at zero = []
read_at (suc j) = 0 ∷ []

-- the first stores 5, the second one more than it has read
abbrev pub value_at : ℕ → List ℕ → ℕ
value_at zero xs = 5
value_at (suc j) xs = get_or xs 0 0 + 1

-- each place in a tile and a wave of its own
abbrev pub two : Plan
two = record {
  places = 2;
  cells = 2;
  tiles = 2;
  written = λ j. j;
  read = read_at;
  adds = λ c. false;
  value = value_at;
  initial = λ c. 0;
  tile = λ j. j;
  position = λ j. 0;
  size = λ t. 1;
  place = λ t k. t;
  wave = λ t. t;
  offset = λ w. w;
  gate = waves;
}

-- the state at first
abbrev pub first : State
first = record { claims = 0; finished = 0; cells = 0 ∷ 0 ∷ []; workers = idle ∷ idle ∷ [] }

-- and where both workers have ended
abbrev pub last : State
last = record { claims = 4; finished = 2; cells = 5 ∷ 6 ∷ []; workers = ended ∷ ended ∷ [] }

-- worker 1 tries to open the second tile before the first is finished, and to store before it has read
abbrev pub some_run : List (ℕ × Event)
some_run = (0, claim) ∷ (1, claim) ∷ (1, open_tile) ∷ (0, open_tile) ∷ (0, store) ∷ (1, open_tile) ∷ (0, finish)
    ∷ (1, open_tile) ∷ (1, store) ∷ (1, load) ∷ (1, store) ∷ (1, finish) ∷ (0, claim) ∷ (1, claim) ∷ []

-- where the second place reads what the first wrote
abbrev pub sources_of_two : ℕ → List (Option ℕ)
sources_of_two zero = []
sources_of_two (suc j) = Some 0 ∷ []

-- three places, each a tile, that add 1, 2 and 3 to one cell
abbrev pub adding : Plan
adding = record two {
  places = 3;
  cells = 1;
  tiles = 3;
  written = λ j. 0;
  read = λ j. [];
  adds = λ c. true;
  value = λ j xs. suc j;
}

-- its state at first
abbrev pub adding_first : State
adding_first = record { claims = 0; finished = 0; cells = 0 ∷ []; workers = idle ∷ idle ∷ [] }

-- and where both workers have ended: the cell holds the sum
abbrev pub adding_last : State
adding_last = record { claims = 5; finished = 3; cells = 6 ∷ []; workers = ended ∷ ended ∷ [] }

-- worker 0 tries to store and to release before it adds
abbrev pub adding_run : List (ℕ × Event)
adding_run = (0, claim) ∷ (0, open_tile) ∷ (0, store) ∷ (0, release) ∷ (0, add) ∷ (0, finish) ∷ (1, claim)
    ∷ (1, open_tile) ∷ (1, add) ∷ (1, finish) ∷ (0, claim) ∷ (0, open_tile) ∷ (0, add) ∷ (0, finish) ∷ (0, claim)
    ∷ (1, claim) ∷ []

-- three tiles of one place each: cell 0 := 5, cell 1 := 6, then cell 2 := cell 0 + cell 1
abbrev pub three : Plan
three = record two {
  places = 3;
  cells = 3;
  tiles = 3;
  read = λ j. if nat_lt j 2 then [] else 0 ∷ 1 ∷ [];
  value = λ j xs. if nat_lt j 2 then j + 5 else get_or xs 0 0 + get_or xs 1 0;
}

-- the last tile waits for both others
abbrev pub both_to_last : Edges
both_to_last = record { count = 2; start = λ t. if nat_lt t 2 then t else 2; target = λ i. 2 }

-- the plan with its counters
abbrev pub counted : Plan
counted = released three both_to_last

-- its state at first
abbrev pub counted_first : State
counted_first =
    record { claims = 0; finished = 0; cells = 0 ∷ 0 ∷ 0 ∷ 0 ∷ 0 ∷ 0 ∷ []; workers = idle ∷ idle ∷ [] }

-- and where both workers have ended: the counter of the last tile holds 2
abbrev pub counted_last : State
counted_last =
    record { claims = 5; finished = 3; cells = 5 ∷ 6 ∷ 11 ∷ 0 ∷ 0 ∷ 2 ∷ []; workers = ended ∷ ended ∷ [] }

-- worker 1 does the last tile: it tries to open it before both others have released it, and to finish before its store;
-- worker 0 tries to finish its first tile before it has released the last one
abbrev pub counted_run : List (ℕ × Event)
counted_run = (0, claim) ∷ (0, open_tile) ∷ (0, store) ∷ (0, finish) ∷ (0, release) ∷ (0, finish) ∷ (0, claim)
    ∷ (0, open_tile) ∷ (1, claim) ∷ (1, open_tile) ∷ (0, store) ∷ (1, open_tile) ∷ (0, release) ∷ (1, open_tile)
    ∷ (0, finish) ∷ (1, load) ∷ (1, load) ∷ (1, finish) ∷ (1, add) ∷ (1, store) ∷ (1, finish) ∷ (0, claim)
    ∷ (1, claim) ∷ []
