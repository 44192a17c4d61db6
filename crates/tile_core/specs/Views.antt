-- What a view says of its worker, and the rule of the table.
use Rattle.std.specs.Prelude.{ℕ, false, List, [], length, get_or, Option, Some, None}
use Rattle.atomic_table.specs.Table as table
use Rattle.tile_events.specs.Plan as plain
use Rattle.tile_events.specs.Plan.{waves, values_read}
use Rattle.tile_events.specs.Core as core
use Rattle.tile_events.specs.Core.{needed_by}
use Rattle.tile_events.specs.Rule.{Held, ticked, missed, unmoved}
use Rattle.tile_events.specs.declared.clock.Clock.{Clock}
use Rattle.tile_core.specs.declared.worker.Stage.{Stage}
use Rattle.tile_core.specs.declared.worker.Stage.TheVariants.{Idle, Ended, Holding, Working}
use Rattle.tile_core.specs.Plans.{plan_of}
use Rattle.tile_core.specs.Workers.{staged}
use Rattle.tile_core.specs.declared.view.Key.{Key}
use Rattle.tile_core.specs.declared.view.View.{View}

-- the plan with the cells at first
abbrev pub key_plan : Key → plain.Plan
key_plan key = plan_of key.plan key.cells.items

-- the worker that the view shows
abbrev pub worker_in : View → core.Worker
worker_in v = staged v.stage v.reads

-- for how many workers it stands
abbrev pub parts_in : View → ℕ
parts_in v = v.parts

-- what steps it has made
abbrev pub clock_in : View → Clock
clock_in v = v.clock

-- words and views are a sound state of the core, the views stand for all workers, and the last step is known
abbrev pub Ruled : Key → table.State (Unit {0}) View → Type 0
Ruled key = Held (key_plan key) key.workers worker_in parts_in clock_in

-- the first pass stands for all workers
abbrev pub opening_view : Key → View
opening_view key = record { key = Some key; parts = key.workers; stage = Idle; reads = []; clock = unmoved }

-- the view at another stage, with these values read
abbrev pub at_stage : View → Stage → List ℕ → View
at_stage v s xs = record v { stage = s; reads = xs }

-- the view behind a step of this stamp that left so much in the word, and behind one that was a claim without a tile
abbrev pub behind : View → ℕ → ℕ → ℕ → View
behind v stamp word left = record v { clock = ticked v.clock stamp word left }

abbrev pub behind_miss : View → ℕ → ℕ → ℕ → View
behind_miss v stamp word left = record v { clock = missed v.clock stamp word left }

-- a plan of no tiles
abbrev pub nothing : plain.Plan
nothing = record {
  places = 0;
  cells = 0;
  tiles = 0;
  written = λ j. 0;
  read = λ j. [];
  adds = λ c. false;
  value = λ j xs. 0;
  initial = λ c. 0;
  tile = λ j. 0;
  position = λ j. 0;
  size = λ t. 0;
  place = λ t k. 0;
  wave = λ t. 0;
  offset = λ w. 0;
  gate = waves;
}

-- the plan of a view's key
abbrev pub plan_at : Option Key → plain.Plan
plan_at None = nothing
plan_at (Some key) = key_plan key

-- the tile that is held
abbrev pub tile_at : Stage → ℕ
tile_at Idle = 0
tile_at Ended = 0
tile_at (Holding t) = t
tile_at (Working t k) = t

-- how many of its instances are done
abbrev pub done_at : Stage → ℕ
done_at Idle = 0
done_at Ended = 0
done_at (Holding t) = 0
done_at (Working t k) = k

-- the place of the next instance
abbrev pub place_at : plain.Plan → Stage → ℕ
place_at p s = p.place (tile_at s) (done_at s)

-- how many tiles have to be finished before the tile that is held may be opened
abbrev pub needs_at : plain.Plan → Stage → ℕ
needs_at p s = needed_by p.gate p (tile_at s)

-- what execution read there as the value of the next instance that is read next
abbrev pub executed : plain.Plan → Stage → List ℕ → ℕ
executed p s xs = get_or (values_read p (place_at p s)) (length xs) 0
