-- The rule of an atomic table on which such a run goes on: words and views show a state of the core, and it is sound.
use Rattle.std.specs.Prelude.{◌≡◌, ℕ, suc, ◌+◌, ◌<◌, ◌≤◌, ⊤, min, List, map, length, drop, nat_lt, slice_index}
use Rattle.std.specs.Prelude.{if◌then◌else◌}
use Rattle.atomic_table.specs.Table as table
use Rattle.tile_events.specs.Plan.{Plan, Gate, waves, counters, GoodPlan, IsDealt}
use Rattle.tile_events.specs.Core.{Worker, idle, ended, holding, working, State}
use lib.ListN.{get_elem?}
use mathlib.Core.Option.{some}
use Rattle.tile_events.specs.Sound.{Holds, total, Sound}
use Rattle.tile_events.specs.Opening.{AreOpeningWords}
use Rattle.tile_events.specs.declared.clock.Clock.{Clock}

-- the state that words and workers show: word 0 counts the claims, word 1 the finished tiles, the cells stand behind
abbrev pub core : List ℕ → List Worker → State
core words workers =
    record { claims = slice_index words 0; finished = slice_index words 1; cells = drop 2 words; workers = workers }

-- the word that is loaded to open tile t: the count of finished tiles, or the tile's counter
abbrev pub gate_word : Gate → ℕ → ℕ
gate_word waves t = 1
gate_word (counters cell needs) t = cell t + 2

-- the number where the worker has ended, else 0
abbrev pub if_ended : Worker → ℕ → ℕ
if_ended idle n = 0
if_ended ended n = n
if_ended (holding t) n = 0
if_ended (working t k xs) n = 0

-- each claim took a tile, or ended the worker that made it
abbrev pub AreCounted : Plan → State → Type 0
AreCounted p s = s.claims ≤ p.tiles + total (λ w. if_ended w 1) s.workers

-- the worker is idle or has ended
abbrev pub AtRest : Worker → Type 0
AtRest idle = ⊤
AtRest ended = ⊤
AtRest (holding t) = ⊥
AtRest (working t k xs) = ⊥

-- the clock of a seat that has made no step
abbrev pub unmoved : Clock
unmoved = record { steps = 0; stamp = 0; word = 0; left = 0; misses = 0 }

-- the clock behind one step more, which left so much in this word, when all seats had made as many as the stamp says
abbrev pub ticked : Clock → ℕ → ℕ → ℕ → Clock
ticked c stamp word left =
    record { steps = suc c.steps; stamp = stamp; word = word; left = left; misses = c.misses }

-- the same where that step was a claim that found no tile
abbrev pub missed : Clock → ℕ → ℕ → ℕ → Clock
missed c stamp word left =
    record { steps = suc c.steps; stamp = stamp; word = word; left = left; misses = suc c.misses }

-- the later of two
abbrev pub later : Clock → Clock → Clock
later c d = if nat_lt c.stamp d.stamp then d else c

-- two in one: the steps of both, and the last one of them
abbrev pub both_clocks : Clock → Clock → Clock
both_clocks c d = record {
  steps = c.steps + d.steps;
  stamp = (later c d).stamp;
  word = (later c d).word;
  left = (later c d).left;
  misses = c.misses + d.misses;
}

module _ {V : Type 0} (parts : V → ℕ) (clock : V → Clock) where
  -- how many steps all seats have made
  abbrev pub steps_in : List V → ℕ
  steps_in views = total (λ v. (clock v).steps) views

  -- the clocks of the views go right: the last step of all is known, with what it left
  pub record AreTimed (p : Plan) (words : List ℕ) (views : List V) : Type 0 where
    -- no step came behind the last
    pub until : (i : ℕ) (v : V) → get_elem? views i ≡ some v → (clock v).stamp ≤ steps_in views
    -- a seat made the last one
    pub last : 0 < steps_in views
        → (i : ℕ) × (v : V) × (get_elem? views i ≡ some v) × ((clock v).stamp ≡ steps_in views)
    -- whose word is as it was left
    pub left : (i : ℕ) (v : V) → get_elem? views i ≡ some v → 0 < steps_in views → (clock v).stamp ≡ steps_in views
        → slice_index words (clock v).word ≡ (clock v).left
    -- who stands for nobody has made no step
    pub nobody : (i : ℕ) (v : V) → get_elem? views i ≡ some v → parts v ≡ 0 → (clock v).steps ≡ 0
    -- before the first step the words are those of the opening state
    pub first : steps_in views ≡ 0 → AreOpeningWords p words

-- between any two steps on a table without slots, where each view tells its worker, for how many of the workers it
-- stands, `most` in all, and its clock
pub record Held {V : Type 0} (p : Plan) (most : ℕ) (worker : V → Worker) (parts : V → ℕ) (clock : V → Clock)
    (s : table.State (Unit {0}) V) : Type 0 where
  -- conflicting places are in order
  pub good : GoodPlan p
  -- the tiles have each place once
  pub dealt : IsDealt p
  -- no count wraps
  pub few : p.tiles + most < 18446744073709551615
  -- both counts are there
  pub long : 2 ≤ length s.words
  -- the state is sound
  pub sound : Sound p (core s.words (map worker s.views))
  -- the views stand for all workers
  pub workers : total parts s.views ≡ most
  -- each claim took a tile, or found none
  pub claims : slice_index s.words 0 ≡ min (slice_index s.words 0) p.tiles + total (λ v. (clock v).misses) s.views
  -- of the workers that have ended each made one claim that found none, and no other did
  pub misses : (i : ℕ) (v : V) → get_elem? s.views i ≡ some v → (clock v).misses ≤ if_ended (worker v) (parts v)
  -- who holds a tile stands for somebody
  pub stands : (i t : ℕ) (v : V) → get_elem? s.views i ≡ some v → Holds (worker v) t → 0 < parts v
  -- the clocks tell the last step
  pub timed : AreTimed parts clock p s.words s.views
