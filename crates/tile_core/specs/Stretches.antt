-- Instances of a tile that follow one another by equal steps, or in rounds of a few that do: what a worker has ahead, and
-- what it may pass by.
use Rattle.std.specs.Prelude.{◌≡◌, ◌+◌, ◌-◌, ◌*◌, ◌<◌, ◌≤◌, ◌⊎◌, ℕ, suc, ℤ, List, Option, Some, slice_get, take}
use Rattle.scop_syntax.specs.Members.{In}
use Rattle.scop_syntax.specs.View.{instance_of}
use Rattle.scop_syntax.specs.Walk.{Instance}
use Rattle.scop_syntax.specs.declared.instance.Instance.{Instance as CodeInstance}
use Rattle.loop_tree.specs.declared.spot.Spot.{Spot}
use Rattle.loop_tree.specs.declared.stretch.Stretch.{Stretch}
use Rattle.tile_list.specs.Stretches.{HasRounds, turns_on}
use Rattle.tile_core.specs.Plans.{places_in, walk_shape}
use Rattle.tile_core.specs.Ranks.{place_in}
use Rattle.tile_core.specs.declared.plan.Plan.{Plan}
use Rattle.tile_core.specs.declared.worker.Stage.{Stage}
use Rattle.tile_core.specs.declared.worker.Stage.TheVariants.{Working}

-- the instance so many steps behind another
abbrev pub moved : Instance → List ℤ → ℕ → Instance
moved x steps j = record { number = x.number; turns = turns_on x.turns steps j }

-- this instance stands in front of a stretch, which has the others of so many left
pub record IsAlong (stretch : Stretch) (i : CodeInstance) (count : ℕ) : Type 0 where
  pub front : instance_of i ≡ instance_of stretch.before
  pub loops : i.loops ≡ stretch.before.loops
  pub within : count ≤ suc stretch.left

-- of a number of instances so many may be passed by at once: one, or all, or one and all that a stretch has left
pub record IsPart (most left count : ℕ) : Type 0 where
  pub within : count ≤ most
  pub way : (count ≡ 1) ⊎ ((count ≡ suc left) ⊎ (count ≡ most))

-- so many of those that a worker's tile has left, if it is at work
abbrev pub CanPass : Plan → Stage → Stretch → ℕ → Type 0
CanPass plan stage stretch count =
    (t k : ℕ) → stage ≡ Working t k
    → (k < (walk_shape plan).size t) × IsPart ((walk_shape plan).size t - k) stretch.left count

-- a worker has so many instances ahead, the next one first, each with a stretch's steps more in its turns than the one
-- before it: they are those of its tile, in turn, and may be passed by at once
pub record IsAhead (plan : Plan) (stage : Stage) (next : Option CodeInstance) (stretch : Stretch)
    (count : ℕ) : Type 0 where
  pub tile : ℕ
  pub done : ℕ
  pub works : stage ≡ Working tile done
  pub instance : CodeInstance
  pub first : next ≡ Some instance
  pub some : 1 ≤ count
  pub walked : (j : ℕ) → j < count
      → In (moved (instance_of instance) (take instance.loops stretch.steps) j) (places_in plan)
  pub place : (j : ℕ) → j < count
      → place_in (places_in plan) (moved (instance_of instance) (take instance.loops stretch.steps) j)
      ≡ (walk_shape plan).place tile (done + j)
  pub passes : CanPass plan stage stretch count

-- what a strand gives in a round, where the first round has number 0
abbrev pub in_round : Stretch → ℕ → Instance
in_round s round = moved (instance_of s.before) (take s.before.loops s.steps) (suc round)

-- a worker has its next instance ahead, and behind it as many whole rounds as are left of its spot's braid: they are
-- those of its tile, strand after strand and round after round
pub record IsWoven (plan : Plan) (stage : Stage) (next : Option CodeInstance) (spot : Spot)
    (rounds : ℕ) : Type 0 where
  pub first : IsAhead plan stage next spot.stretch 1
  pub alone : spot.stretch.left ≡ 0
  pub some : 0 < rounds
  pub few : spot.braid.count ≤ 4
  pub has : HasRounds spot.braid rounds
  pub within : (t k : ℕ) → stage ≡ Working t k → k + suc (rounds * spot.braid.count) ≤ (walk_shape plan).size t
  pub walked : (round at : ℕ) (strand : Stretch) → round < rounds → at < spot.braid.count
      → slice_get spot.braid.strands at ≡ Some strand → In (in_round strand round) (places_in plan)
  pub place : (t k round at : ℕ) (strand : Stretch) → stage ≡ Working t k → round < rounds → at < spot.braid.count
      → slice_get spot.braid.strands at ≡ Some strand
      → place_in (places_in plan) (in_round strand round)
      ≡ (walk_shape plan).place t (k + suc (round * spot.braid.count + at))
