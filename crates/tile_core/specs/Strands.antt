-- Desks of a braid's strands, each laid for what its strand gives in a round.
use Rattle.std.specs.Prelude.{◌≡◌, ◌+◌, ◌<◌, ◌≤◌, ℕ, List, Some, get_or, length, slice_get, take}
use Rattle.scop_syntax.specs.Members.{In}
use Rattle.loop_tree.specs.declared.braid.Braid.{Braid}
use Rattle.loop_tree.specs.declared.stretch.Stretch.{Stretch}
use Rattle.tile_table.specs.Desks.{IsLaid}
use Rattle.tile_table.specs.declared.desk.Desk.{Desk}
use Rattle.tile_table.specs.declared.table.Row.{Row}
use Rattle.tile_table.specs.declared.table.Table.{Table}
use Rattle.tile_core.specs.Plans.{places_in, walk_shape}
use Rattle.tile_core.specs.Ranks.{place_in}
use Rattle.tile_core.specs.Stretches.{in_round}
use Rattle.tile_core.specs.declared.plan.Plan.{Plan}

-- the table has a row for each strand
abbrev pub HaveRows : Table → Braid → Type 0
HaveRows table b =
    (at : ℕ) (strand : Stretch) → at < b.count → slice_get b.strands at ≡ Some strand
    → strand.before.statement < length table.rows.items

-- a desk is laid for what a strand gives in a round
abbrev pub IsLaidFor : Table → Stretch → ℕ → Desk → Type 0
IsLaidFor table strand round desk =
    (row : Row) → slice_get table.rows.items strand.before.statement ≡ Some row
    → IsLaid row (take strand.before.loops strand.steps) (in_round strand round).turns desk

-- so are those of the strands from one on and before another
abbrev pub AreLaid : Table → Braid → ℕ → ℕ → ℕ → List Desk → Type 0
AreLaid table b from to round desks =
    (at : ℕ) (strand : Stretch) (d : Desk) → from ≤ at → at < to → slice_get b.strands at ≡ Some strand
    → IsLaidFor table strand round (get_or desks at d)

-- in a round the strands give instances of a tile, of which the first has number k
pub record IsRoundAt (plan : Plan) (b : Braid) (round t k : ℕ) : Type 0 where
  pub walked : (at : ℕ) (strand : Stretch) → at < b.count → slice_get b.strands at ≡ Some strand
      → In (in_round strand round) (places_in plan)
  pub place : (at : ℕ) (strand : Stretch) → at < b.count → slice_get b.strands at ≡ Some strand
      → place_in (places_in plan) (in_round strand round) ≡ (walk_shape plan).place t (k + at)

-- they are to give these, and their desks are laid for it
pub record IsRound (plan : Plan) (b : Braid) (round t k : ℕ) (desks : List Desk) : Type 0 where
  pub here : IsRoundAt plan b round t k
  pub laid : AreLaid plan.table.now b 0 b.count round desks

-- so in some round
pub record StandsInRound (plan : Plan) (b : Braid) (desks : List Desk) : Type 0 where
  pub round : ℕ
  pub tile : ℕ
  pub first : ℕ
  pub is : IsRound plan b round tile first desks
