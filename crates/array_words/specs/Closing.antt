-- Passes joined into one seat, and what the cells are at the end.
use Rattle.std.specs.Prelude.{◌≡◌, ℕ, zero, suc, ◌+◌, ◌<◌, ◌≤◌, ⊤, List, [], None, length, get_or}
use Rattle.atomic_table.specs.declared.shared.Seat.{Seat}
use Rattle.tile_events.specs.Plan as plain
use Rattle.tile_events.specs.Plan.{before}
use Rattle.tile_events.specs.Rule.{both_clocks, unmoved}
use Rattle.tile_core.specs.declared.worker.Stage.{Stage}
use Rattle.tile_core.specs.declared.worker.Stage.TheVariants.{Idle, Ended, Holding, Working}
use Rattle.tile_core.specs.declared.view.View.{View}
use Rattle.tile_core.specs.declared.words.Words.{Words}
use Rattle.tile_core.specs.declared.words.Pass.{Pass}
use Rattle.tile_core.specs.Passes.{IsWords}

abbrev pub joined : Stage → Stage → Stage
joined Idle s = s
joined Ended s = Ended
joined (Holding t) s = Ended
joined (Working t k) s = Ended

-- both in one: it has ended where either had, and made the steps of both
abbrev pub together : View → View → View
together v u = record v {
  parts = v.parts + u.parts;
  stage = joined v.stage u.stage;
  reads = [];
  clock = both_clocks v.clock u.clock;
}

-- what is left of a view that was joined away
abbrev pub spent_view : View
spent_view = record { key = None; parts = 0; stage = Idle; reads = []; clock = unmoved }

abbrev pub Rests : Stage → Type 0
Rests Idle = ⊤
Rests Ended = ⊤
Rests (Holding t) = ⊥
Rests (Working t k) = ⊥

abbrev pub stage_in : Pass → Stage
stage_in pass = pass.worker.stage

-- the pass holds no tile
abbrev pub IsResting : Pass → Type 0
IsResting pass = Rests pass.worker.stage

abbrev pub one_if_ended : Stage → ℕ
one_if_ended Idle = 0
one_if_ended Ended = 1
one_if_ended (Holding t) = 0
one_if_ended (Working t k) = 0

-- the stage of a seat that has taken in so many that ended
abbrev pub stage_after : ℕ → Stage
stage_after zero = Idle
stage_after (suc n) = Ended

-- the seat stands for n workers, of whom so many have ended
pub record IsGathered (words : Words) (n ended : ℕ) (seat : Seat (Unit {0}) View) : Type 0 where
  pub of : IsWords words
  pub table : seat.table_id ≡ words.table.shared.table_id
  pub slots : seat.me.1 ≡ []
  pub parts : seat.me.0.parts ≡ n
  pub stage : seat.me.0.stage ≡ stage_after ended
  pub few : ended ≤ n

-- each cell has what direct execution leaves there
pub record IsClosed (p : plain.Plan) (old new : List ℕ) : Type 0 where
  pub long : length new ≡ length old
  pub cells : (c : ℕ) → c < p.cells → get_or new c 0 ≡ before p p.places c
