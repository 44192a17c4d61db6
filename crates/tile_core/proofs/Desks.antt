-- A worker's desk at an instance of a plan: what its lanes tell there (`read_cell`, `written_cell`, `value_there`), and
-- that it stays there.
use Rattle.scop_syntax.proofs.Common.{◌≡◌, ◌∙◌, ℕ, ℤ, suc, ◌+◌, ◌<◌, List, length, get_or, Some, ap, subst, arith}
use Rattle.scop_syntax.proofs.Common.{slice_get, length-map, Instance}
use Rattle.tile_table.specs.Codes.{value_by}
use Rattle.tile_table.specs.Desks.{HasSameRoom, IsLaid}
use Rattle.tile_table.specs.declared.desk.Desk.{Desk}
use Rattle.tile_table.specs.declared.table.Row.{Row}
use Rattle.tile_table.proofs.Desks.{room_stays, same_room_chain}
use Rattle.tile_core.specs.Plans.{places_in, plain_shape}
use Rattle.tile_core.specs.Ranks.{place_in}
use Rattle.tile_core.specs.declared.plan.Plan.{Plan}
use Rattle.tile_core.specs.steps.Acts.{values_at}
use Rattle.tile_core.specs.steps.Desks.{IsDeskAt, StaysLaid, TellsCell}

pub stays_then : (row : Row) (a b c : Desk) → StaysLaid row a b
    → ((steps turns : List ℤ) → IsLaid row steps turns b → IsLaid row steps turns c) → HasSameRoom b c
    → StaysLaid row a c
stays_then row a b c first laid room = record {
  laid = λ steps turns is. laid steps turns (first.laid steps turns is);
  room = same_room_chain a b c first.room room;
}

module _ (plan : Plan) (row : Row) (steps : List ℤ) (x : Instance) where
  abbrev place : ℕ
  place = place_in (places_in plan) x

  pub stays_at : (a b : Desk) → IsDeskAt plan row steps x a → StaysLaid row a b → IsDeskAt plan row steps x b
  stays_at a b at stays = record {
    tells = at.tells;
    room = room_stays row a b at.room stays.room;
    laid = stays.laid steps x.turns at.laid;
  }

  pub read_cell : (desk : Desk) (r number : ℕ) → IsDeskAt plan row steps x desk → r < row.code.reads
      → TellsCell row desk (r + 1) number → number ≡ get_or ((plain_shape plan).read place) r 0
  read_cell desk r number at less told =
      at.tells.read r number less (λ form there. told steps x.turns form at.laid
      (subst (λ n. slice_get row.cells.items n ≡ Some form) (let e : suc r ≡ r + 1 = omega arith in e) there))

  pub written_cell : (desk : Desk) (number : ℕ) → IsDeskAt plan row steps x desk → TellsCell row desk 0 number
      → number ≡ (plain_shape plan).written place
  written_cell desk number at told = at.tells.written number (λ form there. told steps x.turns form at.laid there)

  -- what its code makes of the values of the cells that are read
  pub value_there : (desk : Desk) (cells values : List ℕ) (value : ℕ) → IsDeskAt plan row steps x desk
      → values ≡ values_at cells ((plain_shape plan).read place) → value ≡ value_by row.code x.turns values
      → value ≡ (plain_shape plan).value place (values_at cells ((plain_shape plan).read place))
  value_there desk cells values value at are is =
      let rs = (plain_shape plan).read place in
      let n = ap (λ (vs : List ℕ). length vs) are in
      let m = length-map rs (λ c. get_or cells c 0) in
      let count = at.tells.reads in
      is ∙ (at.tells.value values (omega (arith, n, m, count)) ∙ ap ((plain_shape plan).value place) are)
