-- The lanes of a join at an instance of a plan: the cells that they tell there (`written_lane`), that these are some of
-- the plan's (`all_within`), and what the join makes of them (`join_there`).
use Rattle.scop_syntax.proofs.Common.{◌≡◌, ◌≤◌, ◌∙◌, false, ℕ, ℤ, suc, ◌<◌, List, [], ◌∷◌, length, get_or, map, Some}
use Rattle.scop_syntax.proofs.Common.{ap, refl, sym, take, arith, Option, slice_get, In, instance_of, Instance}
use Rattle.scop_syntax.specs.declared.instance.Instance.{Instance as CodeInstance}
use Rattle.loop_tree.specs.declared.stretch.Stretch.{Stretch}
use Rattle.tile_table.specs.Codes.{leaves_at}
use Rattle.tile_table.specs.Joins.{IsJoinAt, joined_by}
use Rattle.tile_table.specs.declared.join.JoinLanes.{JoinLanes}
use Rattle.tile_table.specs.declared.lane.Lane.{Lane}
use Rattle.tile_table.specs.declared.table.Row.{Row}
use Rattle.tile_core.specs.Plans.{places_in, plain_shape}
use Rattle.tile_core.specs.Ranks.{place_in}
use Rattle.tile_core.specs.Rows.{IsRowAt}
use Rattle.tile_core.specs.Stretches.{IsAhead}
use Rattle.tile_core.specs.declared.plan.Plan.{Plan}
use Rattle.tile_core.specs.declared.worker.Stage.{Stage}
use Rattle.tile_core.specs.declared.worker.Stage.TheVariants.{Working}
use Rattle.tile_core.specs.steps.Acts.{values_at}
use Rattle.tile_core.specs.steps.Joins.{AreJoinedFrom, AreWithin, IsJoinedAt}
use Rattle.tile_core.proofs.Ahead.{place_ahead, walked_ahead}

-- three values
three : (f : ℕ → ℕ) (xs : List ℕ) → length xs ≡ 3
    → f (get_or xs 0 0) ∷ f (get_or xs 1 0) ∷ f (get_or xs 2 0) ∷ [] ≡ map f xs
three f [] e = absurd (omega (arith, e))
three f (x ∷ []) e = absurd (omega (arith, e))
three f (x ∷ y ∷ []) e = absurd (omega (arith, e))
three f (x ∷ y ∷ z ∷ []) e = refl
three f (x ∷ y ∷ z ∷ w ∷ ws) e = absurd (omega (arith, e))

module _ (plan : Plan) (row : Row) (steps : List ℤ) (x : Instance) (lanes : JoinLanes)
    (at : IsJoinedAt plan row steps x lanes) where
  abbrev place : ℕ
  place = place_in (places_in plan) x

  abbrev own : List Lane
  own = lanes.place ∷ lanes.first ∷ lanes.second ∷ lanes.third ∷ []

  read_lane : (r : ℕ) (lane : Lane) → r < 3 → slice_get own (suc r) ≡ Some lane
      → lane.at ≡ get_or ((plain_shape plan).read place) r 0
  read_lane r lane less there =
      let reads = at.laid.joins.reads in
      at.tells.read r lane.at (omega (arith, less, reads))
      (λ form told. (at.laid.cells.each (suc r) form lane told there).at)

  pub written_lane : lanes.place.at ≡ (plain_shape plan).written place
  written_lane = at.tells.written lanes.place.at (λ form told. (at.laid.cells.each 0 form lanes.place told refl).at)

  read_within : (r cells : ℕ) (lane : Lane) → r < 3 → slice_get own (suc r) ≡ Some lane → (plain_shape plan).cells ≤ cells
      → lane.at < cells
  read_within r cells lane less there wide =
      let reads = at.laid.joins.reads in
      let found = read_lane r lane less there in
      let inside = at.tells.read_inside r (omega (arith, less, reads)) in
      omega (arith, found, inside, wide)

  -- they stand at cells of the plan
  pub all_within : (cells : List ℕ) → (plain_shape plan).cells ≤ length cells → AreWithin lanes cells
  all_within cells wide =
      let found = written_lane in
      let inside = at.tells.written_inside in record {
        place = omega (arith, found, inside, wide);
        first = read_within 0 (length cells) lanes.first (omega arith) refl wide;
        second = read_within 1 (length cells) lanes.second (omega arith) refl wide;
        third = read_within 2 (length cells) lanes.third (omega arith) refl wide;
      }

  -- a join is stored
  pub join_stored : (plain_shape plan).adds ((plain_shape plan).written place) ≡ false
  join_stored = sym at.tells.adds ∙ at.laid.stores

  -- what it makes of the values of the cells that are read
  pub join_there : (cells : List ℕ)
      → joined_by lanes.join (get_or cells lanes.first.at 0) (get_or cells lanes.second.at 0)
      (get_or cells lanes.third.at 0) ≡ (plain_shape plan).value place (values_at cells ((plain_shape plan).read place))
  join_there cells =
      let rs = (plain_shape plan).read place in
      let f : ℕ → ℕ = λ c. get_or cells c 0 in
      let count : length rs ≡ 3 = sym at.tells.reads ∙ at.laid.joins.reads in
      let values : f lanes.first.at ∷ f lanes.second.at ∷ f lanes.third.at ∷ [] ≡ values_at cells rs =
      ap (λ (c : ℕ). f c ∷ f lanes.second.at ∷ f lanes.third.at ∷ []) (read_lane 0 lanes.first (omega arith) refl)
      ∙ (ap (λ (c : ℕ). f (get_or rs 0 0) ∷ f c ∷ f lanes.third.at ∷ []) (read_lane 1 lanes.second (omega arith) refl)
      ∙ (ap (λ (c : ℕ). f (get_or rs 0 0) ∷ f (get_or rs 1 0) ∷ f c ∷ []) (read_lane 2 lanes.third (omega arith) refl)
      ∙ three f rs count)) in
      sym (at.laid.joins.value (leaves_at row.code x.turns) _ _ _)
      ∙ (at.tells.value _ (sym at.laid.joins.reads) ∙ ap ((plain_shape plan).value place) values)

-- what a worker has ahead, where the lanes stand at the first of it
pub joined_from : (plan : Plan) (stage : Stage) (next : Option CodeInstance) (stretch : Stretch) (count : ℕ)
    (i : CodeInstance) (row : Row) (lanes : JoinLanes)
    → ((x : Instance) → In x (places_in plan) → slice_get plan.table.now.rows.items x.number ≡ Some row
    → IsRowAt plan row x)
    → IsAhead plan stage next stretch count → next ≡ Some i → slice_get plan.table.now.rows.items i.statement ≡ Some row
    → IsJoinAt row (take i.loops stretch.steps) (instance_of i).turns lanes → (t k : ℕ) → stage ≡ Working t k
    → AreJoinedFrom plan row (take i.loops stretch.steps) (instance_of i) t k count lanes
joined_from plan stage next stretch count i row lanes law ahead is own laid t k works = record {
  tells = λ j less. law _ (walked_ahead plan stage next stretch count i ahead is j less) own;
  place = λ j less. place_ahead plan stage next stretch count i ahead is t k j works less;
  laid = laid;
}
