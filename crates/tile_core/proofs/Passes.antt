-- The instance that comes next in the tile of a pass.
use Rattle.scop_syntax.proofs.Common.{◌≡◌, ℕ, ◌∙◌, ◌≤◌, [], Option, Some, None, Bor, ap, sym, subst, refl, arith}
use Rattle.scop_syntax.proofs.Common.{option_copied, MatchOption, slice_get, slice_index_or, slice_get_within}
use Rattle.scop_syntax.proofs.Common.{instance_of}
use Rattle.scop_syntax.specs.declared.instance.Instance.{Instance as CodeInstance}
use Rattle.tile_list.specs.declared.list.Tile.{Tile}
use Rattle.tile_events.specs.Sound.{Holds}
use Rattle.tile_core.specs.Passes.{HasNoneNext, IsNextIn}
use Rattle.tile_core.specs.Plans.{IsPlan, places_in, walk_shape}
use Rattle.tile_core.specs.Ranks.{rank_in}
use Rattle.tile_core.specs.Views.{done_at}
use Rattle.tile_core.specs.Workers.{HasNoneDue, IsDue, staged}
use Rattle.tile_core.specs.declared.plan.Plan.{Plan}
use Rattle.tile_core.specs.declared.worker.Stage.{Stage}
use Rattle.tile_core.specs.declared.worker.Stage.TheVariants.{Holding, Working}
use Rattle.tile_core.proofs.Cuts.{PartsStand}
use Rattle.tile_core.proofs.Tiles.{size_is}
use Rattle.tile_core.proofs.Workers.{first_instance}

-- the first one of a tile that is not opened
pub first_next : PartsStand → (plan : Plan) (stage : Stage) (t : ℕ) (tile : Tile) → IsPlan plan
    → slice_get plan.list.now.tiles.items t ≡ Some tile → stage ≡ Holding t → IsNextIn plan stage tile.first
first_next stand plan stage t tile is at holding =
    let e : done_at stage ≡ 0 = ap done_at holding in
    let one = is.tiles.tiles t tile at in
    let some = slice_get_within (slice_index_or is.tiles.parts t []) 0 (instance_of tile.first) one.first in
    let many = one.size in
    let size = size_is plan.list.now.tiles.items t tile at in
    record {
      tile = t;
      held = subst (λ s. Holds (staged s []) t) (sym holding) refl;
      left = omega (arith, e, some, many, size);
      place = ap (rank_in (places_in plan)) (first_instance stand plan t tile is at)
          ∙ ap ((walk_shape plan).place t) (sym e);
    }

-- the one that is due comes next
pub next_due : (plan : Plan) (stage : Stage) (t k : ℕ) (o : Option (Bor CodeInstance)) → stage ≡ Working t k
    → MatchOption o (HasNoneDue plan stage) (λ i. IsDue plan stage i.now)
    → MatchOption (option_copied o) (HasNoneNext plan stage) (IsNextIn plan stage)
next_due plan stage t k None works none = λ u held.
    let same : t ≡ u = subst (λ s. Holds (staged s []) u) works held in
    let done = ap done_at works in
    let full = none t k works in
    subst (λ v. (walk_shape plan).size v ≤ done_at stage) same (omega (arith, done, full))
next_due plan stage t k (Some i) works due =
    let done = ap done_at due.works in
    let left = due.left in
    record {
      tile = due.tile;
      held = subst (λ s. Holds (staged s []) due.tile) (sym due.works) refl;
      left = omega (arith, done, left);
      place = due.place ∙ ap ((walk_shape plan).place due.tile) (sym done);
    }
