-- Where a worker stands: before a tile, at its first instance, at the next one.
use Rattle.scop_syntax.proofs.Common.{◌≡◌, ℕ, zero, suc, ◌+◌, ◌<◌, List, [], ◌∷◌, ◌++◌, drop, length, Option, Some}
use Rattle.scop_syntax.proofs.Common.{None, ap, ap₂, map, sym, subst, refl, ◌∙◌, Bor, arith, All, replicate, slice_get}
use Rattle.scop_syntax.proofs.Common.{slice_index_or, IsNone, MatchOption, option_copied, map-append, All-push}
use Rattle.scop_syntax.proofs.Common.{slice_get_within, instance_of, Instance, in_from_place, there_is}
use Rattle.std.proofs.lemmas.List.{replicate-append-replicate}
use Rattle.scop_syntax.specs.declared.instance.Instance.{Instance as CodeInstance}
use Rattle.loop_tree.specs.SpotView.{IsSpotOf, found_in, to_come}
use Rattle.loop_tree.specs.View.{trees_in}
use Rattle.loop_tree.specs.declared.spot.Spot.{Spot}
use Rattle.loop_tree.proofs.Visits.{listed_same}
use Rattle.tile_table.specs.Desks.{HasRoomForAll}
use Rattle.tile_list.specs.Tiles.{start_of}
use Rattle.tile_list.specs.TilesView.{to_come_at}
use Rattle.tile_list.specs.declared.list.Tile.{Tile}
use Rattle.tile_events.specs.Deal.{IsScan}
use Rattle.tile_events.specs.Sound.{Holds}
use Rattle.tile_core.specs.Plans.{IsPlan, deal_of, places_in, program_in, scan_in, shape_of, walk_in, walk_shape}
use Rattle.tile_core.specs.Ranks.{rank_in, start_at}
use Rattle.tile_events.specs.Core.{idle}
use Rattle.tile_core.specs.Workers.{AreDesks, HasNoneDue, IsDue, IsNext, IsWorker, staged, worker_of}
use Rattle.tile_core.specs.declared.plan.Plan.{Plan}
use Rattle.tile_core.specs.declared.worker.Stage.{Stage}
use Rattle.tile_core.specs.declared.worker.Stage.TheVariants.{Idle, Working}
use Rattle.tile_core.specs.declared.worker.Worker.{Worker}
use Rattle.tile_core.proofs.Cuts.{PartsStand, starts_rise, sum_start}
use Rattle.tile_core.proofs.Gates.{tiles_are}
use Rattle.tile_core.proofs.Plans.{sizes_agree}

-- a worker that holds no tile
pub idle_is : (plan : Plan) (w : Worker) → w.stage ≡ Idle → IsSpotOf (trees_in plan.tree.now) plan.params.now w.spot
    → HasRoomForAll plan.table.now w.desk → AreDesks plan.table.now w.desks.items → IsWorker plan w
idle_is plan w is spot desk desks = record {
  spot = spot;
  tile = λ t h. absurd (subst (λ s. Holds (staged s w.reads.items) t) is h);
  next = λ t k e l. absurd (differ t k (sym is ∙ e));
  desk = desk;
  desks = desks;
}
  where
    differ : (t k : ℕ) → Idle ≡ Working t k → ⊥
    differ t k e = cc

-- what is known of the place of one at work
pub at_stage : (holds : ℕ → ℕ → Type 0) (stage : Stage) (t k u m : ℕ) → stage ≡ Working t k → holds t k
    → stage ≡ Working u m → holds u m
at_stage holds stage t k u m works is e =
    let both : Working t k ≡ Working u m = sym works ∙ e in
    let p : t ≡ u = cc in
    let q : k ≡ m = cc in
    subst (λ v. holds v m) p (subst (λ n. holds t n) q is)

-- one at work
pub at_work : (plan : Plan) (w : Worker) (t k : ℕ) → w.stage ≡ Working t k
    → IsSpotOf (trees_in plan.tree.now) plan.params.now w.spot → HasRoomForAll plan.table.now w.desk
    → AreDesks plan.table.now w.desks.items → t < (shape_of plan).tiles
    → (k < (walk_shape plan).size t → IsNext plan ((deal_of plan).start t + k) w.next w.spot) → IsWorker plan w
at_work plan w t k is spot desk desks less next = record {
  spot = spot;
  tile = λ u h.
      let same : t ≡ u = subst (λ s. Holds (staged s w.reads.items) u) is h in
      subst (λ v. v < (shape_of plan).tiles) same less;
  next = λ u m e.
      at_stage (λ v n. n < (walk_shape plan).size v → IsNext plan ((deal_of plan).start v + n) w.next w.spot) w.stage t k u m
      is next e;
  desk = desk;
  desks = desks;
}

-- an idle worker behind others
pub workers_more : (plan : Plan) (old new : List Worker) (w : Worker) (n : ℕ) → new ≡ old ++ w ∷ []
    → map worker_of old ≡ replicate n idle → All (IsWorker plan) old → w.stage ≡ Idle → IsWorker plan w
    → (map worker_of new ≡ replicate (n + 1) idle) × All (IsWorker plan) new
workers_more plan old new w n is idles all stage here = (
  ap (map worker_of) is
      ∙ (map-append worker_of old (w ∷ [])
      ∙ (ap₂ (λ ws us. ws ++ us) idles (ap (λ s. staged s w.reads.items ∷ []) stage)
      ∙ replicate-append-replicate n 1 idle)),
  subst (All (IsWorker plan)) (sym is) (All-push (IsWorker plan) old w all here),
)

-- the rank of the first instance of a tile
start_is : (plan : Plan) (t : ℕ) (is : IsPlan plan) → (deal_of plan).start t + 0 ≡ start_of is.tiles.parts t + 0
start_is plan t is =
    let list = is.tiles in
    let sizes = sizes_agree plan.list.now.tiles.items list.parts list.count (λ u x e. (list.tiles u x e).size) in
    ap (λ ns. start_at ns t + 0) sizes ∙ ap (λ n. n + 0) (sum_start list.parts t)

-- the first instance of a tile
pub first_instance : PartsStand → (plan : Plan) (t : ℕ) (tile : Tile) → IsPlan plan
    → slice_get plan.list.now.tiles.items t ≡ Some tile
    → Some (instance_of tile.first) ≡ slice_get (scan_in plan) ((deal_of plan).start t + 0)
first_instance stand plan t tile is at =
    let list = is.tiles in
    let one = list.tiles t tile at in
    let within = slice_get_within plan.list.now.tiles.items t tile at in
    let n = list.count in
    let some = slice_get_within (slice_index_or list.parts t []) 0 (instance_of tile.first) one.first in
    sym (ap (slice_get (scan_in plan)) (start_is plan t is)
    ∙ (stand is.tiling (scan_in plan) list.parts list.cut t 0 (omega (arith, within, n)) some ∙ one.first))

-- and the place behind it
pub first_is : PartsStand → (plan : Plan) (t : ℕ) (tile : Tile) (spot : Spot) → IsPlan plan
    → slice_get plan.list.now.tiles.items t ≡ Some tile
    → to_come (trees_in plan.tree.now) plan.params.now spot
    ≡ to_come_at (trees_in plan.tree.now) plan.params.now tile.place
    → IsNext plan ((deal_of plan).start t + 0) (Some tile.first) spot
first_is stand plan t tile spot is at set =
    let list = is.tiles in
    let start = start_is plan t is in
    record {
      instance = first_instance stand plan t tile is at;
      behind = set ∙ ((list.tiles t tile at).behind ∙ ap (λ n. drop n (scan_in plan))
          (let q : suc (start_of list.parts t) ≡ suc ((deal_of plan).start t + 0) = omega (arith, start) in q));
    }

-- what stands in front of the rest of a list
pub head_is : (ys : List Instance) (n : ℕ) (x : Instance) (rest : List Instance) → drop n ys ≡ x ∷ rest
    → (slice_get ys n ≡ Some x) × (drop (suc n) ys ≡ rest)
head_is [] zero x rest e = absurd cc
head_is [] (suc n) x rest e = absurd cc
head_is (y ∷ ys) zero x rest e = (let f : y ≡ x = cc in ap Some f, let f : ys ≡ rest = cc in f)
head_is (y ∷ ys) (suc n) x rest e = head_is ys n x rest e

none_is : (ys : List Instance) (n : ℕ) → drop n ys ≡ [] → (slice_get ys n ≡ None) × (drop (suc n) ys ≡ [])
none_is [] zero e = (refl, refl)
none_is [] (suc n) e = (refl, refl)
none_is (y ∷ ys) zero e = absurd cc
none_is (y ∷ ys) (suc n) e = none_is ys n e

-- what a spot gives next is the next one of the scan
pub next_is : (plan : Plan) (r : ℕ) (o : Option CodeInstance) (old new : Spot)
    → to_come (trees_in plan.tree.now) plan.params.now old ≡ drop r (scan_in plan)
    → to_come (trees_in plan.tree.now) plan.params.now old ≡ found_in o ++ to_come
    (trees_in plan.tree.now) plan.params.now new
    → (IsNone o → to_come (trees_in plan.tree.now) plan.params.now old ≡ []) → IsNext plan r o new
next_is plan r (Some i) old new at goes ends =
    let h = head_is (scan_in plan) r (instance_of i) (to_come (trees_in plan.tree.now) plan.params.now new)
    (sym at ∙ goes) in
    record { instance = sym h.0; behind = sym h.1 }
next_is plan r None old new at goes ends =
    let z = ends refl in
    let h = none_is (scan_in plan) r (sym at ∙ z) in
    record { instance = sym h.0; behind = sym goes ∙ (z ∙ sym h.1) }

-- the rank of an instance of a tile is one of the scan
pub rank_within : (plan : Plan) (t k : ℕ) → IsScan (deal_of plan) → length (scan_in plan) ≡ length (walk_in plan)
    → t < (shape_of plan).tiles → k < (walk_shape plan).size t → (deal_of plan).start t + k < length (scan_in plan)
rank_within plan t k scan many less left =
    let d = deal_of plan in
    let tiles = tiles_are plan in
    let up = starts_rise d.start d.tiles scan.rises (suc t) d.tiles (omega (arith, less, tiles)) (omega arith) in
    let last = scan.last in
    omega (arith, up, last, left, many)

-- the next instance of a worker at work is due
pub due_is : (plan : Plan) (stage : Stage) (t k : ℕ) (next : Option CodeInstance) (spot : Spot) → IsPlan plan
    → IsScan (deal_of plan) → length (scan_in plan) ≡ length (walk_in plan) → stage ≡ Working t k
    → t < (shape_of plan).tiles → k < (walk_shape plan).size t → IsNext plan ((deal_of plan).start t + k) next spot
    → MatchOption next (HasNoneDue plan stage) (IsDue plan stage)
due_is plan stage t k None spot is scan many works less left n =
    let r = (deal_of plan).start t + k in
    let x = there_is (scan_in plan) r (rank_within plan t k scan many less left) in
    absurd (differ x.0 (slice_get (scan_in plan) r) n.instance x.1)
  where
    differ : (y : Instance) (o : Option Instance) → None ≡ o → o ≡ Some y → ⊥
    differ y o e f = cc
due_is plan stage t k (Some i) spot is scan many works less left n =
    let tiling = is.tiling in
    let same = listed_same (program_in plan) plan.params.now tiling (scan_in plan) is.order (instance_of i) in record {
      tile = t;
      count = k;
      works = works;
      left = left;
      place = ap (rank_in (places_in plan)) n.instance;
      walked = same.0
          (in_from_place (scan_in plan) ((deal_of plan).start t + k) (instance_of i) (sym n.instance));
    }

-- and so where it is lent
pub lent : (plan : Plan) (stage : Stage) (o : Option (Bor CodeInstance))
    → MatchOption (option_copied o) (HasNoneDue plan stage) (IsDue plan stage)
    → MatchOption o (HasNoneDue plan stage) (λ i. IsDue plan stage i.now)
lent plan stage None due = due
lent plan stage (Some i) due = due
