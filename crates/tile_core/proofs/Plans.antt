-- A plan's tiles hold each place of the walk once, and conflicting places lie in one tile or in waves that rise; with an
-- expansion, places and the sources of their reads (`flow_is`).
use Rattle.scop_syntax.proofs.Common.{◌≡◌, ℕ, suc, ◌-◌, ◌+◌, ◌<◌, Bool, false, ℤ, List, [], ◌∷◌, length, map, get_or}
use Rattle.scop_syntax.proofs.Common.{Some, ◌⊎◌, inl, inr, ap, ap₂, subst, sym, refl, ◌∙◌, arith, Option, None, Bor}
use Rattle.scop_syntax.proofs.Common.{true, ⊤, MatchOption, is_some, slice_get, slice_index_or, option_map, length-map}
use Rattle.scop_syntax.proofs.Common.{slice_get-map, slice_get_within, get_or_from_slice_get, Cell, Conflict}
use Rattle.scop_syntax.proofs.Common.{PlacesConflict, cell_of, AreInside, IsCell, cell_number, held, total_cells, In}
use Rattle.scop_syntax.proofs.Common.{Program, instance_of, Instance, Visit, instance, in_from_place, in_map_from}
use Rattle.scop_syntax.proofs.Common.{there_is, StandOnce, walked_distinct, AreMarked, is_marked, loads}
use Rattle.loop_tree.specs.Tiling.{IsFlowPlan, IsGoodFor, IsInOrder}
use Rattle.tile_list.specs.TilesView.{firsts_of, waves_of}
use Rattle.tile_list.specs.declared.list.Tile.{Tile}
use Rattle.tile_events.specs.Copies as copies
use Rattle.tile_events.specs.Copies.{AreSources, expanded}
use Rattle.tile_events.specs.Deal.{Deal, IsScan, dealt}
use Rattle.tile_events.specs.Flat.{IsWalk, flat, read_by, written_by}
use Rattle.tile_events.specs.Plan as events
use Rattle.tile_events.specs.Plan.{GoodPlan, IsByWaves, IsDealt, Touch, waves}
use Rattle.tile_events.proofs.Covers.{ordered_by_waves}
use Rattle.tile_events.proofs.Flat.{loads_read}
use Rattle.tile_core.specs.Plans.{IsPlan, deal_of, extents_in, is_expanded, plain_plan, plain_shape, program_in, scan_in}
use Rattle.tile_core.specs.Plans.{sources_in, walk_in, walk_plan, with_copies}
use Rattle.tile_core.specs.Ranks.{sizes_of, start_at}
use Rattle.tile_core.specs.declared.expansion.Expansion.{Expansion}
use Rattle.tile_core.specs.declared.plan.Plan.{Plan}
use Rattle.tile_core.proofs.Copies.{source_before, source_last, sources_are}
use Rattle.tile_core.proofs.Marks.{adds_is, none_added}
use Rattle.tile_core.proofs.Cuts.{IsCut, IsInTile, TileLaws, cut_is}
use Rattle.tile_core.proofs.Scans.{as_many, instance_at, place_back, place_within, rank_back, rank_there}
use Rattle.tile_core.proofs.Scans.{rank_within, tiles_in_order}

-- sizes of tiles that are those of parts
pub sizes_agree : (tiles : List Tile) (parts : List (List Instance)) → length tiles ≡ length parts
    → ((t : ℕ) (tile : Tile) → slice_get tiles t ≡ Some tile → tile.size ≡ length (slice_index_or parts t []))
    → sizes_of tiles ≡ map length parts
sizes_agree [] [] e h = refl
sizes_agree [] (p ∷ ps) e h = absurd (omega (arith, e))
sizes_agree (t ∷ ts) [] e h = absurd (omega (arith, e))
sizes_agree (t ∷ ts) (p ∷ ps) e h =
    ap₂ (λ (n : ℕ) (ns : List ℕ). n ∷ ns) (h 0 t refl)
    (sizes_agree ts ps (omega (arith, e)) (λ k tile at. h (suc k) tile at))

-- the cells that visits touch are among all cells
module _ (extents : List (List ℕ)) (visits : List Visit)
    (below : (c : Cell) → IsCell extents c → cell_number extents c < total_cells extents)
    (inside : AreInside extents visits) where
  pub visit_written : (j : ℕ) → j < length visits → written_by extents (slice_get visits j) < total_cells extents
  visit_written j l =
      let v = there_is visits j l in
      subst (λ o. written_by extents o < total_cells extents) (sym v.1)
      (below (cell_of v.0.body.place v.0.point)
      (inside v.0 (in_from_place visits j v.0 v.1) v.0.body.place (inl refl)))

  pub visit_read : (marked : List ℕ) (j c : ℕ) → j < length visits → In c (read_by extents marked (slice_get visits j))
      → c < total_cells extents
  visit_read marked j c l i =
      let v = there_is visits j l in
      let m = in_map_from (cell_number extents) c (map (λ access. cell_of access v.0.point) (loads marked v.0.body))
      (subst (λ o. In c (read_by extents marked o)) v.1 i) in
      let a = in_map_from (λ access. cell_of access v.0.point) m.0 (loads marked v.0.body) m.1 in
      let is = inside v.0 (in_from_place visits j v.0 v.1) a.0 (inr (loads_read marked v.0.body a.0 a.1)) in
      subst (λ n. n < total_cells extents) (sym (m.2 ∙ ap (cell_number extents) a.2))
      (below (cell_of a.0 v.0.point) is)

-- the laws of cells' numbers
pub record NumberLaws : Type 0 where
  pub below : (extents : List (List ℕ)) (c : Cell) → IsCell extents c → cell_number extents c < total_cells extents
  pub apart : (extents : List (List ℕ)) (c d : Cell) → IsCell extents c → IsCell extents d
      → cell_number extents c ≡ cell_number extents d → c ≡ d

-- the laws of walks, tiles and plans
pub record PlanLaws : Type 0 where
  pub tiles : TileLaws
  pub once : (program : Program) (params : List ℤ) → StandOnce program params
  pub numbers : NumberLaws
  pub deals : (d : Deal) (cells : ℕ) (adds : ℕ → Bool) (written : ℕ → ℕ) (read : ℕ → List ℕ)
      (value : ℕ → List ℕ → ℕ) (initial : ℕ → ℕ)
      → IsScan d → ((j : ℕ) → j < d.places → written j < cells)
      → ((j c : ℕ) → j < d.places → In c (read j) → c < cells) → IsDealt (dealt d cells adds written read value initial)
  pub copied_dealt : (p : events.Plan) (sources : ℕ → List (Option ℕ)) → ((c : ℕ) → p.adds c ≡ false) → p.gate ≡ waves
      → IsDealt p → ((j : ℕ) → j < p.places → AreSources p j (p.read j) (sources j)) → IsDealt (expanded p sources)
  pub copied_good : (p : events.Plan) (sources : ℕ → List (Option ℕ)) → ((c : ℕ) → p.adds c ≡ false) → p.gate ≡ waves
      → IsDealt p → ((j : ℕ) → j < p.places → AreSources p j (p.read j) (sources j)) → copies.IsFlowPlan p sources
      → GoodPlan (expanded p sources)
  pub touches : (extents contents : List (List ℕ)) (marked : List ℕ) (visits : List Visit) (p : events.Plan)
      → IsWalk extents contents marked visits p → AreMarked marked visits → AreInside extents visits
      → (i j : ℕ) (v w : Visit) → slice_get visits i ≡ Some v → slice_get visits j ≡ Some w → Touch p i j
      → (a : ℕ) × (b : ℕ) × (c : Conflict v a w b) × (is_marked marked c.first.array ≡ false)

-- without an expansion the plan is that of the walk alone, and with one it has a copy of each place
module _ (plan : Plan) (cells : List ℕ) where
  abbrev with_some : Option (Bor Expansion) → events.Plan
  with_some o = record (plain_plan plan cells) {
    cells = (with_copies o (sources_in plan) (plain_shape plan)).cells;
    written = (with_copies o (sources_in plan) (plain_shape plan)).written;
    read = (with_copies o (sources_in plan) (plain_shape plan)).read;
    initial = (with_copies o (sources_in plan) (plain_plan plan cells)).initial;
  }

  plain_by : (o : Option (Bor Expansion)) → is_some o ≡ false → with_some o ≡ plain_plan plan cells
  plain_by None none = refl
  plain_by (Some e) none = absurd cc

  copied_by : (o : Option (Bor Expansion)) → is_some o ≡ true
      → with_some o ≡ expanded (plain_plan plan cells) (sources_in plan)
  copied_by None some = absurd cc
  copied_by (Some e) some = refl

  pub plain_is : is_expanded plan ≡ false → walk_plan plan cells ≡ plain_plan plan cells
  plain_is none = plain_by plan.expansion none

  pub copied_is : is_expanded plan ≡ true → walk_plan plan cells ≡ expanded (plain_plan plan cells) (sources_in plan)
  copied_is some = copied_by plan.expansion some

-- what holds of a plan either way
pub by_copies : {A : Type 0} (plan : Plan) → (is_expanded plan ≡ false → A) → (is_expanded plan ≡ true → A) → A
by_copies {A} plan none some = by_truth (is_expanded plan) none some
  where
    by_truth : (b : Bool) → (b ≡ false → A) → (b ≡ true → A) → A
    by_truth false f g = f refl
    by_truth true f g = g refl

-- what an option owes where it is none, or where it is some
owed_none : {T : Type 0} (o : Option T) (P : Type 0) (Q : T → Type 0) → is_some o ≡ false → MatchOption o P Q → P
owed_none None P Q none h = h
owed_none (Some x) P Q none h = absurd cc

owed_some : {T : Type 0} (o : Option T) (P Q : Type 0) → is_some o ≡ true → MatchOption o P (λ x. Q) → Q
owed_some None P Q some h = absurd cc
owed_some (Some x) P Q some h = h

-- with an expansion no array is marked
pub unmarked_is : (plan : Plan) → IsPlan plan → is_expanded plan ≡ true → plan.marked.now ≡ []
unmarked_is plan is some = owed_some plan.expansion ⊤ (plan.marked.now ≡ []) some is.unmarked

-- the plan's functions are those of the walk
pub walk_over : (plan : Plan) (contents : List (List ℕ))
    → ((c : Cell) → IsCell (extents_in plan) c
    → get_or (flat contents) (cell_number (extents_in plan) c) 0 ≡ held (extents_in plan) contents c)
    → IsWalk (extents_in plan) contents plan.marked.now (walk_in plan) (plain_plan plan (flat contents))
walk_over plan contents initial = record {
  written = λ j. refl;
  read = λ j. refl;
  adds = adds_is (extents_in plan) plan.marked.now;
  value = λ j xs. refl;
  initial = initial;
}

walk_is : (plan : Plan) → IsWalk (extents_in plan) [] plan.marked.now (walk_in plan) (plain_shape plan)
walk_is plan = walk_over plan [] (λ c is. refl)

-- what the places of a plan read are cells, and with an expansion the sources of these reads are the plan's
module _ (laws : NumberLaws) (plan : Plan) (is : IsPlan plan) where
  pub reads_inside : (cells : List ℕ) (j c : ℕ) → j < length (walk_in plan) → In c ((plain_plan plan cells).read j)
      → c < (plain_plan plan cells).cells
  reads_inside cells =
      visit_read (extents_in plan) (walk_in plan) (laws.below (extents_in plan)) is.inside plan.marked.now

  pub copies_are : (cells : List ℕ) → is_expanded plan ≡ true → (j : ℕ) → j < length (walk_in plan)
      → AreSources (plain_plan plan cells) j ((plain_plan plan cells).read j) (sources_in plan j)
  copies_are cells some j less =
      subst (λ (ms : List ℕ). AreSources (plain_plan plan cells) j (read_by (extents_in plan) ms
      (slice_get (walk_in plan) j)) (sources_in plan j)) (sym (unmarked_is plan is some))
      (sources_are (extents_in plan) (walk_in plan) (plain_plan plan cells) (laws.apart (extents_in plan)) (λ j. refl)
      is.inside j less)

  pub stores : is_expanded plan ≡ true → (c : ℕ) → (plain_shape plan).adds c ≡ false
  stores some c = none_added (extents_in plan) plan.marked.now c (unmarked_is plan is some)

module _ (laws : PlanLaws) (plan : Plan) (is : IsPlan plan) where
  abbrev deal : Deal
  deal = deal_of plan

  -- the scan, cut into the tiles of the list
  pub list_cut : IsCut is.tiling (scan_in plan) deal.tiles deal.start deal.wave
  list_cut =
      let list = is.tiles in
      let tiles = plan.list.now.tiles.items in
      let tiling = is.tiling in
      let heads : (t : ℕ) (p : List Instance) → slice_get list.parts t ≡ Some p
      → (x : Instance) × (slice_get p 0 ≡ Some x) × (slice_get (firsts_of tiles) t ≡ Some x) =
      λ t p at.
      let n = list.count in
      let m = slice_get_within list.parts t p at in
      let tile = there_is tiles t (omega (arith, n, m)) in
      let part = get_or_from_slice_get list.parts t p [] at in (
        instance_of tile.0.first,
        subst (λ q. slice_get q 0 ≡ Some (instance_of tile.0.first)) part (list.tiles t tile.0 tile.1).first,
        slice_get-map (λ (x : Tile). instance_of x.first) tiles t
            ∙ ap (option_map (λ (x : Tile). instance_of x.first)) tile.1,
      ) in
      let many = length-map tiles (λ (x : Tile). x.wave) ∙ list.count in
      let cut = cut_is laws.tiles tiling (scan_in plan) (firsts_of tiles) list.parts
      (waves_of tiles) list.cut heads many
      list.waves in
      let sizes = sizes_agree tiles list.parts list.count (λ t tile at. (list.tiles t tile at).size) in
      subst (λ (n : ℕ). IsCut tiling (scan_in plan) n (start_at (sizes_of tiles)) deal.wave) (sym list.count)
      (subst (λ (ns : List ℕ). IsCut tiling (scan_in plan) (length list.parts) (start_at ns) deal.wave) (sym sizes) cut)

  pub once : StandOnce (program_in plan) plan.params.now
  once = laws.once (program_in plan) plan.params.now

  -- the tree visits as many instances as there are places
  pub count_is : length (scan_in plan) ≡ length (walk_in plan)
  count_is = as_many (program_in plan) plan.params.now is.tiling (scan_in plan) once is.order

  -- each place of the walk stands once in the scan
  pub scan_is : IsScan deal
  scan_is =
      let program = program_in plan in
      let params = plan.params.now in
      let tiling = is.tiling in
      let cut = list_cut in record {
        rank = rank_within program params tiling (scan_in plan) once is.order;
        at = place_within program params tiling (scan_in plan) once is.order;
        there = rank_back program params tiling (scan_in plan) once is.order;
        back = place_back program params tiling (scan_in plan) once is.order;
        first = cut.first;
        last = cut.last ∙ count_is;
        rises = cut.rises;
        by_wave = λ t l. cut.by_wave t (suc t) (omega arith) l;
      }

  plain_dealt : (cells : List ℕ) → IsDealt (plain_plan plan cells)
  plain_dealt cells =
      let p = plain_plan plan cells in
      laws.deals deal p.cells p.adds p.written p.read p.value p.initial scan_is
      (visit_written (extents_in plan) (walk_in plan) (laws.numbers.below (extents_in plan)) is.inside)
      (reads_inside laws.numbers plan is cells)

  pub dealt_is : (cells : List ℕ) → IsDealt (walk_plan plan cells)
  dealt_is cells = by_copies plan
      (λ none. subst (λ (q : events.Plan). IsDealt q) (sym (plain_is plan cells none)) (plain_dealt cells))
      (λ some. subst (λ (q : events.Plan). IsDealt q) (sym (copied_is plan cells some))
      (laws.copied_dealt (plain_plan plan cells) (sources_in plan) (stores laws.numbers plan is some) refl
      (plain_dealt cells) (copies_are laws.numbers plan is cells some)))

  -- a place whose rank lies in a tile stands there
  pub stands_in : (cells : List ℕ) (j t : ℕ) (x : Instance) → j < length (walk_in plan)
      → IsInTile (scan_in plan) deal.tiles deal.start t (deal.rank j) x
      → ((plain_plan plan cells).tile j ≡ t) × ((plain_plan plan cells).position j ≡ deal.rank j - deal.start t)
  stands_in cells j t x less a =
      let p = plain_plan plan cells in
      let d = plain_dealt cells in
      let from = a.from in
      let to = a.to in
      let k = deal.rank j - deal.start t in
      let there : p.place t k ≡ j =
      ap deal.at (let q : deal.start t + k ≡ deal.rank j = omega (arith, from) in q) ∙ scan_is.there j less in (
        sym (ap p.tile there) ∙ d.its_tile t k a.tile (omega (arith, from, to)),
        sym (ap p.position there) ∙ d.its_position t k a.tile (omega (arith, from, to)),
      )

  placed_by : (cells : List ℕ) (i j t u : ℕ) (x y : Instance) → i < length (walk_in plan) → j < length (walk_in plan)
      → IsInTile (scan_in plan) deal.tiles deal.start t (deal.rank i) x
      → IsInTile (scan_in plan) deal.tiles deal.start u (deal.rank j) y
      → ((t ≡ u) × (deal.rank i < deal.rank j)) ⊎ (deal.wave t < deal.wave u) → IsByWaves (plain_plan plan cells) i j
  placed_by cells i j t u x y l m a b (inl g) =
      let e = stands_in cells i t x l a in
      let f = stands_in cells j u y m b in
      let p = e.1 in
      let q = f.1 in
      let s = ap deal.start g.0 in
      let less = g.1 in
      let from = a.from in
      inl (e.0 ∙ (g.0 ∙ sym f.0), omega (arith, p, q, s, less, from))
  placed_by cells i j t u x y l m a b (inr g) =
      let e = stands_in cells i t x l a in
      let f = stands_in cells j u y m b in
      inr (subst (λ n. deal.wave n < deal.wave ((plain_plan plan cells).tile j)) (sym e.0)
      (subst (λ n. deal.wave t < deal.wave n) (sym f.0) g))

  -- places that are in the plan's order
  ordered_places : (cells : List ℕ) (i j : ℕ) → i < length (walk_in plan) → j < length (walk_in plan)
      → ((v w : Visit) → slice_get (walk_in plan) i ≡ Some v → slice_get (walk_in plan) j ≡ Some w
      → IsInOrder is.tiling i (instance v) j (instance w)) → IsByWaves (plain_plan plan cells) i j
  ordered_places cells i j early within order =
      let program = program_in plan in
      let params = plan.params.now in
      let tiling = is.tiling in
      let xs = scan_in plan in
      let v = instance_at program params tiling xs once is.order i early in
      let w = instance_at program params tiling xs once is.order j within in
      let x = instance v.0 in
      let y = instance w.0 in
      let a = list_cut.found (deal.rank i) x (rank_there program params tiling xs once is.order i x v.2) in
      let b = list_cut.found (deal.rank j) y (rank_there program params tiling xs once is.order j y w.2) in
      placed_by cells i j a.0 b.0 x y early within a.1 b.1
      (tiles_in_order program params tiling xs deal.tiles deal.start deal.wave i j (deal.rank i) (deal.rank j) a.0
      b.0 x y (walked_distinct program params once) is.order list_cut v.2 w.2 a.1 b.1 (order v.0 w.0 v.1 w.1))

  plain_good : (cells : List ℕ) → IsGoodFor (program_in plan) plan.params.now plan.marked.now is.tiling
      → GoodPlan (plain_plan plan cells)
  plain_good cells good = record {
    ordered = λ i j less within touch.
        let early : i < length (walk_in plan) = omega (arith, less, within) in
        let o = ordered_places cells i j early within (λ v w at_v at_w.
        let c = laws.touches (extents_in plan) [] plan.marked.now (walk_in plan) (plain_shape plan) (walk_is plan)
        is.marks is.inside i j v w at_v at_w touch in
        let conflict : PlacesConflict (walk_in plan) i j = record {
          earlier = v;
          later = w;
          first = c.0;
          second = c.1;
          order = less;
          is_earlier = at_v;
          is_later = at_w;
          conflict = c.2;
        } in
        good i j conflict c.3) in
        ([], ordered_by_waves (plain_plan plan cells) i j refl early o);
  }

  -- the sources of a place's reads come before it
  flow_is : (cells : List ℕ) → is_expanded plan ≡ true → IsFlowPlan (program_in plan) plan.params.now is.tiling
      → copies.IsFlowPlan (plain_plan plan cells) (sources_in plan)
  flow_is cells some flow = record {
    ordered = λ i j within source.
        let p = plain_plan plan cells in
        let less = source_before p p.cells i j (p.read j) (sources_in plan j)
        (copies_are laws.numbers plan is cells some j within) source in
        let r = source_last (walk_in plan) i j source in
        ordered_places cells i j (omega (arith, less, within)) within
        (λ v w at_v at_w. flow i j r.0 v w at_v at_w r.1);
  }

  pub good_is : (cells : List ℕ) → GoodPlan (walk_plan plan cells)
  good_is cells = by_copies plan
      (λ none. subst (λ (q : events.Plan). GoodPlan q) (sym (plain_is plan cells none))
      (plain_good cells (owed_none plan.expansion (IsGoodFor (program_in plan) plan.params.now plan.marked.now is.tiling)
      (λ e. IsFlowPlan (program_in plan) plan.params.now is.tiling) none is.good)))
      (λ some. subst (λ (q : events.Plan). GoodPlan q) (sym (copied_is plan cells some))
      (laws.copied_good (plain_plan plan cells) (sources_in plan) (stores laws.numbers plan is some) refl
      (plain_dealt cells) (copies_are laws.numbers plan is cells some) (flow_is cells some
      (owed_some plan.expansion (IsGoodFor (program_in plan) plan.params.now plan.marked.now is.tiling)
      (IsFlowPlan (program_in plan) plan.params.now is.tiling) some is.good))))
