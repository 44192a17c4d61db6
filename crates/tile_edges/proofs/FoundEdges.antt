-- The pairs that a pass has found are those of places that wait for one another.
use Rattle.scop_syntax.proofs.Common.{◌≡◌, ◌<◌, ◌≤◌, ◌+◌, ℕ, zero, suc, ℤ, Bool, true, false, List, [], ◌∷◌, Some, ap}
use Rattle.scop_syntax.proofs.Common.{ap₂, sym, refl, ◌∙◌, subst, arith, length, get_or, ⊎_elim, inl, inr, slice_get}
use Rattle.scop_syntax.proofs.Common.{length-map, slice_get_within, AreInside, IsInside, layout, WithinLimits, In}
use Rattle.scop_syntax.proofs.Common.{Cover, Program, Instance, Visit, instance, walk_of}
use Rattle.loop_tree.specs.Plans.{AreInOrder, walked}
use Rattle.loop_tree.specs.Tiling.{Tiling, kept, tiled}
use Rattle.loop_tree.specs.Tree.{Trees}
use Rattle.loop_tree.specs.Walk.{visits}
use Rattle.tile_table.specs.Tables.{IsTableOf}
use Rattle.tile_table.specs.declared.table.Table.{Table}
use Rattle.tile_list.specs.Tiles.{CanTile}
use Rattle.tile_list.specs.TilesView.{IsTileListOf}
use Rattle.tile_list.specs.declared.list.TileList.{TileList}
use Rattle.tile_events.specs.Covers.{Covers}
use Rattle.tile_events.specs.Deal.{tile_at}
use Rattle.tile_events.specs.Flat.{IsWalk}
use Rattle.tile_events.specs.Plan.{Plan}
use Rattle.tile_events.specs.Releases.{AreEdges, Edges}
use Rattle.tile_events.proofs.Flat.{AreApart}
use Rattle.tile_edges.specs.Edges.{AreEdgesOf, AreTooMany, Holds, IsTileOf, LeadsOf, Waits, edges_of}
use Rattle.tile_edges.specs.declared.waiting.TileEdges.{TileEdges}
use Rattle.tile_edges.specs.declared.pairing.Pairs.{Pairs}
use Rattle.tile_edges.specs.Waiting.{WaitsFor}
use Rattle.tile_edges.specs.steps.Passing.{sources_at}
use Rattle.tile_edges.specs.steps.Rows.{AreRowsOf, joined, rows_in}
use Rattle.tile_edges.specs.steps.Walks.{AreFound, CanPass, touched}
use Rattle.tile_edges.proofs.FindingTiles.{first_visited, has_tile_of, one_tile, tiles_rise}
use Rattle.tile_edges.proofs.LastWriters.{met_writes, writes_met}
use Rattle.tile_edges.proofs.Passing.{covers_found, found_covers}
use Rattle.tile_edges.proofs.RowEdges.{edges_are, edges_by, in_leads, in_within, joined_in, leads_in, many_starts}

-- the law of covers
abbrev pub AreWalkCovers : Type 0
AreWalkCovers = (extents contents : List (List ℕ)) (visits : List Visit) (p : Plan)
    → IsWalk extents contents [] visits p → AreInside extents visits → p.places ≡ length visits → (i j : ℕ)
    → (Covers p i j → Cover visits i j) × (Cover visits i j → Covers p i j)

-- the law that no two pairs are the same
abbrev pub AreOnce : Type 0
AreOnce = (n : ℕ) (e : Edges) → AreEdges n e → (i j : ℕ) → i < e.count → j < e.count
    → tile_at e.start n i ≡ tile_at e.start n j → e.target i ≡ e.target j → i ≡ j

-- an instance of the walk is visited
pub in_scan : (program : Program) (params : List ℤ) (tiling : Tiling) (xs : List Instance) → AreInOrder program params tiling xs
    → (x : Instance) → In x (walked program params) → In x xs
in_scan program params kept xs order x i = subst (λ ys. In x ys) (sym order) i
in_scan program params (tiled size statements) xs order x i = (order.1 x).1 i

-- numbers through a function, from one on
pub listing : (ℕ → ℕ × ℕ) → ℕ → ℕ → List (ℕ × ℕ)
listing f a zero = []
listing f a (suc k) = f a ∷ listing f (suc a) k

pub listed_many : (f : ℕ → ℕ × ℕ) (a k : ℕ) → length (listing f a k) ≡ k
unfolding listing
listed_many f a zero = refl
listed_many f a (suc k) = ap suc (listed_many f (suc a) k)

listed_at : (f : ℕ → ℕ × ℕ) (a k i : ℕ) (x : ℕ × ℕ) → slice_get (listing f a k) i ≡ Some x → (i < k) × (x ≡ f (a + i))
unfolding listing
listed_at f a zero i x e = absurd cc
listed_at f a (suc k) zero x e =
    let same : a + 0 ≡ a = omega arith in
    let this : x ≡ f a = cc in (omega arith, this ∙ ap f (sym same))
listed_at f a (suc k) (suc i) x e =
    let r = listed_at f (suc a) k i x e in
    let less = r.0 in
    let same : suc a + i ≡ a + suc i = omega arith in (omega (arith, less), r.1 ∙ ap f same)

pub listed_first : (f : ℕ → ℕ × ℕ) (k i : ℕ) (x : ℕ × ℕ) → slice_get (listing f 0 k) i ≡ Some x → (i < k) × (x ≡ f i)
listed_first f k i x e =
    let r = listed_at f 0 k i x e in
    let same : 0 + i ≡ i = omega arith in (r.0, r.1 ∙ ap f same)

pub listed_in : (f : ℕ → ℕ × ℕ) (a k : ℕ) (x : ℕ × ℕ) → In x (listing f a k) → (i : ℕ) × (i < a + k) × (x ≡ f i)
unfolding listing
listed_in f a zero x i = absurd i
listed_in f a (suc k) x (inl e) = (a, omega arith, e)
listed_in f a (suc k) x (inr i) =
    let r = listed_in f (suc a) k x i in
    let less = r.1 in (r.0, omega (arith, less), r.2)

in_listing : (f : ℕ → ℕ × ℕ) (a k i : ℕ) → i < k → In (f (a + i)) (listing f a k)
unfolding listing
in_listing f a zero i less = absurd (omega (arith, less))
in_listing f a (suc k) zero less = let same : a + 0 ≡ a = omega arith in inl (ap f same)
in_listing f a (suc k) (suc i) less =
    let same : suc a + i ≡ a + suc i = omega arith in
    inr (subst (λ n. In (f n) (listing f (suc a) k)) same (in_listing f (suc a) k i (omega (arith, less))))

pub in_listed : (f : ℕ → ℕ × ℕ) (k i : ℕ) → i < k → In (f i) (listing f 0 k)
in_listed f k i less =
    let same : 0 + i ≡ i = omega arith in
    subst (λ n. In (f n) (listing f 0 k)) same (in_listing f 0 k i less)

module _ (law : AreWalkCovers) (own : (extents : List (List ℕ)) → AreApart extents) (once : AreOnce) (flow : Bool)
    (program : Program) (params : List ℤ) (ts : Trees) (tiling : Tiling) (list : TileList)
    (limits : WithinLimits program params) (inside : IsInside program params)
    (is : IsTileListOf ts params tiling list) where
  abbrev walk : List Visit
  walk = walk_of program params

  abbrev p : Plan
  p = touched program params

  both : (i j : ℕ) → (Covers p i j → Cover walk i j) × (Cover walk i j → Covers p i j)
  both i j =
      law (layout program params) [] walk p
      (record { written = λ j. refl; read = λ j. refl; adds = λ c cell. refl; value = λ j xs. refl; initial = λ c cell. refl })
      inside refl i j

  -- what is met at a place is what it waits for
  met_waits : (flow : Bool) (i j : ℕ) → j < p.places → In i (sources_at flow p j) → WaitsFor flow walk i j
  met_waits true i j less h = met_writes own program params inside i j less h
  met_waits false i j less h = (both i j).0 (found_covers p j i less h)

  waits_met : (flow : Bool) (i j : ℕ) → WaitsFor flow walk i j → (j < p.places) × In i (sources_at flow p j)
  waits_met true i j w = writes_met own program params inside i j w.0 w.1
  waits_met false i j w = let c = (both i j).1 w in (c.within, covers_found p j i c)

  -- a place is held by one tile
  one_holds : (t u i : ℕ) → Holds walk tiling list t i → Holds walk tiling list u i → t ≡ u
  one_holds t u i h k =
      let both_are : Some h.visit ≡ Some k.visit = sym h.is ∙ k.is in
      let same : h.visit ≡ k.visit = cc in
      one_tile ts params tiling list is t u (instance h.visit) h.tile
      (subst (λ v. IsTileOf tiling list u (instance v)) (sym same) k.tile)

  module _ (most : ℕ) (pairs : Pairs) (found : AreFound flow program params tiling list most pairs) where
    abbrev rows : List (List ℕ)
    rows = rows_in pairs

    many : length rows ≡ length list.tiles.items
    many = length-map pairs.rows.items (λ s. s.keys) ∙ found.long

    -- what is in a row waits
    waits : (t u : ℕ) → In u (get_or rows t []) → Waits flow program params tiling list t u
    waits t u i =
        let s = found.pairs.sound t u i in
        let less = s.1.2 in
        let within = found.within in
        record {
          apart = s.0;
          earlier = s.1.0;
          later = s.1.1;
          cover = met_waits flow s.1.0 s.1.1 (omega (arith, less, within)) s.1.3;
          first = s.1.4;
          second = s.1.5;
        }

    -- all targets are tiles
    pub below : (u : ℕ) → In u (joined rows) → u < length rows
    below u i =
        let r = joined_in rows u i in
        let w = waits r.0 u r.1 in
        let less = slice_get_within list.tiles.items u w.second.tile.tile w.second.tile.is in
        let count = many in
        omega (arith, less, count)

    -- all that wait are in rows, where all places were passed
    all_wait : found.done ≡ length walk → (t u : ℕ) → Waits flow program params tiling list t u
        → In u (get_or rows t [])
    all_wait all t u w =
        let m = waits_met flow w.earlier w.later w.cover in
        let less = m.0 in
        let r = found.pairs.complete w.earlier w.later (omega (arith, less, all)) m.1 in
        let first = one_holds r.0 t w.earlier r.2 w.first in
        let second = one_holds r.1 u w.later r.3 w.second in
        ⊎_elim (λ e. absurd (w.apart (sym first ∙ (e ∙ second))))
        (λ i. subst (λ v. In u (get_or rows v [])) first (subst (λ v. In v (get_or rows r.0 [])) second i)) r.4

    module _ (e : TileEdges) (are : AreRowsOf rows e) where
      same : edges_by rows ≡ edges_of e
      same =
          ap₂ (λ (starts targets : List ℕ). record {
            count = length targets;
            start = λ t. get_or starts t 0;
            target = λ i. get_or targets i 0;
          }) (sym are.starts) (sym are.targets)

      edged : AreEdges (length list.tiles.items) (edges_of e)
      edged =
          subst (λ n. AreEdges n (edges_of e)) many
          (subst (AreEdges (length rows)) same (edges_are rows found.rises below))

      leads : (t u : ℕ) → LeadsOf (length list.tiles.items) (edges_of e) t u → In u (get_or rows t [])
      leads t u l =
          leads_in rows t u
          (subst (λ x. LeadsOf (length rows) x t u) (sym same)
          (subst (λ n. LeadsOf n (edges_of e) t u) (sym many) l))

      pub are_edges : found.done ≡ length walk → AreEdgesOf flow program params tiling list e
      are_edges all = record {
        rows = edged;
        starts = ap length are.starts ∙ (many_starts 0 rows ∙ ap suc many);
        pairs = λ t u. (
          λ l. waits t u (leads t u l),
          λ w. let i = all_wait all t u w in
              subst (λ n. LeadsOf n (edges_of e) t u) many
              (subst (λ x. LeadsOf (length rows) x t u) same (in_leads rows t u (in_within rows t u i) i)),
        );
        counted = are.counted ∙ many;
        needs = λ u less. let count = many in are.needs u (omega (arith, less, count));
      }

      pub edges_found : length e.targets.items ≤ 4194304 → most ≡ 4194304 → AreEdgesOf flow program params tiling list e
      edges_found few is =
          let count = found.count in
          let same = ap length are.targets in
          are_edges (found.all (omega (arith, few, is, count, same)))

      -- more pairs than there may be
      pub too_many : 4194304 < length e.targets.items → AreTooMany flow program params tiling list
      too_many more = record {
        found = listing pair 0 4194305;
        count = listed_many pair 0 4194305;
        apart = λ i j x hi hj.
            let a = listed_first pair 4194305 i x hi in
            let b = listed_first pair 4194305 j x hj in
            let less = a.0 in
            let below = b.0 in
            once (length list.tiles.items) (edges_of e) edged i j (omega (arith, less, more)) (omega (arith, below, more))
            (ap (λ (y : ℕ × ℕ). y.0) (sym a.1 ∙ b.1)) (ap (λ (y : ℕ × ℕ). y.1) (sym a.1 ∙ b.1));
        each = λ t u i.
            let r = listed_in pair 0 4194305 (t, u) i in
            let less = r.1 in
            waits t u (leads t u (
              r.0,
              omega (arith, less, more),
              ap (λ (y : ℕ × ℕ). y.0) (sym r.2),
              ap (λ (y : ℕ × ℕ). y.1) (sym r.2),
            ));
      }
        where
          pair : ℕ → ℕ × ℕ
          pair i = (tile_at (edges_of e).start (length list.tiles.items) i, (edges_of e).target i)

-- a plan's kernel, table and tiles can be passed
pub can_pass : (program : Program) (params : List ℤ) (ts : Trees) (tiling : Tiling) (list : TileList) (table : Table)
    → WithinLimits program params → IsInside program params → IsTableOf program params table
    → AreInOrder program params tiling (visits ts params) → CanTile tiling (visits ts params)
    → IsTileListOf ts params tiling list → CanPass program params tiling list table
can_pass program params ts tiling list table limits inside told order fits is = record {
  limits = limits;
  inside = inside;
  told = told;
  fits = λ x i. fits.rows x (in_scan program params tiling (visits ts params) order x i);
  firsts = λ t tile at. fits.rows _ (first_visited ts params tiling list is t tile at);
  rise = tiles_rise ts params tiling list is;
  there = λ x i. has_tile_of ts params tiling list is x (in_scan program params tiling (visits ts params) order x i);
}
