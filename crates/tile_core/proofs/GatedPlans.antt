-- A plan whose tiles are released one by one: its pairs are those of the walk's covers, or of its sources where it has
-- an expansion (`pairs_are`), it is dealt and good, and what is in conflict, or a source, touches (`touch_from`,
-- `touch_read`).
use Rattle.scop_syntax.proofs.Common.{◌≡◌, ◌∙◌, ℕ, zero, suc, ◌<◌, false, true, List, [], length, map, inl, inr, Bool}
use Rattle.scop_syntax.proofs.Common.{Option, Some, None, Bor, ap, refl, subst, sym, arith, ⊤, MatchOption, slice_get}
use Rattle.scop_syntax.proofs.Common.{Conflict, PlacesConflict, cell_of, reads, AreInside, cell_number, In, Access}
use Rattle.scop_syntax.proofs.Common.{Visit, instance, in_from_place, in_map, there_is, Cover, last_of}
use Rattle.scop_syntax.specs.Cells.{OneWrites}
use Rattle.loop_tree.specs.View.{trees_in}
use Rattle.tile_events.specs.Covers.{ArePairsOf, Covers}
use Rattle.tile_events.specs.Flat.{IsWalk, read_by, written_by}
use Rattle.tile_events.specs.Plan as events
use Rattle.tile_events.specs.Plan.{GoodPlan, IsDealt, Touch, before, values_read, waves, words_of}
use Rattle.tile_events.specs.Releases.{AreCovered, AreEdges, Edges, released}
use Rattle.tile_edges.specs.Edges.{AreEdgesOf, IsTileOf, edges_of}
use Rattle.tile_edges.specs.Waiting.{WaitsFor}
use Rattle.tile_edges.specs.declared.waiting.TileEdges.{TileEdges}
use Rattle.tile_edges.proofs.FindingTiles.{one_tile}
use Rattle.tile_core.specs.Plans.{IsPlan, extents_in, gated, is_expanded, plain_plan, plain_shape, plan_of, program_in}
use Rattle.tile_core.specs.Plans.{sources_in, walk_in, walk_plan, walk_shape}
use Rattle.tile_core.specs.declared.plan.Plan.{Plan}
use Rattle.tile_core.proofs.Copies.{cover_source, last_source, source_before, source_cover, source_last}
use Rattle.tile_core.proofs.Copies.{source_within, touch_source}
use Rattle.tile_core.proofs.Gates.{plan_is}
use Rattle.tile_core.proofs.Marks.{none_added}
use Rattle.tile_core.proofs.Plans.{NumberLaws, by_copies, copied_is, copies_are, plain_is, reads_inside, walk_over}

-- the laws that make a plan with pairs a good one
pub record GateLaws : Type 0 where
  pub numbers : NumberLaws
  pub held : (plan : Plan) (is : IsPlan plan) (j : ℕ) (v : Visit) → slice_get (walk_in plan) j ≡ Some v
      → IsTileOf is.tiling plan.list.now ((walk_shape plan).tile j) (instance v)
  pub dealt : (plan : Plan) (cells : List ℕ) → IsPlan plan → IsDealt (walk_plan plan cells)
  pub good : (plan : Plan) (cells : List ℕ) → IsPlan plan → GoodPlan (walk_plan plan cells)
  pub covers : (extents contents : List (List ℕ)) (visits : List Visit) (p : events.Plan)
      → IsWalk extents contents [] visits p → AreInside extents visits → p.places ≡ length visits → (i j : ℕ)
      → (Covers p i j → Cover visits i j) × (Cover visits i j → Covers p i j)
  pub covered : (p : events.Plan) (e : Edges) → ((c : ℕ) → p.adds c ≡ false) → p.gate ≡ waves → GoodPlan p
      → ArePairsOf p e → AreCovered p e
  pub deals : (p : events.Plan) (e : Edges) → IsDealt p → AreEdges p.tiles e → IsDealt (released p e)
  pub orders : (p : events.Plan) (e : Edges) → IsDealt p → AreEdges p.tiles e → AreCovered p e
      → GoodPlan (released p e)

-- a place that reads what another wrote last, by the walk and by the plan
module _ (laws : NumberLaws) (plan : Plan) (is : IsPlan plan) (cells : List ℕ) (some : is_expanded plan ≡ true)
    (i j r : ℕ) (last : last_of (walk_in plan) j (suc r) ≡ Some i) where
  abbrev within : j < length (walk_in plan)
  within = source_within (walk_in plan) j (Some i) (last_source (walk_in plan) i j r last)

  read_cover : Covers (walk_plan plan cells) i j
  read_cover =
      subst (λ (q : events.Plan). Covers q i j) (sym (copied_is plan cells some))
      (cover_source (plain_plan plan cells) (sources_in plan) (reads_inside laws plan is cells)
      (copies_are laws plan is cells some) i j within (last_source (walk_in plan) i j r last))

  pub read_before : i < j
  read_before =
      let p = plain_plan plan cells in
      source_before p p.cells i j (p.read j) (sources_in plan j) (copies_are laws plan is cells some j within)
      (last_source (walk_in plan) i j r last)

  pub touch_read : Touch (walk_plan plan cells) i j
  touch_read =
      subst (λ (q : events.Plan). Touch q i j) (sym (copied_is plan cells some))
      (touch_source (plain_plan plan cells) (sources_in plan) (reads_inside laws plan is cells)
      (copies_are laws plan is cells some) i j within (last_source (walk_in plan) i j r last))

-- the pairs are those of the places that wait for one another
module _ (laws : GateLaws) (plan : Plan) (is : IsPlan plan) (cells : List ℕ) (e : TileEdges)
    (are : AreEdgesOf (is_expanded plan) (program_in plan) plan.params.now is.tiling plan.list.now e)
    (none : plan.marked.now ≡ []) where
  abbrev p : events.Plan
  p = walk_plan plan cells

  abbrev pairs : Edges
  pairs = edges_of e

  both : (i j : ℕ) → (Covers (plain_shape plan) i j → Cover (walk_in plan) i j)
      × (Cover (walk_in plan) i j → Covers (plain_shape plan) i j)
  both i j =
      laws.covers (extents_in plan) [] (walk_in plan) (plain_shape plan)
      (subst (λ (ms : List ℕ). IsWalk (extents_in plan) [] ms (walk_in plan) (plain_shape plan)) none
      (walk_over plan [] (λ c is. refl))) is.inside refl i j

  cover_plain : (i j : ℕ) → Covers (plain_plan plan cells) i j → Cover (walk_in plan) i j
  cover_plain i j c = (both i j).0
      (record { before = c.before; within = c.within; cell = c.cell; free = c.free; meet = c.meet })

  plain_cover : (i j : ℕ) → Cover (walk_in plan) i j → Covers (plain_plan plan cells) i j
  plain_cover i j h = let c = (both i j).1 h in
      record { before = c.before; within = c.within; cell = c.cell; free = c.free; meet = c.meet }

  to_walk : (i j : ℕ) → Covers p i j → WaitsFor (is_expanded plan) (walk_in plan) i j
  to_walk i j c = by_copies plan
      (λ unexpanded. subst (λ b. WaitsFor b (walk_in plan) i j) (sym unexpanded)
      (cover_plain i j (subst (λ (q : events.Plan). Covers q i j) (plain_is plan cells unexpanded) c)))
      (λ some. subst (λ b. WaitsFor b (walk_in plan) i j) (sym some) (source_last (walk_in plan) i j
      (source_cover (plain_plan plan cells) (sources_in plan) (reads_inside laws.numbers plan is cells)
      (copies_are laws.numbers plan is cells some) i j c.within
      (subst (λ (q : events.Plan). Covers q i j) (copied_is plan cells some) c))))

  from_walk : (i j : ℕ) → WaitsFor (is_expanded plan) (walk_in plan) i j → Covers p i j
  from_walk i j h = by_copies plan
      (λ unexpanded. subst (λ (q : events.Plan). Covers q i j) (sym (plain_is plan cells unexpanded))
      (plain_cover i j (subst (λ b. WaitsFor b (walk_in plan) i j) unexpanded h)))
      (λ some. let f = subst (λ b. WaitsFor b (walk_in plan) i j) some h in
      read_cover laws.numbers plan is cells some i j f.0 f.1)

  -- the tile that holds a place is its tile
  its_tile : (t j : ℕ) (v : Visit) → slice_get (walk_in plan) j ≡ Some v
      → IsTileOf is.tiling plan.list.now t (instance v) → p.tile j ≡ t
  its_tile t j v at holds =
      one_tile (trees_in plan.tree.now) plan.params.now is.tiling plan.list.now is.tiles (p.tile j) t (instance v)
      (laws.held plan is j v at) holds

  pub pairs_are : ArePairsOf p pairs
  pairs_are = record {
    apart = λ t u l. ((are.pairs t u).0 l).apart;
    covers = λ t u l.
        let w = (are.pairs t u).0 l in (
          w.earlier,
          w.later,
          its_tile t w.earlier w.first.visit w.first.is w.first.tile,
          its_tile u w.later w.second.visit w.second.is w.second.tile,
          from_walk w.earlier w.later w.cover,
        );
    all = λ i j c ne.
        let before = c.before in
        let within = c.within in
        let v = there_is (walk_in plan) i (omega (arith, before, within)) in
        let w = there_is (walk_in plan) j within in
        (are.pairs (p.tile i) (p.tile j)).1 (record {
          apart = ne;
          earlier = i;
          later = j;
          cover = to_walk i j c;
          first = record { visit = v.0; is = v.1; tile = laws.held plan is i v.0 v.1 };
          second = record { visit = w.0; is = w.1; tile = laws.held plan is j w.0 w.1 };
        });
  }

  pub covered_is : AreCovered p pairs
  covered_is = laws.covered p pairs (λ c. none_added (extents_in plan) plan.marked.now c none) refl
      (laws.good plan cells is) pairs_are

  pub released_dealt : IsDealt (released p pairs)
  released_dealt = laws.deals p pairs (laws.dealt plan cells is) are.rows

  pub released_good : GoodPlan (released p pairs)
  released_good = laws.orders p pairs (laws.dealt plan cells is) are.rows covered_is

-- so with either gate
module _ (laws : GateLaws) (plan : Plan) (is : IsPlan plan) (cells : List ℕ) where
  abbrev Are : TileEdges → Type 0
  Are e = AreEdgesOf (is_expanded plan) (program_in plan) plan.params.now is.tiling plan.list.now e

  abbrev Alone : Option (Bor TileEdges) → Type 0
  Alone o = MatchOption o ⊤ (λ e. plan.marked.now ≡ [])

  dealt_by : (o : Option (Bor TileEdges)) → MatchOption o ⊤ (λ e. Are e.now) → Alone o
      → IsDealt (gated o (walk_plan plan cells))
  dealt_by None are alone = laws.dealt plan cells is
  dealt_by (Some e) are alone = released_dealt laws plan is cells e.now are alone

  good_by : (o : Option (Bor TileEdges)) → MatchOption o ⊤ (λ e. Are e.now) → Alone o
      → GoodPlan (gated o (walk_plan plan cells))
  good_by None are alone = laws.good plan cells is
  good_by (Some e) are alone = released_good laws plan is cells e.now are alone

  pub gated_dealt : IsDealt (plan_of plan cells)
  gated_dealt = subst (λ q. IsDealt q) (sym (plan_is plan cells)) (dealt_by plan.edges is.edges is.alone)

  pub gated_good : GoodPlan (plan_of plan cells)
  gated_good = subst (λ q. GoodPlan q) (sym (plan_is plan cells)) (good_by plan.edges is.edges is.alone)

-- visits in conflict touch one cell
module _ (plan : Plan) (cells : List ℕ) (i j : ℕ) (v w : Visit) (at_i : slice_get (walk_in plan) i ≡ Some v)
    (at_j : slice_get (walk_in plan) j ≡ Some w) (none : plan.marked.now ≡ []) where
  abbrev touched : Access → Visit → ℕ
  touched a x = cell_number (extents_in plan) (cell_of a x.point)

  wrote : (k : ℕ) (x : Visit) → slice_get (walk_in plan) k ≡ Some x
      → (plain_shape plan).written k ≡ touched x.body.place x
  wrote k x at = ap (written_by (extents_in plan)) at

  reads_it : (k r : ℕ) (x : Visit) (a : Access) → slice_get (walk_in plan) k ≡ Some x
      → slice_get (reads x.body) r ≡ Some a → In (touched a x) ((plain_shape plan).read k)
  reads_it k r x a at there =
      subst (λ (ms : List ℕ). In (touched a x) (read_by (extents_in plan) ms (slice_get (walk_in plan) k))) (sym none)
      (subst (λ o. In (touched a x) (read_by (extents_in plan) [] o)) (sym at)
      (in_map (cell_number (extents_in plan)) (cell_of a x.point) (map (λ b. cell_of b x.point) (reads x.body))
      (in_map (λ b. cell_of b x.point) a (reads x.body) (in_from_place (reads x.body) r a there))))

  touch_of : (a b : ℕ) → Conflict v a w b → Touch (plain_plan plan cells) i j
  touch_of zero zero c =
      inl (
        wrote i v at_i
            ∙ (ap (λ a. touched a v) (first_is_place c.is_first)
            ∙ (ap (cell_number (extents_in plan)) c.cell
            ∙ (ap (λ a. touched a w) (sym (second_is_place c.is_second)) ∙ sym (wrote j w at_j)))),
        none_added (extents_in plan) plan.marked.now ((plain_shape plan).written i) none,
      )
    where
      first_is_place : Some v.body.place ≡ Some c.first → v.body.place ≡ c.first
      first_is_place e = cc

      second_is_place : Some w.body.place ≡ Some c.second → w.body.place ≡ c.second
      second_is_place e = cc
  touch_of zero (suc r) c =
      inr (inl (subst (λ n. In n ((plain_shape plan).read j))
      (sym (wrote i v at_i ∙ (ap (λ a. touched a v) (place_is c.is_first) ∙ ap (cell_number (extents_in plan)) c.cell)))
      (reads_it j r w c.second at_j c.is_second)))
    where
      place_is : Some v.body.place ≡ Some c.first → v.body.place ≡ c.first
      place_is e = cc
  touch_of (suc r) zero c =
      inr (inr (subst (λ n. In n ((plain_shape plan).read i))
      (sym (wrote j w at_j
      ∙ (ap (λ a. touched a w) (place_is c.is_second) ∙ sym (ap (cell_number (extents_in plan)) c.cell))))
      (reads_it i r v c.first at_i c.is_first)))
    where
      place_is : Some w.body.place ≡ Some c.second → w.body.place ≡ c.second
      place_is e = cc
  touch_of (suc r) (suc s) c = absurd (neither c.writes)
    where
      neither : OneWrites (suc r) (suc s) → ⊥
      neither (inl e) = absurd (omega (arith, e))
      neither (inr e) = absurd (omega (arith, e))

pub touch_from : (plan : Plan) (cells : List ℕ) (i j : ℕ) → is_expanded plan ≡ false → plan.marked.now ≡ []
    → PlacesConflict (walk_in plan) i j → Touch (walk_plan plan cells) i j
touch_from plan cells i j unexpanded none c =
    subst (λ (q : events.Plan). Touch q i j) (sym (plain_is plan cells unexpanded))
    (touch_of plan cells i j c.earlier c.later c.is_earlier c.is_later none c.first c.second c.conflict)

-- a plan with releases executes what the walk does
pub record SameLaws : Type 0 where
  pub reads : (p : events.Plan) (e : Edges) → IsDealt p → AreEdges p.tiles e → (k : ℕ) → k < p.places
      → values_read (released p e) k ≡ values_read p k
  pub end : (p : events.Plan) (e : Edges) → IsDealt p → AreEdges p.tiles e → (c : ℕ) → c < p.cells
      → before (released p e) (released p e).places c ≡ before p p.places c
  pub words : (p : events.Plan) (e : Edges) → IsDealt p → AreEdges p.tiles e → (done : ℕ → Bool) (c : ℕ) → c < p.cells
      → words_of (released p e) done (released p e).places c ≡ words_of p done p.places c

module _ (same : SameLaws) (plan : Plan) (is : IsPlan plan) (cells : List ℕ) (dealt : IsDealt (walk_plan plan cells))
  where
    abbrev alone : events.Plan
    alone = walk_plan plan cells

    abbrev AreRows : Option (Bor TileEdges) → Type 0
    AreRows o = MatchOption o ⊤
        (λ e. AreEdgesOf (is_expanded plan) (program_in plan) plan.params.now is.tiling plan.list.now e.now)

    reads_by : (o : Option (Bor TileEdges)) → AreRows o → (k : ℕ) → k < alone.places
        → values_read (gated o alone) k ≡ values_read alone k
    reads_by None are k l = refl
    reads_by (Some e) are k l = same.reads alone (edges_of e.now) dealt are.rows k l

    end_by : (o : Option (Bor TileEdges)) → AreRows o → (c : ℕ) → c < alone.cells
        → before (gated o alone) (gated o alone).places c ≡ before alone alone.places c
    end_by None are c l = refl
    end_by (Some e) are c l = same.end alone (edges_of e.now) dealt are.rows c l

    words_by : (o : Option (Bor TileEdges)) → AreRows o → (done : ℕ → Bool) (c : ℕ) → c < alone.cells
        → words_of (gated o alone) done (gated o alone).places c ≡ words_of alone done alone.places c
    words_by None are done c l = refl
    words_by (Some e) are done c l = same.words alone (edges_of e.now) dealt are.rows done c l

    pub gated_reads : (k : ℕ) → k < alone.places → values_read (plan_of plan cells) k ≡ values_read alone k
    gated_reads k l = ap (λ (q : events.Plan). values_read q k) (plan_is plan cells) ∙ reads_by plan.edges is.edges k l

    pub gated_end : (c : ℕ) → c < alone.cells
        → before (plan_of plan cells) (plan_of plan cells).places c ≡ before alone alone.places c
    gated_end c l = ap (λ (q : events.Plan). before q q.places c) (plan_is plan cells) ∙ end_by plan.edges is.edges c l

    pub gated_words : (done : ℕ → Bool) (c : ℕ) → c < alone.cells
        → words_of (plan_of plan cells) done (plan_of plan cells).places c ≡ words_of alone done alone.places c
    gated_words done c l =
        ap (λ (q : events.Plan). words_of q done q.places c) (plan_is plan cells) ∙ words_by plan.edges is.edges done c l
