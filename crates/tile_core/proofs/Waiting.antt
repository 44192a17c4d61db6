-- What holds between two events of a run whose tiles are released one by one, from the laws of such plans.
use Rattle.scop_syntax.proofs.Common.{◌≡◌, ◌⊎◌, ℕ, suc, ◌+◌, ◌<◌, ◌≤◌, false, true, List, [], length, get_or, Some, Bor}
use Rattle.scop_syntax.proofs.Common.{refl, subst, arith, slice_get_within, PlacesConflict, last_of, nat_cases}
use Rattle.tile_events.specs.Core.{State, needed_by, seen_by}
use Rattle.tile_events.specs.Covers.{ArePairsOf}
use Rattle.tile_events.specs.Plan as events
use Rattle.tile_events.specs.Plan.{GoodPlan, IsDealt, Touch, waves}
use Rattle.tile_events.specs.Releases.{AreCovered, AreEdges, Edges, IsDone, Leads, Released, pairs_to, released}
use Rattle.tile_events.specs.Sound.{IsBegun, IsFinished, Sound}
use Rattle.tile_edges.specs.Edges.{edges_of}
use Rattle.tile_edges.specs.declared.waiting.TileEdges.{TileEdges}
use Rattle.tile_core.specs.Plans.{IsPlan, extents_in, is_expanded, plan_of, shape_of, walk_in, walk_plan, walk_shape}
use Rattle.tile_core.specs.declared.plan.Plan.{Plan}
use Rattle.tile_core.proofs.Copies.{last_source, source_within}
use Rattle.tile_core.proofs.GatedPlans.{GateLaws, covered_is, pairs_are, read_before, touch_from, touch_read}
use Rattle.tile_core.proofs.Gates.{by_edges, tiles_are}
use Rattle.tile_core.proofs.Marks.{none_added, none_with}
use Rattle.tile_core.proofs.Successors.{edges_are, needs_with, seen_with}

-- the laws of plans with releases
pub record WaitLaws : Type 0 where
  pub gate : GateLaws
  pub rises : (p : events.Plan) (e : Edges) → ((c : ℕ) → p.adds c ≡ false) → p.gate ≡ waves → GoodPlan p
      → ArePairsOf p e → (t u : ℕ) → Leads p e t u → p.wave t < p.wave u
  pub tells : (p : events.Plan) (e : Edges) (s : State) → IsDealt p → AreEdges p.tiles e
      → e.count < 18446744073709551616 → Sound (released p e) s → Released p e s
  pub ends : (p : events.Plan) (e : Edges) (s : State) (i j : ℕ) → IsDealt p → AreEdges p.tiles e
      → AreCovered p e → Sound (released p e) s → i < j → j < p.places → Touch p i j → IsBegun s (p.tile j)
      → (p.tile i ≡ p.tile j) ⊎ IsDone p e s (p.tile i)
  pub fills : (p : events.Plan) (e : Edges) (s : State) (u : ℕ) → IsDealt p → AreEdges p.tiles e
      → e.count < 18446744073709551616 → Sound (released p e) s → u < p.tiles
      → ((t : ℕ) → Leads p e t u → IsFinished s t)
      → needed_by (released p e).gate (released p e) u ≤ seen_by (released p e).gate s u

module _ (laws : WaitLaws) (plan : Plan) (e : Bor TileEdges) (is : IsPlan plan) (some : plan.edges ≡ Some e) where
  abbrev pairs : Edges
  pairs = edges_of e.now

  none : plan.marked.now ≡ []
  none = none_with plan e some is

  few : pairs.count < 18446744073709551616
  few = let l = e.now.targets.ok.0 in omega (arith, l)

  -- of two tiles in waves that rise the first has the lower number
  earlier : (t u : ℕ) → t < (walk_shape plan).tiles → u < (walk_shape plan).tiles
      → (walk_shape plan).wave t < (walk_shape plan).wave u → t < u
  earlier t u l m less =
      let p = walk_shape plan in
      let dealt = laws.gate.dealt plan [] is in
      let w = p.wave u in
      let first : t < p.offset w = nat_cases t (p.offset w) (λ a. a)
      (λ a. let b = dealt.late w t l (omega (arith, a)) in absurd (omega (arith, b, less)))
      (λ a. let b = dealt.late w t l (omega (arith, a)) in absurd (omega (arith, b, less))) in
      let second : p.offset w ≤ u = nat_cases u (p.offset w)
      (λ a. let b = dealt.early w u m a in absurd (omega (arith, b)))
      (λ a. omega (arith, a)) (λ a. omega (arith, a)) in
      omega (arith, first, second)

  pub later : (t u : ℕ) → Leads (walk_shape plan) pairs t u → t < u
  later t u leads =
      let p = walk_shape plan in
      let are = edges_are plan e some is in
      let w = (are.pairs t u).0 leads in
      let tiles = plan.list.now.tiles.items in
      earlier t u (slice_get_within tiles t w.first.tile.tile w.first.tile.is)
      (slice_get_within tiles u w.second.tile.tile w.second.tile.is)
      (laws.rises p pairs (λ c. none_added (extents_in plan) plan.marked.now c none) refl (laws.gate.good plan [] is)
      (pairs_are laws.gate plan is [] e.now are none) t u leads)

  module _ (cells : List ℕ) (s : State) (sound : Sound (plan_of plan cells) s) where
    there : Sound (released (walk_plan plan cells) pairs) s
    there = subst (λ q. Sound q s) (by_edges plan e cells some) sound

    pub releases_tell : Released (walk_plan plan cells) pairs s
    releases_tell =
        laws.tells (walk_plan plan cells) pairs s (laws.gate.dealt plan cells is) (edges_are plan e some is).rows few
        there

    touched_done : (i j : ℕ) → i < j → j < length (walk_in plan) → Touch (walk_plan plan cells) i j
        → IsBegun s ((walk_shape plan).tile j)
        → ((walk_shape plan).tile i ≡ (walk_shape plan).tile j)
        ⊎ IsDone (walk_plan plan cells) pairs s ((walk_shape plan).tile i)
    touched_done i j less within touch begun =
        laws.ends (walk_plan plan cells) pairs s i j (laws.gate.dealt plan cells is) (edges_are plan e some is).rows
        (covered_is laws.gate plan is cells e.now (edges_are plan e some is) none) there less within touch begun

    pub conflicts_done : (i j : ℕ) → is_expanded plan ≡ false → PlacesConflict (walk_in plan) i j
        → IsBegun s ((walk_shape plan).tile j)
        → ((walk_shape plan).tile i ≡ (walk_shape plan).tile j)
        ⊎ IsDone (walk_plan plan cells) pairs s ((walk_shape plan).tile i)
    conflicts_done i j unexpanded conflict =
        touched_done i j conflict.order (slice_get_within (walk_in plan) j conflict.later conflict.is_later)
        (touch_from plan cells i j unexpanded none conflict)

    pub sources_done : (i j r : ℕ) → is_expanded plan ≡ true → last_of (walk_in plan) j (suc r) ≡ Some i
        → IsBegun s ((walk_shape plan).tile j)
        → ((walk_shape plan).tile i ≡ (walk_shape plan).tile j)
        ⊎ IsDone (walk_plan plan cells) pairs s ((walk_shape plan).tile i)
    sources_done i j r expanded last =
        let source = last_source (walk_in plan) i j r last in
        let within = source_within (walk_in plan) j (Some i) source in
        touched_done i j (read_before laws.gate.numbers plan is cells expanded i j r last) within
        (touch_read laws.gate.numbers plan is cells expanded i j r last)

    pub gate_filled : (u : ℕ) → u < (shape_of plan).tiles → ((t : ℕ) → t < u → IsFinished s t)
        → needed_by (shape_of plan).gate (shape_of plan) u ≤ seen_by (shape_of plan).gate s u
    gate_filled u less finished =
        let n = tiles_are plan in
        let fills : pairs_to pairs u ≤ get_or s.cells ((walk_shape plan).cells + u) 0 =
        laws.fills (walk_plan plan cells) pairs s u (laws.gate.dealt plan cells is) (edges_are plan e some is).rows few
        there (omega (arith, less, n)) (λ t leads. finished t (later t u leads)) in
        subst (λ m. m ≤ seen_by (shape_of plan).gate s u) (needs_with plan e some u)
        (subst (λ m. pairs_to pairs u ≤ m) (seen_with plan e some s u) fills)
