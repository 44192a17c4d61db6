-- The pairs that lead from a tile of a plan, as the code's rows have them, and how many acts it has.
use Rattle.scop_syntax.proofs.Common.{◌≡◌, ◌∙◌, ℕ, zero, suc, ◌+◌, ◌-◌, ◌<◌, ◌≤◌, List, [], ◌∷◌, length, get_or, Option}
use Rattle.scop_syntax.proofs.Common.{Some, None, Bor, ap, sym, subst, refl, arith, ⊤, IsSome, MatchOption, nat_lt}
use Rattle.scop_syntax.proofs.Common.{le-ltb, there_is}
use Rattle.tile_events.specs.Core.{State, needed_by, seen_by, shut}
use Rattle.tile_events.specs.Core as core
use Rattle.tile_events.specs.Plan as events
use Rattle.tile_events.specs.Releases.{Edges, pairs_to, released}
use Rattle.tile_events.specs.Rule.{gate_word}
use Rattle.tile_edges.specs.Edges.{AreEdgesOf, edges_of}
use Rattle.tile_edges.specs.declared.waiting.TileEdges.{TileEdges}
use Rattle.tile_core.specs.Plans.{HasEdges, HaveRoom, IsPlan, gated, is_expanded, program_in, shape_of, walk_shape}
use Rattle.tile_core.specs.declared.plan.Plan.{Plan}
use Rattle.tile_core.proofs.Cuts.{starts_rise}
use Rattle.tile_core.proofs.Gates.{if_false, tiles_are}
use Rattle.tile_core.proofs.Tiles.{size_is}

-- what is found within a list is found whatever stands for what is not there
pub any_default : (xs : List ℕ) (k d : ℕ) → k < length xs → get_or xs k d ≡ get_or xs k 0
any_default [] k d l = absurd (omega (arith, l))
any_default (x ∷ xs) zero d l = refl
any_default (x ∷ xs) (suc k) d l = any_default xs k d (omega (arith, l))

-- a plan by waves
module _ (plan : Plan) (none : plan.edges ≡ None) where
  pub size_alone : (t : ℕ) → (walk_shape plan).size t + 0 ≡ (shape_of plan).size t
  size_alone t =
      let e = ap (λ (o : Option (Bor TileEdges)). (gated o (walk_shape plan)).size t) none in omega (arith, e)

  pub needs_alone : (t : ℕ)
      → (walk_shape plan).offset ((walk_shape plan).wave t) ≡ needed_by (shape_of plan).gate (shape_of plan) t
  needs_alone t =
      ap (λ (o : Option (Bor TileEdges)). needed_by (gated o (walk_shape plan)).gate (gated o (walk_shape plan)) t)
      (sym none)

  pub seen_alone : (s : State) (t : ℕ) → s.finished ≡ seen_by (shape_of plan).gate s t
  seen_alone s t = ap (λ (o : Option (Bor TileEdges)). seen_by (gated o (walk_shape plan)).gate s t) (sym none)

  pub word_alone : (t : ℕ) → 1 ≡ gate_word (shape_of plan).gate t
  word_alone t = ap (λ (o : Option (Bor TileEdges)). gate_word (gated o (walk_shape plan)).gate t) (sym none)

  pub shut_alone : (a b : ℕ) → core.not_yet a b ≡ shut (shape_of plan).gate a b
  shut_alone a b = ap (λ (o : Option (Bor TileEdges)). shut (gated o (walk_shape plan)).gate a b) (sym none)

-- the act behind so many releases of a tile
counter_there : (p : events.Plan) (e : Edges) (t n : ℕ)
    → (released p e).written ((released p e).place t (p.size t + n)) ≡ p.cells + e.target (e.start t + n)
counter_there p e t n =
    let i = e.start t + n in
    let k : (p.size t + n) - p.size t ≡ n = omega arith in
    let at : (released p e).place t (p.size t + n) ≡ p.places + i =
    if_false (nat_lt (p.size t + n) (p.size t)) _ _ (le-ltb (p.size t + n) (p.size t) (omega arith))
    ∙ ap (λ m. p.places + (e.start t + m)) k in
    let back : (p.places + i) - p.places ≡ i = omega arith in
    ap (released p e).written at
    ∙ (if_false (nat_lt (p.places + i) p.places) _ _ (le-ltb (p.places + i) p.places (omega arith))
    ∙ ap (λ m. p.cells + e.target m) back)

-- one with pairs of tiles
module _ (plan : Plan) (e : Bor TileEdges) (some : plan.edges ≡ Some e) where
  abbrev pairs : Edges
  pairs = edges_of e.now

  shape_is : shape_of plan ≡ released (walk_shape plan) pairs
  shape_is = ap (λ (o : Option (Bor TileEdges)). gated o (walk_shape plan)) some

  pub size_with : (t : ℕ) → (walk_shape plan).size t + (pairs.start (suc t) - pairs.start t) ≡ (shape_of plan).size t
  size_with t = ap (λ (q : events.Plan). q.size t) (sym shape_is)

  pub needs_with : (t : ℕ) → pairs_to pairs t ≡ needed_by (shape_of plan).gate (shape_of plan) t
  needs_with t = ap (λ (q : events.Plan). needed_by q.gate q t) (sym shape_is)

  pub seen_with : (s : State) (t : ℕ)
      → get_or s.cells ((walk_shape plan).cells + t) 0 ≡ seen_by (shape_of plan).gate s t
  seen_with s t = ap (λ (q : events.Plan). seen_by q.gate s t) (sym shape_is)

  pub word_with : (t : ℕ) → ((walk_shape plan).cells + t) + 2 ≡ gate_word (shape_of plan).gate t
  word_with t = ap (λ (q : events.Plan). gate_word q.gate t) (sym shape_is)

  pub shut_with : (a b : ℕ) → core.short a b ≡ shut (shape_of plan).gate a b
  shut_with a b = ap (λ (q : events.Plan). shut q.gate a b) (sym shape_is)

  pub counter_with : (t n : ℕ)
      → (shape_of plan).written ((shape_of plan).place t ((walk_shape plan).size t + n))
      ≡ (walk_shape plan).cells + pairs.target (pairs.start t + n)
  counter_with t n =
      ap (λ (q : events.Plan). q.written (q.place t ((walk_shape plan).size t + n))) shape_is
      ∙ counter_there (walk_shape plan) pairs t n

  module _ (is : IsPlan plan) where
    pub edges_are : AreEdgesOf (is_expanded plan) (program_in plan) plan.params.now is.tiling plan.list.now e.now
    edges_are =
        subst (λ (o : Option (Bor TileEdges)). MatchOption o ⊤
        (λ x. AreEdgesOf (is_expanded plan) (program_in plan) plan.params.now is.tiling plan.list.now x.now)) some is.edges

    room : HaveRoom plan.list.now e.now
    room = subst (λ (o : Option (Bor TileEdges)). MatchOption o ⊤ (λ x. HaveRoom plan.list.now x.now)) some is.room

    module _ (t : ℕ) (less : t < (shape_of plan).tiles) where
      within : t < length plan.list.now.tiles.items
      within = let n = tiles_are plan in omega (arith, less, n)

      pub start_within : suc t < length e.now.starts.items
      start_within = let l = within in let n = edges_are.starts in omega (arith, l, n)

      pub need_within : t < length e.now.needs.items
      need_within = let l = within in let n = edges_are.counted in omega (arith, l, n)

      pub row_rises : pairs.start t ≤ pairs.start (suc t)
      row_rises = edges_are.rows.rises t within

      row_ends : pairs.start (suc t) ≤ length e.now.targets.items
      row_ends =
          let n = length plan.list.now.tiles.items in
          let up = starts_rise pairs.start n edges_are.rows.rises (suc t) n within (omega arith) in
          let last = edges_are.rows.last in
          omega (arith, up, last)

      pub target_within : (n : ℕ) → (walk_shape plan).size t + n < (shape_of plan).size t
          → pairs.start t + n < length e.now.targets.items
      target_within n l =
          let size = size_with t in
          let rises = row_rises in
          let ends = row_ends in
          omega (arith, l, size, rises, ends)

      pub target_is : (n : ℕ) → (walk_shape plan).size t + n < (shape_of plan).size t
          → pairs.target (pairs.start t + n) < (shape_of plan).tiles
      target_is n l =
          let tiles = tiles_are plan in
          let b = edges_are.rows.target (pairs.start t + n) (target_within n l) in
          omega (arith, b, tiles)

      few_acts : (shape_of plan).size t < 18446744073709551616
      few_acts =
          let tiles = plan.list.now.tiles.items in
          let tile = there_is tiles t within in
          let own = size_is tiles t tile.0 tile.1 in
          let fits = room t tile.0 tile.1 in
          let size = size_with t in
          let ends = row_ends in
          omega (arith, own, fits, size, ends)

-- a tile that releases another is one of a plan with pairs
pub has_edges : (plan : Plan) (t : ℕ) → (walk_shape plan).size t < (shape_of plan).size t → HasEdges plan
has_edges plan t more = by_gate plan.edges refl
  where
    by_gate : (o : Option (Bor TileEdges)) → plan.edges ≡ o → IsSome plan.edges
    by_gate None none = let e = size_alone plan none t in absurd (omega (arith, e, more))
    by_gate (Some e) some = subst (λ (o : Option (Bor TileEdges)). IsSome o) (sym some) refl

-- the acts of a tile that releases another are counted in 64 bits
pub acts_fit : (plan : Plan) (is : IsPlan plan) (t : ℕ) → t < (shape_of plan).tiles
    → (walk_shape plan).size t < (shape_of plan).size t → (shape_of plan).size t < 18446744073709551616
acts_fit plan is t less more = by_gate plan.edges refl
  where
    by_gate : (o : Option (Bor TileEdges)) → plan.edges ≡ o → (shape_of plan).size t < 18446744073709551616
    by_gate None none = let e = size_alone plan none t in absurd (omega (arith, e, more))
    by_gate (Some e) some = few_acts plan e some is t less

-- and so are those of any tile
pub sum_fits : (plan : Plan) (is : IsPlan plan) (t a b : ℕ) → t < (shape_of plan).tiles → a ≡ (walk_shape plan).size t
    → (walk_shape plan).size t + b ≡ (shape_of plan).size t → a < 18446744073709551616 → a + b < 18446744073709551616
sum_fits plan is t a zero less own all fits = omega (arith, fits)
sum_fits plan is t a (suc b) less own all fits =
    let f = acts_fit plan is t less (omega (arith, all)) in omega (arith, f, own, all)
