-- A plan with its releases: it has the walk's places as they are (`Extends`), and behind them the releases
-- (`releases_there`).
use Rattle.scop_syntax.proofs.Common.{◌≡◌, ◌∙◌, ℕ, ◌+◌, ◌-◌, ◌<◌, ◌≤◌, Bool, true, false, List, [], length, get_or}
use Rattle.scop_syntax.proofs.Common.{Option, Some, None, Bor, ap, sym, refl, subst, arith, nat_lt, if◌then◌else◌}
use Rattle.scop_syntax.proofs.Common.{lt-ltb, le-ltb, nat_cases}
use Rattle.tile_events.specs.Core.{is_counted}
use Rattle.tile_events.specs.Plan as events
use Rattle.tile_events.specs.Releases.{released}
use Rattle.tile_edges.specs.Edges.{edges_of}
use Rattle.tile_edges.specs.declared.waiting.TileEdges.{TileEdges}
use Rattle.tile_core.specs.Plans.{HasRest, gated, plain_plan, plain_shape, plan_of, shape_of, sources_in, walk_plan}
use Rattle.tile_core.specs.Plans.{walk_shape, with_copies}
use Rattle.tile_core.specs.declared.expansion.Expansion.{Expansion}
use Rattle.tile_core.specs.declared.plan.Plan.{Plan}

pub if_true : {A : Type 0} (b : Bool) (x y : A) → b ≡ true → (if b then x else y) ≡ x
if_true b x y e = rw e refl

pub if_false : {A : Type 0} (b : Bool) (x y : A) → b ≡ false → (if b then x else y) ≡ y
if_false b x y e = rw e refl

-- plan q has the places of p as they are, and in each tile it may have more behind them
pub record Extends (p q : events.Plan) : Type 0 where
  pub tiles : q.tiles ≡ p.tiles
  pub cells : p.cells ≤ q.cells
  pub size : (t : ℕ) → p.size t ≤ q.size t
  pub place : (t k : ℕ) → k < p.size t → q.place t k ≡ p.place t k
  pub read : (j : ℕ) → j < p.places → q.read j ≡ p.read j
  pub written : (j : ℕ) → j < p.places → q.written j ≡ p.written j
  pub value : (j : ℕ) → j < p.places → q.value j ≡ p.value j
  pub adds : (c : ℕ) → c < p.cells → q.adds c ≡ p.adds c

-- a place that releases a tile: it reads nothing, and adds 1 to a counter
pub record IsRelease (q : events.Plan) (j : ℕ) : Type 0 where
  pub read : q.read j ≡ []
  pub value : (xs : List ℕ) → q.value j xs ≡ 1
  pub adds : q.adds (q.written j) ≡ true
  pub counted : is_counted q.gate ≡ true

pub gated_extends : (o : Option (Bor TileEdges)) (p : events.Plan) → Extends p (gated o p)
gated_extends None p = record {
  tiles = refl;
  cells = omega arith;
  size = λ t. omega arith;
  place = λ t k l. refl;
  read = λ j l. refl;
  written = λ j l. refl;
  value = λ j l. refl;
  adds = λ c l. refl;
}
gated_extends (Some e) p = record {
  tiles = refl;
  cells = omega arith;
  size = λ t. omega arith;
  place = λ t k l. if_true (nat_lt k (p.size t)) _ _ (lt-ltb k (p.size t) l);
  read = λ j l. if_true (nat_lt j p.places) _ _ (lt-ltb j p.places l);
  written = λ j l. if_true (nat_lt j p.places) _ _ (lt-ltb j p.places l);
  value = λ j l i xs. if_true (nat_lt j p.places) (p.value j xs) 1 (lt-ltb j p.places l) i;
  adds = λ c l. if_true (nat_lt c p.cells) _ _ (lt-ltb c p.cells l);
}

pub shape_extends : (plan : Plan) → Extends (walk_shape plan) (shape_of plan)
shape_extends plan = gated_extends plan.edges (walk_shape plan)

-- there are as many tiles as are listed
pub tiles_are : (plan : Plan) → (shape_of plan).tiles ≡ length plan.list.now.tiles.items
tiles_are plan = (shape_extends plan).tiles

-- over some cells it is the walk's plan over these, with its gate
gated_is : (o : Option (Bor TileEdges)) (plan : Plan) (cells : List ℕ)
    → record (gated o (walk_shape plan)) { initial = (gated o (walk_plan plan cells)).initial }
    ≡ gated o (walk_plan plan cells)
gated_is None plan cells = refl
gated_is (Some e) plan cells = refl

pub plan_is : (plan : Plan) (cells : List ℕ) → plan_of plan cells ≡ gated plan.edges (walk_plan plan cells)
plan_is plan cells = gated_is plan.edges plan cells

pub by_waves : (plan : Plan) (cells : List ℕ) → plan.edges ≡ None → plan_of plan cells ≡ walk_plan plan cells
by_waves plan cells none =
    plan_is plan cells ∙ ap (λ (o : Option (Bor TileEdges)). gated o (walk_plan plan cells)) none

pub by_edges : (plan : Plan) (e : Bor TileEdges) (cells : List ℕ) → plan.edges ≡ Some e
    → plan_of plan cells ≡ released (walk_plan plan cells) (edges_of e.now)
by_edges plan e cells some =
    plan_is plan cells ∙ ap (λ (o : Option (Bor TileEdges)). gated o (walk_plan plan cells)) some

-- what stands behind the instances of a tile releases another
release_there : (o : Option (Bor TileEdges)) (p : events.Plan) (t k : ℕ) → p.size t ≤ k → k < (gated o p).size t
    → IsRelease (gated o p) ((gated o p).place t k)
release_there None p t k from to = absurd (omega (arith, from, to))
release_there (Some e) p t k from to =
    let n = edges_of e.now in
    let i = n.start t + (k - p.size t) in
    let u = n.target i in
    let q = released p n in
    let at : q.place t k ≡ p.places + i = if_false (nat_lt k (p.size t)) _ _ (le-ltb k (p.size t) from) in
    let late : nat_lt (p.places + i) p.places ≡ false = le-ltb (p.places + i) p.places (omega arith) in
    let counter : q.written (p.places + i) ≡ p.cells + n.target ((p.places + i) - p.places) =
    if_false (nat_lt (p.places + i) p.places) _ _ late in
    subst (λ j. IsRelease q j) (sym at) record {
      read = if_false (nat_lt (p.places + i) p.places) _ _ late;
      value = λ xs. if_false (nat_lt (p.places + i) p.places) _ _ late;
      adds = ap q.adds counter ∙ if_false (nat_lt (p.cells + n.target ((p.places + i) - p.places)) p.cells) _ _
          (le-ltb (p.cells + n.target ((p.places + i) - p.places)) p.cells (omega arith));
      counted = refl;
    }

pub releases_there : (plan : Plan) (t k : ℕ) → (walk_shape plan).size t ≤ k → k < (shape_of plan).size t
    → IsRelease (shape_of plan) ((shape_of plan).place t k)
releases_there plan t k from to = release_there plan.edges (walk_shape plan) t k from to

-- a row that holds 0 from a cell on, told as one that does so anyway
held_to : (n c : ℕ) (cells : List ℕ) (f : ℕ → ℕ) → (n ≤ c → get_or cells c 0 ≡ 0) → get_or cells c 0 ≡ f c
    → get_or cells c 0 ≡ (if nat_lt c n then f c else 0)
held_to n c cells f rest same =
    nat_cases c n
    (λ l. same ∙ sym (if_true (nat_lt c n) (f c) 0 (lt-ltb c n l))) (λ e. behind (omega (arith, e)))
    (λ l. behind (omega (arith, l)))
  where
    behind : n ≤ c → get_or cells c 0 ≡ (if nat_lt c n then f c else 0)
    behind from = rest from ∙ sym (if_false (nat_lt c n) (f c) 0 (le-ltb c n from))

-- the cells at first, where all copies are 0
copies_by : (o : Option (Bor Expansion)) (plan : Plan) (cells : List ℕ) → HasRest plan cells → (c : ℕ)
    → get_or cells c 0 ≡ (with_copies o (sources_in plan) (plain_plan plan cells)).initial c
copies_by None plan cells rest c = refl
copies_by (Some e) plan cells rest c =
    held_to (plain_shape plan).cells c cells (λ d. get_or cells d 0) (λ from. rest c from) refl

wider_by : (o : Option (Bor Expansion)) (plan : Plan)
    → (plain_shape plan).cells ≤ (with_copies o (sources_in plan) (plain_shape plan)).cells
wider_by None plan = omega arith
wider_by (Some e) plan = omega arith

-- the copies stand behind the cells of all arrays
pub wider : (plan : Plan) → (plain_shape plan).cells ≤ (walk_shape plan).cells
wider plan = wider_by plan.expansion plan

-- and all counters
initial_by : (o : Option (Bor TileEdges)) (plan : Plan) (cells : List ℕ) → HasRest plan cells → (c : ℕ)
    → get_or cells c 0 ≡ (gated o (walk_plan plan cells)).initial c
initial_by None plan cells rest c = copies_by plan.expansion plan cells rest c
initial_by (Some e) plan cells rest c =
    held_to (walk_shape plan).cells c cells (walk_plan plan cells).initial
    (λ from. let w = wider plan in rest c (omega (arith, w, from))) (copies_by plan.expansion plan cells rest c)

pub initial_is : (plan : Plan) (cells : List ℕ) → HasRest plan cells → (c : ℕ)
    → get_or cells c 0 ≡ (plan_of plan cells).initial c
initial_is plan cells rest c = initial_by plan.edges plan cells rest c

-- rows that hold the same make one plan
pub same_plan : (plan : Plan) (xs ys : List ℕ) → ((c : ℕ) → get_or xs c 0 ≡ get_or ys c 0)
    → plan_of plan xs ≡ plan_of plan ys
same_plan plan xs ys same =
    let at : (λ (c : ℕ). get_or xs c 0) ≡ (λ (c : ℕ). get_or ys c 0) = λ i c. same c i in
    ap (λ (f : ℕ → ℕ). record (shape_of plan) {
      initial = (gated plan.edges (record (walk_shape plan) {
        initial = (with_copies plan.expansion (sources_in plan) (record (plain_shape plan) { initial = f })).initial;
      })).initial;
    }) at
