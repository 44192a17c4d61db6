-- What a plan's gates look at: one word for all tiles, or for each tile a counter behind the cells of all arrays.
use Rattle.std.proofs.Common.{◌≡◌, ℕ, ◌+◌, ◌<◌, ◌≤◌, Bor, ap, arith, refl, IsSome, Option, Some, None}
use Rattle.tile_events.specs.Core.{needed_by}
use Rattle.tile_events.specs.Plan as plain
use Rattle.tile_events.specs.Plan.{Gate, waves, counters}
use Rattle.tile_events.specs.Rule.{gate_word}
use Rattle.tile_core.specs.Passes.{plan_in}
use Rattle.tile_core.specs.Plans.{HasEdges, gated, shape_of, walk_shape}
use Rattle.tile_core.specs.TileEdges.{TileEdges}
use Rattle.tile_core.specs.declared.plan.Plan.{Plan}
use Rattle.tile_core.specs.declared.words.Words.{Words}

-- what has to be seen does not hang on what the cells hold at first
needed_same : (g : Gate) (p : plain.Plan) (f : ℕ → ℕ) (t : ℕ)
    → needed_by g p t ≡ needed_by g (record p { initial = f }) t
needed_same waves p f t = refl
needed_same (counters cell needs) p f t = refl

pub needed_in : (words : Words) (t : ℕ) → needed_by (shape_of words.plan).gate (shape_of words.plan) t
    ≡ needed_by (plan_in words).gate (plan_in words) t
needed_in words t = needed_same (shape_of words.plan).gate (shape_of words.plan) (plan_in words).initial t

-- without pairs of tiles it is the count of finished ones
pub first_word : (words : Words) (t : ℕ) → words.plan.edges ≡ None → gate_word (plan_in words).gate t ≡ 1
first_word words t none = ap (λ o. gate_word (gated o (walk_shape words.plan)).gate t) none

counter_at : (o : Option (Bor TileEdges)) (p : plain.Plan) (t : ℕ) → IsSome o
    → gate_word (gated o p).gate t ≡ (p.cells + t) + 2
counter_at None p t has = absurd cc
counter_at (Some e) p t has = refl

-- with them it is the tile's counter
pub tile_word : (words : Words) (t : ℕ) → HasEdges words.plan
    → gate_word (plan_in words).gate t ≡ ((walk_shape words.plan).cells + t) + 2
tile_word words t has = counter_at words.plan.edges (walk_shape words.plan) t has

no_more : (o : Option (Bor TileEdges)) (p : plain.Plan) (t k : ℕ) → p.size t ≤ k → k < (gated o p).size t → IsSome o
no_more None p t k behind left = absurd (omega (arith, behind, left))
no_more (Some e) p t k behind left = refl

-- where a release is left there are such pairs
pub left_has : (plan : Plan) (t k : ℕ) → (walk_shape plan).size t ≤ k → k < (shape_of plan).size t → HasEdges plan
left_has plan t k behind left = no_more plan.edges (walk_shape plan) t k behind left
