-- Sizes of tiles, and offsets of waves: a plan's tiles as a deal.
use Rattle.scop_syntax.proofs.Common.{◌≡◌, ℕ, zero, suc, ◌-◌, ◌+◌, ◌≤◌, ◌<◌, Bool, true, false, List, [], ◌∷◌, ◌++◌}
use Rattle.scop_syntax.proofs.Common.{length, Some, ap, sym, ◌∙◌, arith, slice_get, nat_lt, if◌then◌else◌, option_map}
use Rattle.scop_syntax.proofs.Common.{length-map, slice_get-map, slice_get-get_or, get_or_from_slice_get, nat_cases}
use Rattle.expansions.proofs.Firsts.{at_back, at_front}
use Rattle.tile_list.specs.Tiles.{waves_in}
use Rattle.tile_list.specs.TilesView.{waves_of}
use Rattle.tile_list.specs.declared.list.Tile.{Tile}
use Rattle.tile_events.specs.Deal.{offset_to}
use Rattle.tile_events.specs.Plan.{IsDealt}
use Rattle.tile_core.specs.Plans.{IsPlan, deal_of, walk_plan}
use Rattle.tile_core.specs.Ranks.{sizes_of, start_at}
use Rattle.tile_core.specs.declared.plan.Plan.{Plan}

-- the next tile begins behind all instances of this one
pub start_step : (tiles : List Tile) (t : ℕ) (tile : Tile) → slice_get tiles t ≡ Some tile
    → start_at (sizes_of tiles) (suc t) ≡ start_at (sizes_of tiles) t + tile.size
start_step [] t tile e = absurd cc
start_step (u ∷ us) zero tile e = let f : u ≡ tile = cc in let g = ap (λ (x : Tile). x.size) f in omega (arith, g)
start_step (u ∷ us) (suc t) tile e = let r = start_step us t tile e in omega (arith, r)

pub size_is : (tiles : List Tile) (t : ℕ) (tile : Tile) → slice_get tiles t ≡ Some tile
    → tile.size ≡ start_at (sizes_of tiles) (suc t) - start_at (sizes_of tiles) t
size_is tiles t tile e = let s = start_step tiles t tile e in omega (arith, s)

-- the starts of one tile more
pub starts_more : (tiles : List Tile) (n start : ℕ) (old new : List ℕ) → new ≡ old ++ start ∷ [] → length old ≡ n
    → start ≡ start_at (sizes_of tiles) n
    → ((t : ℕ) → t < n → slice_get old t ≡ Some (start_at (sizes_of tiles) t)) → (t : ℕ) → t < n + 1
    → slice_get new t ≡ Some (start_at (sizes_of tiles) t)
starts_more tiles n start old new put many begins each t less =
    ap (λ (xs : List ℕ). slice_get xs t) put
    ∙ nat_cases t n
    (λ l. at_front old (start ∷ []) t _ (each t l))
    (λ e. ap (slice_get (old ++ start ∷ [])) (let q : t ≡ length old + 0 = omega (arith, e, many) in q)
    ∙ (at_back old (start ∷ []) 0 ∙ (ap Some begins ∙ ap (λ m. Some (start_at (sizes_of tiles) m)) (sym e))))
    (λ l. absurd (omega (arith, l, less)))

wave_there : (tiles : List Tile) (t : ℕ) (tile : Tile) → slice_get tiles t ≡ Some tile
    → slice_get (waves_of tiles) t ≡ Some tile.wave
wave_there tiles t tile e = slice_get-map (λ (x : Tile). x.wave) tiles t ∙ ap (option_map (λ (x : Tile). x.wave)) e

wave_below : (ns : List ℕ) (t n : ℕ) → slice_get ns t ≡ Some n → n < waves_in ns
wave_below [] t n e = absurd cc
wave_below (m ∷ ms) zero n e = let f : m ≡ n = cc in omega (arith, f)
wave_below (m ∷ ms) (suc t) n e = let r = wave_below ms t n e in omega (arith, r)

offset_within : (wave : ℕ → ℕ) (m w : ℕ) → offset_to wave m w ≤ m
offset_within wave zero w = omega arith
offset_within wave (suc m) w = by_test (nat_lt (wave m) w) (offset_within wave m w)
  where
    by_test : (b : Bool) → offset_to wave m w ≤ m → (if b then suc m else offset_to wave m w) ≤ suc m
    by_test true h = omega arith
    by_test false h = omega (arith, h)

-- there is an offset for the wave of each tile
pub offset_there : (plan : Plan) (t : ℕ) (tile : Tile) → IsPlan plan → slice_get plan.list.now.tiles.items t ≡ Some tile
    → tile.wave < length plan.list.now.offsets.items
offset_there plan t tile is at =
    let tiles = plan.list.now.tiles.items in
    let b = wave_below (waves_of tiles) t tile.wave (wave_there tiles t tile at) in
    let c = is.tiles.offsets.count in
    omega (arith, b, c)

-- and it is the plan's
pub offset_is : (plan : Plan) (cells : List ℕ) (t k : ℕ) (tile : Tile) → IsPlan plan → IsDealt (walk_plan plan cells)
    → slice_get plan.list.now.tiles.items t ≡ Some tile
    → slice_get plan.list.now.offsets.items tile.wave ≡ Some k
    → k ≡ (walk_plan plan cells).offset ((walk_plan plan cells).wave t)
offset_is plan cells t k tile is deal at found =
    let tiles = plan.list.now.tiles.items in
    let w = tile.wave in
    let wave = (deal_of plan).wave in
    let off = offset_to wave (length tiles) w in
    let many = length-map tiles (λ (x : Tile). x.wave) in
    let o = is.tiles.offsets.are w k found in
    let few = o.few in
    let less = offset_within wave (length tiles) w in
    let same : k ≡ off = nat_cases k off
    (λ l.
    let a = deal.early w k (omega (arith, l, less)) l in
    let b = o.behind k (wave k) (omega arith) (slice_get-get_or (waves_of tiles) k 0 (omega (arith, l, less, many))) in
    absurd (omega (arith, a, b)))
    (λ e. e)
    (λ l.
    let a = deal.late w off (omega (arith, l, few, many)) (omega arith) in
    let b = o.before off (wave off) l (slice_get-get_or (waves_of tiles) off 0 (omega (arith, l, few, many))) in
    absurd (omega (arith, a, b))) in
    same ∙ ap (offset_to wave (length tiles)) (sym (get_or_from_slice_get (waves_of tiles) t w 0
    (wave_there tiles t tile at)))
