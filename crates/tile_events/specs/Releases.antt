-- Tiles that are opened by counters: a tile has successors, and when its instances are done it adds 1 to the counter of
-- each. A release is a place of the plan like an instance: it reads nothing, and adds 1.
use Rattle.std.specs.Prelude.{◌≡◌, ℕ, suc, ◌+◌, ◌-◌, ◌<◌, ◌≤◌, ◌⊎◌, ◌&&◌, true, List, [], ◌∷◌, get_or, nat_eq, nat_lt}
use Rattle.std.specs.Prelude.{if◌then◌else◌}
use Rattle.tile_events.specs.Plan.{Plan, counters, Touch, count_of}
use Rattle.tile_events.specs.Deal.{tile_at}
use Rattle.tile_events.specs.Core.{State}
use Rattle.tile_events.specs.Sound.{is_done, IsBegun}

-- pairs of tiles, by their numbers: those of one tile stand side by side, tile after tile
pub record Edges : Type 0 where
  -- how many pairs there are
  pub count : ℕ
  -- of a tile: the number of its first pair; of the number of tiles: how many pairs there are
  pub start : ℕ → ℕ
  -- of a pair: the second of its tiles
  pub target : ℕ → ℕ

-- the pairs of each of n tiles stand behind those of the tile before it, and no two pairs are the same
pub record AreEdges (n : ℕ) (e : Edges) : Type 0 where
  -- the first tile begins with the first pair
  pub first : e.start 0 ≡ 0
  -- the last one ends with the last pair
  pub last : e.start n ≡ e.count
  -- no tile ends before it begins
  pub rises : (t : ℕ) → t < n → e.start t ≤ e.start (suc t)
  -- the second of a pair is one of the tiles
  pub target : (i : ℕ) → i < e.count → e.target i < n
  -- the pairs of one tile are in the order of their seconds
  pub distinct : (i : ℕ) → suc i < e.count → tile_at e.start n i ≡ tile_at e.start n (suc i)
      → e.target i < e.target (suc i)

-- how many pairs have this tile as their second, so from how many tiles one leads to it: no two pairs are the same
abbrev pub pairs_to : Edges → ℕ → ℕ
pairs_to e u = count_of (λ i. nat_eq (e.target i) u) e.count

-- the plan with a counter for each tile behind its cells, and the releases behind its places: those of a tile come
-- behind its instances
abbrev pub released : Plan → Edges → Plan
released p e = record {
  places = p.places + e.count;
  cells = p.cells + p.tiles;
  tiles = p.tiles;
  written = λ j. if nat_lt j p.places then p.written j else p.cells + e.target (j - p.places);
  read = λ j. if nat_lt j p.places then p.read j else [];
  adds = λ c. if nat_lt c p.cells then p.adds c else true;
  value = λ j xs. if nat_lt j p.places then p.value j xs else 1;
  initial = λ c. if nat_lt c p.cells then p.initial c else 0;
  tile = λ j. if nat_lt j p.places then p.tile j else tile_at e.start p.tiles (j - p.places);
  position = λ j. if nat_lt j p.places
      then p.position j
      else p.size (tile_at e.start p.tiles (j - p.places))
      + ((j - p.places) - e.start (tile_at e.start p.tiles (j - p.places)));
  size = λ t. p.size t + (e.start (suc t) - e.start t);
  place = λ t k. if nat_lt k (p.size t) then p.place t k else p.places + (e.start t + (k - p.size t));
  wave = p.wave;
  offset = p.offset;
  gate = counters (λ u. p.cells + u) (pairs_to e);
}

-- there is a pair from tile t to tile u
abbrev pub Leads : Plan → Edges → ℕ → ℕ → Type 0
Leads p e t u = (i : ℕ) × (i < e.count) × (tile_at e.start p.tiles i ≡ t) × (e.target i ≡ u)

-- of two places the first comes earlier in one tile, or a pair leads from its tile to the other's
abbrev pub Precedes : Plan → Edges → ℕ → ℕ → Type 0
Precedes p e i j = ((p.tile i ≡ p.tile j) × (p.position i < p.position j)) ⊎ Leads p e (p.tile i) (p.tile j)

-- so at once, or by way of places in between
abbrev pub Chain : Plan → Edges → List ℕ → ℕ → ℕ → Type 0
Chain p e [] i j = Precedes p e i j
Chain p e (k ∷ ks) i j = (k < p.places) × Precedes p e i k × Chain p e ks k j

-- two places that touch one cell are joined by such a chain
abbrev pub AreCovered : Plan → Edges → Type 0
AreCovered p e = (i j : ℕ) → i < j → j < p.places → Touch p i j → (ks : List ℕ) × Chain p e ks i j

-- all instances of tile t are done
abbrev pub IsDone : Plan → Edges → State → ℕ → Type 0
IsDone p e s t = (k : ℕ) → k < p.size t → is_done (released p e) s (p.place t k) ≡ true

-- the first tile of pair i has released the second
abbrev pub IsReleased : Plan → Edges → State → ℕ → Type 0
IsReleased p e s i = is_done (released p e) s (p.places + i) ≡ true

-- how many pairs to tile u are released
abbrev pub released_to : Plan → Edges → State → ℕ → ℕ
released_to p e s u = count_of (λ i. is_done (released p e) s (p.places + i) && nat_eq (e.target i) u) e.count

-- what holds of counters and releases between any two events
pub record Released (p : Plan) (e : Edges) (s : State) : Type 0 where
  -- each tile from which a pair leads to an opened or finished one has all instances done, and has released that one
  pub opened : (i : ℕ) → i < e.count → IsBegun s (e.target i)
      → IsDone p e s (tile_at e.start p.tiles i) × IsReleased p e s i
  -- a tile's counter holds how many pairs to it are released
  pub counts : (u : ℕ) → u < p.tiles → get_or s.cells (p.cells + u) 0 ≡ released_to p e s u
  -- a tile releases another only when all its instances are done
  pub releases : (i : ℕ) → i < e.count → IsReleased p e s i → IsDone p e s (tile_at e.start p.tiles i)
