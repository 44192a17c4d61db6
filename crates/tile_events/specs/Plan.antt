-- A plan as plain data: the places of a walk with what they touch, and the tiles that they are dealt to.
use Rattle.std.specs.Prelude.{◌≡◌, ℕ, zero, suc, ◌+◌, ◌%◌, ◌^◌, ◌<◌, ◌≤◌, ◌⊎◌, ◌&&◌, Bool, true, false, List, [], ◌∷◌}
use Rattle.std.specs.Prelude.{map, nat_eq, if◌then◌else◌, ⊤}
use Rattle.scop_syntax.specs.Members.{In}

-- what has to be seen before a tile is opened
pub data Gate : Type 0 where
  -- as many finished tiles as lie in earlier waves
  waves : Gate
  -- enough in a cell of its own: of a tile, its counter's cell and how much that has to hold
  counters : (ℕ → ℕ) → (ℕ → ℕ) → Gate

-- places, cells, tiles and waves by their numbers
pub record Plan : Type 0 where
  -- the number of places
  pub places : ℕ
  -- the number of cells
  pub cells : ℕ
  -- the number of tiles
  pub tiles : ℕ
  -- of a place: the cell that it writes
  pub written : ℕ → ℕ
  -- of a place: the cells that it reads
  pub read : ℕ → List ℕ
  -- of a cell: whether its writers add to what it holds; else they store
  pub adds : ℕ → Bool
  -- of a place: what it stores or adds, by the values that it has read
  pub value : ℕ → List ℕ → ℕ
  -- of a cell: what it holds at first
  pub initial : ℕ → ℕ
  -- of a place: its tile
  pub tile : ℕ → ℕ
  -- of a place: where it stands in its tile
  pub position : ℕ → ℕ
  -- of a tile: how many places it has, releases included
  pub size : ℕ → ℕ
  -- of a tile and a number below its size: the place that stands there
  pub place : ℕ → ℕ → ℕ
  -- of a tile: its wave
  pub wave : ℕ → ℕ
  -- of a wave: how many tiles lie in earlier ones
  pub offset : ℕ → ℕ
  -- how its tiles are opened
  pub gate : Gate

-- what a cell that held `old` holds after value x was added to it, or stored there
abbrev pub updated : Bool → ℕ → ℕ → ℕ
updated true old x = (old + x) % 2 ^ 64
updated false old x = x

-- what a cell holds before place k, where the places are executed one after another
abbrev pub before : Plan → ℕ → ℕ → ℕ
before p zero c = p.initial c
before p (suc k) c =
    if nat_eq (p.written k) c
    then updated (p.adds c) (before p k c) (p.value k (map (before p k) (p.read k)))
    else before p k c

-- the values that place k reads in that execution
abbrev pub values_read : Plan → ℕ → List ℕ
values_read p k = map (before p k) (p.read k)

-- the value that place k stores or adds in that execution
abbrev pub stored : Plan → ℕ → ℕ
stored p k = p.value k (values_read p k)

-- two places touch one cell, and at least one of the two writes it, but not where both add to it
abbrev pub Touch : Plan → ℕ → ℕ → Type 0
Touch p i j =
    ((p.written i ≡ p.written j) × (p.adds (p.written i) ≡ false))
    ⊎ (In (p.written i) (p.read j) ⊎ In (p.written j) (p.read i))

-- tile u waits for place i: its tile lies in an earlier wave, or it adds to the counter of u
abbrev pub Awaits : Gate → Plan → ℕ → ℕ → Type 0
Awaits waves p u i = p.wave (p.tile i) < p.wave u
Awaits (counters cell needs) p u i = p.written i ≡ cell u

-- of two places the first comes earlier in one tile, or the other's tile waits for it or for a place behind it in its
-- tile
abbrev pub Ordered : Plan → ℕ → ℕ → Type 0
Ordered p i j =
    ((p.tile i ≡ p.tile j) × (p.position i < p.position j))
    ⊎ ((r : ℕ) × (r < p.places) × (p.tile r ≡ p.tile i) × (p.position i ≤ p.position r) × Awaits p.gate p (p.tile j) r)

-- the same by waves: the first comes earlier in one tile, or its tile lies in an earlier wave
abbrev pub IsByWaves : Plan → ℕ → ℕ → Type 0
IsByWaves p i j = ((p.tile i ≡ p.tile j) × (p.position i < p.position j)) ⊎ (p.wave (p.tile i) < p.wave (p.tile j))

-- ordered at once, or by way of places in between
abbrev pub Through : Plan → List ℕ → ℕ → ℕ → Type 0
Through p [] i j = Ordered p i j
Through p (k ∷ ks) i j = (k < p.places) × Ordered p i k × Through p ks k j

-- two places that touch one cell are ordered
pub record GoodPlan (p : Plan) : Type 0 where
  pub ordered : (i j : ℕ) → i < j → j < p.places → Touch p i j → (ks : List ℕ) × Through p ks i j

-- how many numbers below n pass a test
abbrev pub count_of : (ℕ → Bool) → ℕ → ℕ
count_of test zero = 0
count_of test (suc n) = if test n then suc (count_of test n) else count_of test n

-- a tile's counter is a cell that is 0 at first, each place that writes it adds 1, and the tile needs as much as there
-- are such places
pub record IsCounted (p : Plan) (counter needed : ℕ → ℕ) : Type 0 where
  pub cell : (u : ℕ) → u < p.tiles → counter u < p.cells
  pub adds : (u : ℕ) → u < p.tiles → p.adds (counter u) ≡ true
  pub initial : (u : ℕ) → u < p.tiles → p.initial (counter u) ≡ 0
  pub one : (i u : ℕ) (xs : List ℕ) → i < p.places → u < p.tiles → p.written i ≡ counter u → p.value i xs ≡ 1
  pub needs : (u : ℕ) → u < p.tiles → needed u ≡ count_of (λ i. nat_eq (p.written i) (counter u)) p.places

-- what its gate asks of a plan
abbrev pub IsGated : Gate → Plan → Type 0
IsGated waves p = ⊤
IsGated (counters cell needs) p = IsCounted p cell needs

-- each place stands once in one tile, the tiles are numbered by wave, and what is touched are cells of the plan
pub record IsDealt (p : Plan) : Type 0 where
  -- the tile of a place is one of the plan's
  pub tile : (j : ℕ) → j < p.places → p.tile j < p.tiles
  -- it stands there below the tile's size
  pub position : (j : ℕ) → j < p.places → p.position j < p.size (p.tile j)
  -- and the place that stands there is the place itself
  pub there : (j : ℕ) → j < p.places → p.place (p.tile j) (p.position j) ≡ j
  -- what stands in a tile is one of the plan's places
  pub place : (t k : ℕ) → t < p.tiles → k < p.size t → p.place t k < p.places
  -- that tile is its tile
  pub its_tile : (t k : ℕ) → t < p.tiles → k < p.size t → p.tile (p.place t k) ≡ t
  -- and that is where it stands in it
  pub its_position : (t k : ℕ) → t < p.tiles → k < p.size t → p.position (p.place t k) ≡ k
  -- the tiles before the offset of a wave lie in earlier waves
  pub early : (w t : ℕ) → t < p.tiles → t < p.offset w → p.wave t < w
  -- those from the offset on do not
  pub late : (w t : ℕ) → t < p.tiles → p.offset w ≤ t → w ≤ p.wave t
  -- a place writes a cell of the plan
  pub written : (j : ℕ) → j < p.places → p.written j < p.cells
  -- and reads cells of the plan
  pub read : (j c : ℕ) → j < p.places → In c (p.read j) → c < p.cells
  -- counters, where there are any, count what their tiles wait for
  pub gate : IsGated p.gate p

-- what a cell holds where certain places are done, those below n that the test tells: the value that the greatest of
-- them which writes the cell stores, or what it held at first and what they add to it
abbrev pub words_of : Plan → (ℕ → Bool) → ℕ → ℕ → ℕ
words_of p done zero c = p.initial c
words_of p done (suc n) c =
    if done n && nat_eq (p.written n) c
    then updated (p.adds c) (words_of p done n c) (stored p n)
    else words_of p done n c
