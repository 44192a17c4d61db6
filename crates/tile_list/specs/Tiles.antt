-- The tiles of instances that rise by tile: those of one wave and one tile, one behind another, and the numbers of their
-- waves (U. Bondhugula and others, "A practical automatic polyhedral parallelizer and locality optimizer", PLDI 2008).
use Rattle.std.specs.Prelude.{◌≡◌, ◌⊎◌, ℕ, suc, ◌<◌, ◌≤◌, max, List, [], ◌∷◌, ◌++◌, length, slice_get, Some, take}
use Rattle.std.specs.Prelude.{All, FitsSigned, ⊤}
use Rattle.std.specs.Int.{w64}
use Rattle.whole_numbers.specs.Affine.{value_of}
use Rattle.whole_numbers.specs.Lexicographic.{LexLess}
use Rattle.scop_syntax.specs.Members.{In, Sorted}
use Rattle.scop_syntax.specs.Walk.{Instance}
use Rattle.loop_tree.specs.Tiling.{Tiling, kept, tiled, items_at, tile_of, wave_of}

-- they lie in one tile of one wave
pub record InOneTile (tiling : Tiling) (x y : Instance) : Type 0 where
  pub wave : wave_of tiling x ≡ wave_of tiling y
  pub tile : tile_of tiling x ≡ tile_of tiling y

-- the tile of x comes before that of y: by wave, then by coordinates
abbrev pub TileBefore : Tiling → Instance → Instance → Type 0
TileBefore tiling x y =
    LexLess (wave_of tiling x) (wave_of tiling y)
    ⊎ ((wave_of tiling x ≡ wave_of tiling y) × LexLess (tile_of tiling x) (tile_of tiling y))

-- instances rise by wave, then by the coordinates of their tiles
abbrev pub RiseByTile : Tiling → List Instance → Type 0
RiseByTile tiling xs = Sorted (λ x y. InOneTile tiling x y ⊎ TileBefore tiling x y) xs

-- their waves have one length, and so have their tiles
abbrev pub HaveOneLength : Tiling → List Instance → Type 0
HaveOneLength tiling xs =
    (x y : Instance) → In x xs → In y xs
    → (length (wave_of tiling x) ≡ length (wave_of tiling y)) × (length (tile_of tiling x) ≡ length (tile_of tiling y))

-- parts, one behind another
abbrev pub joined : List (List Instance) → List Instance
joined [] = []
joined (p ∷ ps) = p ++ joined ps

-- each instance of one part lies in a tile before that of each instance of the other
abbrev pub PartBefore : Tiling → List Instance → List Instance → Type 0
PartBefore tiling p q = (x y : Instance) → In x p → In y q → TileBefore tiling x y

-- the tiles that hold one of these instances, in order, each with those that it holds
pub record AreTiles (tiling : Tiling) (xs : List Instance) (parts : List (List Instance)) : Type 0 where
  pub all : joined parts ≡ xs
  pub some : (p : List Instance) → In p parts → 1 ≤ length p
  pub one : (p : List Instance) → In p parts → (x y : Instance) → In x p → In y p → InOneTile tiling x y
  pub rise : Sorted (PartBefore tiling) parts

-- how many instances stand before part t
abbrev pub start_of : List (List Instance) → ℕ → ℕ
start_of parts t = length (joined (take t parts))

-- the wave of y, an instance of the next tile, has the number of x's where it is the same, else one more
abbrev pub IsNextWave : Tiling → Instance → ℕ → Instance → ℕ → Type 0
IsNextWave tiling x m y n =
    ((wave_of tiling x ≡ wave_of tiling y) × (n ≡ m))
    ⊎ (LexLess (wave_of tiling x) (wave_of tiling y) × (n ≡ suc m))

-- the numbers of the waves behind x, whose wave has number m
abbrev pub AreNextWaves : Tiling → Instance → ℕ → List Instance → List ℕ → Type 0
AreNextWaves tiling x m [] [] = ⊤
AreNextWaves tiling x m [] (n ∷ ns) = ⊥
AreNextWaves tiling x m (y ∷ ys) [] = ⊥
AreNextWaves tiling x m (y ∷ ys) (n ∷ ns) = IsNextWave tiling x m y n × AreNextWaves tiling y n ys ns

-- the numbers of the waves of instances, the first of each tile, from 0
abbrev pub AreWaves : Tiling → List Instance → List ℕ → Type 0
AreWaves tiling [] [] = ⊤
AreWaves tiling [] (n ∷ ns) = ⊥
AreWaves tiling (x ∷ xs) [] = ⊥
AreWaves tiling (x ∷ xs) (n ∷ ns) = (n ≡ 0) × AreNextWaves tiling x n xs ns

-- how many waves there are
abbrev pub waves_in : List ℕ → ℕ
waves_in [] = 0
waves_in (n ∷ ns) = max (suc n) (waves_in ns)

-- the first k tiles are those of the waves before wave w
pub record IsOffset (numbers : List ℕ) (w k : ℕ) : Type 0 where
  pub few : k ≤ length numbers
  pub before : (t n : ℕ) → t < k → slice_get numbers t ≡ Some n → n < w
  pub behind : (t n : ℕ) → k ≤ t → slice_get numbers t ≡ Some n → w ≤ n

-- the offsets of all waves, and behind them the number of tiles
pub record AreOffsets (numbers offsets : List ℕ) : Type 0 where
  pub count : length offsets ≡ suc (waves_in numbers)
  pub are : (w k : ℕ) → slice_get offsets w ≡ Some k → IsOffset numbers w k

-- tiles have a size
abbrev pub HasSize : Tiling → Type 0
HasSize kept = ⊤
HasSize (tiled size statements) = 1 ≤ size

-- the values of the first band's rows at an instance have 64 bits
abbrev pub RowsFit : Tiling → Instance → Type 0
RowsFit kept x = ⊤
RowsFit (tiled size statements) x =
    All (λ r. FitsSigned w64 (value_of r.form x.turns)) (items_at statements x.number).band

-- the tiles of these instances can be told in code
pub record CanTile (tiling : Tiling) (xs : List Instance) : Type 0 where
  pub size : HasSize tiling
  pub rows : (x : Instance) → In x xs → RowsFit tiling x
