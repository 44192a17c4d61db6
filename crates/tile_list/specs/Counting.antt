-- How many values a function has on the elements of a list, and so how many tiles and waves have some of these instances.
use Rattle.std.specs.Prelude.{◌≡◌, ℕ, ℤ, List, length, slice_get, Some}
use Rattle.scop_syntax.specs.Members.{In}
use Rattle.scop_syntax.specs.Walk.{Instance}
use Rattle.loop_tree.specs.Tiling.{Tiling, tile_of, wave_of}

-- the function has exactly so many different values on the elements of the list
pub record HasValues {A K : Type 0} (f : A → K) (xs : List A) (n : ℕ) : Type 0 where
  pub values : List K
  pub count : length values ≡ n
  pub apart : (i j : ℕ) (v : K) → slice_get values i ≡ Some v → slice_get values j ≡ Some v → i ≡ j
  pub all : (x : A) → In x xs → In (f x) values
  pub some : (v : K) → In v values → (x : A) × In x xs × (f x ≡ v)

-- so many tiles hold one of these instances
abbrev pub HasTiles : Tiling → List Instance → ℕ → Type 0
HasTiles tiling xs n = HasValues {K = List ℤ × List ℤ} (λ x. (wave_of tiling x, tile_of tiling x)) xs n

-- so many waves hold such a tile
abbrev pub HasWaves : Tiling → List Instance → ℕ → Type 0
HasWaves tiling xs n = HasValues (wave_of tiling) xs n
