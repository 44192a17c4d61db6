-- The wave and the tile that the code's key stands for.
use Rattle.std.specs.Prelude.{◌≡◌, ℕ, ℤ, pos, ◌+ℤ◌, List, [], ◌∷◌, if◌then◌else◌, ⊤}
use Rattle.scop_syntax.specs.Walk.{Instance}
use Rattle.loop_tree.specs.Tiling.{TileRow, Tiling, kept, tiled, coordinates, items_at, wave_sum}
use Rattle.tile_list.specs.declared.keys.Key.{Key}

-- the sum of the coordinates of the rows that carry
abbrev pub carried : List TileRow → List ℤ → ℤ
carried [] cs = pos 0
carried (r ∷ rs) [] = pos 0
carried (r ∷ rs) (c ∷ cs) = (if r.carries then c else pos 0) +ℤ carried rs cs

-- the key of a statement's turns, by its leading scalars and the rows of its first band
pub record IsKeyAt (size : ℕ) (scalars : List ℕ) (rows : List TileRow) (turns : List ℤ) (key : Key) : Type 0 where
  pub leading : key.leading.items ≡ scalars
  pub sum : key.sum ≡ wave_sum (pos size) rows turns
  pub tile : key.tile.items ≡ coordinates (pos size) rows turns

-- the key of an instance; in a kept order each has any
abbrev pub IsKeyOf : Tiling → Instance → Key → Type 0
IsKeyOf kept x key = ⊤
IsKeyOf (tiled size statements) x key =
    IsKeyAt size (items_at statements x.number).leading (items_at statements x.number).band x.turns key

-- their waves are one
pub record HaveOneWave (k j : Key) : Type 0 where
  pub leading : k.leading.items ≡ j.leading.items
  pub sum : k.sum ≡ j.sum
