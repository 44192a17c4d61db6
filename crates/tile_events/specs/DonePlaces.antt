-- Which of the visits that are done writes a cell last.
use Rattle.std.specs.Prelude.{◌≡◌, ◌≢◌, ℕ, ◌<◌, Bool, true, List, slice_get, Some}
use Rattle.scop_syntax.specs.Cells.{Cell, written}
use Rattle.scop_syntax.specs.Walk.{Visit}

-- visit i is done and writes the cell, and no done one behind it does
pub record IsLastWriter (visits : List Visit) (done : ℕ → Bool) (c : Cell) (i : ℕ) (v : Visit) : Type 0 where
  pub there : slice_get visits i ≡ Some v
  pub over : done i ≡ true
  pub writes : written v ≡ c
  pub last : (j : ℕ) (w : Visit) → i < j → slice_get visits j ≡ Some w → done j ≡ true → written w ≢ c

-- none that is done writes the cell
abbrev pub HasNoWriter : List Visit → (ℕ → Bool) → Cell → Type 0
HasNoWriter visits done c = (j : ℕ) (w : Visit) → slice_get visits j ≡ Some w → done j ≡ true → written w ≢ c
