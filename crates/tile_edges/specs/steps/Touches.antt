-- What the code keeps of each cell.
use Rattle.std.specs.Prelude.{◌≡◌, ◌⊎◌, ℕ, ◌<◌, ◌≤◌, List, [], length, map, get_or}
use Rattle.scop_syntax.specs.Members.{In}
use Rattle.tile_edges.specs.declared.touching.Traces.{Traces}

-- the marks of cells
abbrev pub marks_in : Traces → List ℕ
marks_in traces = traces.marks.items

-- the tiles of their readers
abbrev pub readers_in : Traces → List (List ℕ)
readers_in traces = map (λ list. list.items) traces.readers.items

-- there are lists for as many cells as there are marks
abbrev pub AreEven : Traces → Type 0
AreEven traces = length traces.readers.items ≡ length traces.marks.items

-- the cells have a mark
abbrev pub HasRoom : List ℕ → Traces → Type 0
HasRoom cells traces = (c : ℕ) → In c cells → c < length traces.marks.items

-- the same is kept of each cell
pub record KeepSame (old new : Traces) : Type 0 where
  pub mark : (c : ℕ) → get_or (marks_in new) c 0 ≡ get_or (marks_in old) c 0
  pub readers : (c : ℕ) → get_or (readers_in new) c [] ≡ get_or (readers_in old) c []
  pub long : length old.marks.items ≤ length new.marks.items

-- a list gains a tile
pub record HasTile (u : ℕ) (old new : List ℕ) : Type 0 where
  pub found : (t : ℕ) → In t new → In t old ⊎ (t ≡ u)
  pub kept : (t : ℕ) → In t old → In t new
  pub there : In u new

-- the tile has come to the readers of cells
pub record HasEntered (u : ℕ) (cs : List ℕ) (old new : List (List ℕ)) : Type 0 where
  pub long : length new ≡ length old
  pub found : (c t : ℕ) → In t (get_or new c []) → In t (get_or old c []) ⊎ (In c cs × (t ≡ u))
  pub kept : (c t : ℕ) → In t (get_or old c []) → In t (get_or new c [])
  pub there : (c : ℕ) → In c cs → In u (get_or new c [])
