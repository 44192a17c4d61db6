-- The last writer of a cell before a place (Feautrier 1991), the next one behind it, and what a cell holds by the last.
use Rattle.std.specs.Prelude.{◌≡◌, ◌<◌, ℕ, zero, suc, Bool, true, false, ℤ, List, [], ◌∷◌, slice_get, Option, Some}
use Rattle.std.specs.Prelude.{None, option_and_then, nat_eq, if◌then◌else◌, drop}
use Rattle.std.specs.Int.Signed.{le_z}
use Rattle.scop_syntax.specs.Walk.{Visit}
use Rattle.scop_syntax.specs.Cells.{Cell, cell_at, written}
use Rattle.scop_syntax.specs.Execution.{held, value_stored_at}

-- whether two lists of numbers are one
abbrev pub same_numbers : List ℤ → List ℤ → Bool
same_numbers [] [] = true
same_numbers [] (y ∷ ys) = false
same_numbers (x ∷ xs) [] = false
same_numbers (x ∷ xs) (y ∷ ys) =
    if le_z x y then (if le_z y x then same_numbers xs ys else false) else false

-- whether two cells are one
abbrev pub same_cell : Cell → Cell → Bool
same_cell c d = if nat_eq c.array d.array then same_numbers c.subscripts d.subscripts else false

-- whether the visit, if there is one, writes the cell
abbrev pub writes : Option Visit → Cell → Bool
writes None c = false
writes (Some v) c = same_cell (written v) c

-- the greatest place before j that writes the cell
abbrev pub last_writer : List Visit → ℕ → Cell → Option ℕ
last_writer visits zero c = None
last_writer visits (suc j) c = if writes (slice_get visits j) c then Some j else last_writer visits j c

-- what a writer has left in the cell, initially what stood there
abbrev pub left_by : List (List ℕ) → List (List ℕ) → List Visit → Cell → Option ℕ → ℕ
left_by extents contents visits c None = held extents contents c
left_by extents contents visits c (Some i) = value_stored_at extents contents visits i

-- i is the greatest place before j that writes the cell
pub record IsLast (visits : List Visit) (j : ℕ) (c : Cell) (i : ℕ) : Type 0 where
  pub before : i < j
  pub wrote : writes (slice_get visits i) c ≡ true
  pub latest : (k : ℕ) → i < k → k < j → writes (slice_get visits k) c ≡ false

-- the first of these visits that writes the cell, where the first of them stands at place k
abbrev pub first_writer : ℕ → List Visit → Cell → Option ℕ
first_writer k [] c = None
first_writer k (v ∷ vs) c = if same_cell (written v) c then Some k else first_writer (suc k) vs c

-- the least place behind j that writes the cell
abbrev pub next_writer : List Visit → ℕ → Cell → Option ℕ
next_writer visits j c = first_writer (suc j) (drop (suc j) visits) c

-- k is the least place behind j that writes the cell
pub record IsNext (visits : List Visit) (j : ℕ) (c : Cell) (k : ℕ) : Type 0 where
  pub behind : j < k
  pub wrote : writes (slice_get visits k) c ≡ true
  pub soonest : (i : ℕ) → j < i → i < k → writes (slice_get visits i) c ≡ false

-- the last writer, before place j, of the cell that access a there touches
abbrev pub last_of : List Visit → ℕ → ℕ → Option ℕ
last_of visits j a = option_and_then (last_writer visits j) (cell_at visits j a)

-- the next writer, behind place j, of the cell that access a there touches
abbrev pub next_of : List Visit → ℕ → ℕ → Option ℕ
next_of visits j a = option_and_then (next_writer visits j) (cell_at visits j a)
