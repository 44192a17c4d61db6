-- The cells that a statement touches, and when two instances conflict.
use Rattle.std.specs.Prelude.{◌≡◌, ℕ, ◌<◌, ℤ, List, [], ◌∷◌, ◌++◌, map, slice_get, Option, Some, option_and_then, ◌⊎◌}
use Rattle.std.specs.Option.{option_map}
use Rattle.whole_numbers.specs.Affine.{Affine, value_of}
use Rattle.scop_syntax.specs.Tree.{Access, Expression, read, constant, affine, negated, complemented, cast, binary}
use Rattle.scop_syntax.specs.Tree.{shifted_left, shifted_right, narrowed, Right, assigned, combined, moved_left}
use Rattle.scop_syntax.specs.Tree.{moved_right, combined_narrow, moved_left_narrow, Statement}
use Rattle.scop_syntax.specs.Walk.{Visit}

-- what an expression reads, from left to right
abbrev pub reads_of : Expression → List Access
reads_of (read access) = access ∷ []
reads_of (constant c) = []
reads_of (affine form) = []
reads_of (negated e) = reads_of e
reads_of (complemented e) = reads_of e
reads_of (cast e) = reads_of e
reads_of (binary op e f) = reads_of e ++ reads_of f
reads_of (shifted_left e k) = reads_of e
reads_of (shifted_right e k) = reads_of e
reads_of (narrowed w e) = reads_of e

-- what a statement with this place reads: place op= value reads its place first (C17 6.5.16.2p3)
abbrev pub reads_with : Access → Right → List Access
reads_with place (assigned e) = reads_of e
reads_with place (combined op e) = place ∷ reads_of e
reads_with place (moved_left k) = place ∷ []
reads_with place (moved_right k) = place ∷ []
reads_with place (combined_narrow op e) = place ∷ reads_of e
reads_with place (moved_left_narrow k) = place ∷ []

-- what a statement reads, in the order of the text
abbrev pub reads : Statement → List Access
reads s = reads_with s.place s.right

-- the accesses of a statement: access 0 is the place written, the reads are numbered from 1
abbrev pub accesses : Statement → List Access
accesses s = s.place ∷ reads s

-- a cell: an array's number with a value for each subscript
pub record Cell : Type 0 where
  pub array : ℕ
  pub subscripts : List ℤ

-- the values of forms at a point
abbrev pub values : List Affine → List ℤ → List ℤ
values forms point = map (λ form. value_of form point) forms

-- the cell of an access at a point
abbrev pub cell_of : Access → List ℤ → Cell
cell_of access point = record { array = access.array; subscripts = values access.subscripts point }

-- the cell that a visit writes
abbrev pub written : Visit → Cell
written v = cell_of v.body.place v.point

-- the cells that a visit reads, in the order of the text
abbrev pub cells_read : Visit → List Cell
cells_read v = map (λ access. cell_of access v.point) (reads v.body)

-- the cell that access a of the visit at place j touches
abbrev pub cell_at : List Visit → ℕ → ℕ → Option Cell
cell_at visits j a =
    option_and_then (λ v. option_map (λ access. cell_of access v.point) (slice_get (accesses v.body) a))
    (slice_get visits j)

-- one of the two accesses writes
abbrev pub OneWrites : ℕ → ℕ → Type 0
OneWrites a b = (a ≡ 0) ⊎ (b ≡ 0)

-- access a of the instance v and access b of the instance w touch one cell, and one of them writes it
pub record Conflict (v : Visit) (a : ℕ) (w : Visit) (b : ℕ) : Type 0 where
  pub first : Access
  pub second : Access
  pub is_first : slice_get (accesses v.body) a ≡ Some first
  pub is_second : slice_get (accesses w.body) b ≡ Some second
  pub writes : OneWrites a b
  pub cell : cell_of first v.point ≡ cell_of second w.point

-- of two places the earlier touches a cell that the later touches, and one of the two writes it
pub record PlacesConflict (visits : List Visit) (i j : ℕ) : Type 0 where
  pub earlier : Visit
  pub later : Visit
  pub first : ℕ
  pub second : ℕ
  pub order : i < j
  pub is_earlier : slice_get visits i ≡ Some earlier
  pub is_later : slice_get visits j ≡ Some later
  pub conflict : Conflict earlier first later second

-- the cell that both touch
abbrev pub conflict_cell : {visits : List Visit} {i j : ℕ} → PlacesConflict visits i j → Cell
conflict_cell p = cell_of p.conflict.first p.earlier.point
