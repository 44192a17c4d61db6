-- The items of a schedule, grouped by bands, and their values at instances.
use Rattle.std.specs.Prelude.{ℕ, ℤ, pos, ◌+ℤ◌, List, [], ◌∷◌, ◌++◌, slice_index_or, Bool}
use Rattle.std.specs.List.{flat_map}
use Rattle.whole_numbers.specs.Lists.{dot}
use Rattle.scop_syntax.specs.Walk.{Instance}
use Rattle.stmt_graph.specs.Graph.{number_in}
use Rattle.farkas.specs.Unknowns.{Part, part_numbers}

-- a row: the bound u.n + w of its distances, and each statement's part
pub record Row : Type 0 where
  pub u : List ℤ
  pub w : ℤ
  pub parts : List Part

-- a statement's part, an empty one where the row has none
abbrev pub part_of : Row → ℕ → Part
part_of r s = slice_index_or r.parts s (record { coefficients = []; shift = pos 0 })

-- phi of the row at an instance
abbrev pub phi : Row → Instance → ℤ
phi r x = dot (part_of r x.number).coefficients x.turns +ℤ (part_of r x.number).shift

-- a row's numbers in the objective's order: u, w, then by statement the coefficients from the innermost, the shift
abbrev pub numbers_of : Row → List ℤ
numbers_of r = r.u ++ r.w ∷ flat_map part_numbers r.parts

-- a row with its mark
pub record Marked : Type 0 where
  pub row : Row
  pub parallel : Bool

-- a scalar item, a number for each statement, or the rows of a band
pub data Block : Type 0 where
  scalar : List ℕ → Block
  band : List Marked → Block

-- the values of a band's rows
abbrev pub band_values : List Marked → Instance → List ℤ
band_values [] x = []
band_values (m ∷ ms) x = phi m.row x ∷ band_values ms x

-- the item values of an instance
abbrev pub values : List Block → Instance → List ℤ
values [] x = []
values (scalar numbers ∷ bs) x = pos (number_in numbers x.number) ∷ values bs x
values (band ms ∷ bs) x = band_values ms x ++ values bs x

-- all rows, in order
abbrev pub band_rows : List Marked → List Row
band_rows [] = []
band_rows (m ∷ ms) = m.row ∷ band_rows ms

-- the rows of all bands, in order
abbrev pub rows_in : List Block → List Row
rows_in [] = []
rows_in (scalar numbers ∷ bs) = rows_in bs
rows_in (band ms ∷ bs) = band_rows ms ++ rows_in bs

-- an open band is closed: one without rows leaves nothing
abbrev pub closed_by : List Block → List Marked → List Block
closed_by bs [] = bs
closed_by bs (m ∷ ms) = bs ++ band (m ∷ ms) ∷ []
