-- The text of arrays: a line for each, in declared order. It is a data line again.
use Rattle.std.specs.Prelude.{ℕ, List, [], ◌∷◌, ◌++◌, map, codes, decimal}
use Rattle.scop_syntax.specs.Tree.{Program}

-- a space and the decimal of a cell
abbrev pub cell_text : ℕ → List ℕ
cell_text cell = codes " " ++ decimal cell

-- a space and the decimal of each cell
abbrev pub cells_text : List ℕ → List ℕ
cells_text [] = []
cells_text (cell ∷ cells) = cell_text cell ++ cells_text cells

-- `NAME = V0 V1 ..`, without its line feed
abbrev pub row_text : List ℕ → List ℕ → List ℕ
row_text name cells = (name ++ codes " =") ++ cells_text cells

-- a line for each array
abbrev pub rows_text : List (List ℕ) → List (List ℕ) → List ℕ
rows_text (name ∷ names) (cells ∷ arrays) = (row_text name cells ++ codes "\n") ++ rows_text names arrays
rows_text (name ∷ names) [] = []
rows_text [] arrays = []

-- the text of a kernel's arrays
abbrev pub array_text : Program → List (List ℕ) → List ℕ
array_text program arrays = rows_text (map (λ d. d.name) program.arrays) arrays
