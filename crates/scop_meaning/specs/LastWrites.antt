-- What stands in a cell by its last writer (Feautrier 1991).
use Rattle.std.specs.Prelude.{ℕ, ℤ, List, length}
use Rattle.scop_syntax.specs.Tree.{Program}
use Rattle.scop_syntax.specs.Walk.{walk_of}
use Rattle.scop_syntax.specs.Cells.{Cell}
use Rattle.scop_syntax.specs.Execution.{layout}
use Rattle.scop_syntax.specs.Writers.{last_writer, left_by}

-- what the cell's last writer before place j of the walk stores in it, initially what stood there
abbrev pub left_before : Program → List ℤ → List (List ℕ) → ℕ → Cell → ℕ
left_before program params contents j cell =
    left_by (layout program params) contents (walk_of program params) cell
    (last_writer (walk_of program params) j cell)

-- the same of its last writer in the whole walk
abbrev pub left_at_the_end : Program → List ℤ → List (List ℕ) → Cell → ℕ
left_at_the_end program params contents cell =
    left_before program params contents (length (walk_of program params)) cell
