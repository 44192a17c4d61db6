-- The visit of an instance, extents of arrays, and how many values a right side reads.
use Rattle.std.specs.Prelude.{◌≡◌, ℕ, suc, ◌≤◌, ◌^◌, ℤ, All, List, length}
use Rattle.scop_syntax.specs.Tree.{Program, Right, assigned, combined, moved_left, moved_right, combined_narrow}
use Rattle.scop_syntax.specs.Tree.{moved_left_narrow}
use Rattle.scop_syntax.specs.Cells.{reads_of}
use Rattle.scop_syntax.specs.Members.{In}
use Rattle.scop_syntax.specs.Execution.{total_cells}
use Rattle.scop_syntax.specs.Walk.{Visit, Instance, instance, walk_of}

-- v is the visit of the program's walk that has these numbers
pub record IsVisitOf (program : Program) (params : List ℤ) (i : Instance) (v : Visit) : Type 0 where
  pub walked : In v (walk_of program params)
  pub same : instance v ≡ i

-- extents of arrays that have at most 2^22 cells in all
pub record AreLayout (extents : List (List ℕ)) : Type 0 where
  pub sizes : All (λ e. All (λ n. (1 ≤ n) × (n ≤ 2 ^ 22)) e) extents
  pub total : total_cells extents ≤ 2 ^ 22

-- how many values read a right side wants
abbrev pub values_wanted : Right → ℕ
values_wanted (assigned e) = length (reads_of e)
values_wanted (combined op e) = suc (length (reads_of e))
values_wanted (moved_left k) = 1
values_wanted (moved_right k) = 1
values_wanted (combined_narrow op e) = suc (length (reads_of e))
values_wanted (moved_left_narrow k) = 1
