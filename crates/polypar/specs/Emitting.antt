-- What `emit` tells of a kernel: the loops of its tiled schedule, or its own loops and why their order is kept.
use Rattle.std.specs.Prelude.{◌≡◌, ℕ, false, [], Some}
use Rattle.scop_syntax.specs.Tree.{Program}
use Rattle.loop_tree.specs.Tiling.{Tiling}
use Rattle.loop_tree.specs.Tree.{Trees}
use Rattle.c_printer.specs.Nodes.{text_of}
use Rattle.c_printer.specs.Reading.{read_text}
use Rattle.plan_search.specs.Planned.{ArePlanned}
use Rattle.polypar.specs.Told.{Told}

-- `out` has the text of loop trees that for all parameters in 0..=65536 carry out the plan, tiled or kept; `err` the
-- line of a kept order, if it is kept
pub record IsLoopsText (tile budget : ℕ) (program : Program) (told : Told) : Type 0 where
  pub plan : Tiling
  pub trees : Trees
  pub planned : ArePlanned tile budget false [] program plan told.lines trees
  pub text : told.text ≡ text_of program trees

-- the same of what is read: the text is read as such trees
pub record ReadsAsLoops (tile budget : ℕ) (program : Program) (told : Told) : Type 0 where
  pub plan : Tiling
  pub trees : Trees
  pub planned : ArePlanned tile budget false [] program plan told.lines trees
  pub read : read_text program told.text ≡ Some trees
