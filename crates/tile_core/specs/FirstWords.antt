-- The words of a run at first, seen as the cells that stand in them.
use Rattle.std.specs.Prelude.{ℕ, List}

pub record FirstCells : Type 0 where
  pub items : List ℕ
