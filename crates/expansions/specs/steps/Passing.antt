-- A pass over the places of a walk.
use Rattle.std.specs.Prelude.{◌≡◌, ◌≤◌, ◌<◌, ℕ, ℤ, List, length, map, drop, slice_get, Option, Some, None}
use Rattle.scop_syntax.specs.Execution.{IsInside, layout}
use Rattle.scop_syntax.specs.Limits.{WithinLimits}
use Rattle.scop_syntax.specs.Tree.{Program}
use Rattle.scop_syntax.specs.Walk.{Instance, instance, walk_of}
use Rattle.tile_table.specs.Tables.{IsTableOf}
use Rattle.tile_table.specs.declared.table.Row.{Row}
use Rattle.tile_table.specs.declared.table.Table.{Table}
use Rattle.expansions.specs.Expansions.{AreSourcesOf}
use Rattle.expansions.specs.steps.Marks.{AreKept}
use Rattle.expansions.specs.declared.sourcing.Pass.{Pass}
use Rattle.expansions.specs.declared.sourcing.Sources.{Sources}

-- none of these rows reads more than that
abbrev pub ReadFew : List Row → ℕ → Type 0
ReadFew rows most = (k : ℕ) (row : Row) → slice_get rows k ≡ Some row → row.code.reads ≤ most

-- what a pass asks of a kernel and its table
pub record CanPass (program : Program) (params : List ℤ) (table : Table) : Type 0 where
  pub limits : WithinLimits program params
  pub inside : IsInside program params
  pub told : IsTableOf program params table
  pub few : length (walk_of program params) ≤ 4194304

-- these instances are left of the walk
pub record IsOnItsWay (program : Program) (params : List ℤ) (most : ℕ) (rest : List Instance) (pass : Pass)
    : Type 0 where
  pub left : rest ≡ drop pass.place (map instance (walk_of program params))
  pub within : pass.place ≤ length (walk_of program params)
  pub kept : AreKept (layout program params) (walk_of program params) most pass.place pass.marks.items
      pass.numbers.items

-- sources, or there are more than 2^22 places
abbrev pub AreSourcesIfFew : Program → List ℤ → Option Sources → Type 0
AreSourcesIfFew program params None = 4194304 < length (walk_of program params)
AreSourcesIfFew program params (Some s) = AreSourcesOf program params s
