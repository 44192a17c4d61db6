-- The forms of a leaf, and the source that it is an instance of.
use Rattle.std.specs.Prelude.{ℕ, List, Option, Some, None}
use Rattle.whole_numbers.specs.Affine.{Affine}
use Rattle.quast_trees.specs.declared.node.Source.{Source as Held}

-- what a leaf is an instance of: a statement, and the numbers of the loops round it
pub record Source : Type 0 where
  pub statement : ℕ
  pub loops : List ℕ

-- the source of these parts
abbrev pub source_of : ℕ → List ℕ → Source
source_of statement loops = record { statement = statement; loops = loops }

-- the source that a value of the program holds, if it does
abbrev pub source_held : Option Held → Option Source
source_held None = None
source_held (Some s) = Some (source_of s.statement s.loops.items)

-- a leaf's forms, over as many variables as stand at the leaf, and what it is an instance of, where that is known
pub record Forms : Type 0 where
  pub source : Option Source
  pub variables : ℕ
  pub forms : List Affine

-- forms without a source
abbrev pub unnamed : ℕ → List Affine → Forms
unnamed variables forms = record { source = None; variables = variables; forms = forms }

-- the forms as those of an instance of a source
abbrev pub with_source : Source → Forms → Forms
with_source s l = record { source = Some s; variables = l.variables; forms = l.forms }
