-- What `deps` prints of a kernel: where the value of each read comes from.
use Rattle.std.specs.Prelude.{◌≡◌, ℕ, suc, ℤ, List, ◌++◌, Option, Some, slice_get, ⊤}
use Rattle.quast_trees.specs.Postfix.{tree_of}
use Rattle.quast_trees.specs.Value.{value}
use Rattle.scop_syntax.specs.Cells.{Cell}
use Rattle.scop_syntax.specs.Limits.{HasParameters}
use Rattle.scop_syntax.specs.Tree.{Program}
use Rattle.scop_syntax.specs.Walk.{Visit, walk_of}
use Rattle.scop_syntax.specs.Writers.{last_writer}
use Rattle.iteration_domains.specs.Model.{model_of}
use Rattle.plan_search.specs.Pairs.{TouchesAt}
use Rattle.plan_search.specs.ReadSources.{reads_of, AreSources, NameLastWriters}
use Rattle.plan_search.specs.Places.{Names}
use Rattle.plan_search.specs.Way.TheVariants.{Later}
use Rattle.plan_search.specs.Told.{AreTold}
use Rattle.plan_search.specs.ReadSource.{ReadSource}
use Rattle.plan_search.specs.ReadSource.TheVariants as source
use Rattle.plan_search.specs.DepsText.{deps_text}

-- the text is that of the sources of the program's reads, by statement and read: each is the end of the run over the
-- read's candidates, each of which may make so many moves, where it is resolved it names the last writers, and it is
-- made of what its text tells
pub record IsSourcesText (budget : ℕ) (program : Program) (text : List ℕ) : Type 0 where
  pub sources : List ReadSource
  pub run : AreSources Later (model_of program) budget (reads_of (model_of program)) sources
  pub last : NameLastWriters (model_of program) sources
  pub made : AreTold (model_of program) (reads_of (model_of program)) sources
  pub told : text ≡ deps_text program sources

-- the source of this read of a statement, which stands at the read's place among all
abbrev pub IsSourceAt : Program → List ReadSource → ℕ → ℕ → ReadSource → Type 0
IsSourceAt program sources number access from =
    (k : ℕ) × (slice_get (reads_of (model_of program)) k ≡ Some (number, access)) × (slice_get sources k ≡ Some from)

-- where the source is resolved, it names this place of the walk at the point, or with no place the initial value
abbrev pub NamesIfResolved : ReadSource → List Visit → List ℤ → Option ℕ → Type 0
NamesIfResolved (source.Resolved quast) visits point last = Names visits (value (tree_of quast) point) last
NamesIfResolved (source.Unresolved told) visits point last = ⊤

-- the same in one breath: the text is that of sources such that for all parameters in 0..=65536 each read of each walked
-- instance has one of them, and where this is resolved, it names there the last write before the instance to the cell
-- that is read
pub record TellsLastWrites (program : Program) (text : List ℕ) : Type 0 where
  pub sources : List ReadSource
  pub told : text ≡ deps_text program sources
  pub last : (params : List ℤ) (j : ℕ) (w : Visit) (read : ℕ) (c : Cell) → HasParameters program params
      → TouchesAt program params j w (suc read) c
      → (from : ReadSource) × IsSourceAt program sources w.number (suc read) from
      × NamesIfResolved from (walk_of program params) (params ++ w.turns) (last_writer (walk_of program params) j c)
