-- No name is declared where it is in scope already: parameters and arrays of a program have names of their own, and the
-- iterator of a loop another than they and the loops round it.
use Rattle.std.specs.Prelude.{◌≡◌, ◌≢◌, ℕ, List, [], ◌∷◌, ◌++◌, map, slice_get, Some, ⊤}
use Rattle.scop_lexer.specs.Bytes.{Text}
use Rattle.scop_lexer.specs.Words.{IsName}
use Rattle.scop_expressions.specs.Token.{Token}
use Rattle.scop_expressions.specs.Token.TheVariants.{Name}
use Rattle.scop_syntax.specs.Members.{In, Sorted}
use Rattle.scop_syntax.specs.Tree.{Tree, loop, guard, statement, Trees, none, more, Declaration, Program}
use Rattle.scop_units.specs.Words.{Words}

-- no two of the names are the same
abbrev pub AreDistinct : List Text → Type 0
AreDistinct names = Sorted (λ (v w : Text). v ≢ w) names

abbrev mutual
  -- each loop takes a name that is not among these, nor among those of the loops round it
  pub TakesFresh : List Text → Tree → Type 0
  TakesFresh names (loop head body) = (In head.iterator names → ⊥) × TakeFresh (names ++ head.iterator ∷ []) body
  TakesFresh names (guard tests body) = TakeFresh names body
  TakesFresh names (statement s) = ⊤

  -- so it is in each of these trees
  pub TakeFresh : List Text → Trees → Type 0
  TakeFresh names none = ⊤
  TakeFresh names (more t ts) = TakesFresh names t × TakeFresh names ts

-- the names of the header
abbrev pub header_names : Program → List Text
header_names program = program.parameters ++ map (λ (d : Declaration). d.name) program.arrays

-- the names of the header are distinct, and each loop takes a fresh one
pub record HasDistinctNames (program : Program) : Type 0 where
  pub header : AreDistinct (header_names program)
  pub loops : TakeFresh (header_names program) program.body

-- where the tokens have a name, the words spell one
abbrev pub SpellNames : Words → List Token → Type 0
SpellNames words ts = (at : ℕ) → slice_get ts at ≡ Some Name → IsName (words.spelling at)
