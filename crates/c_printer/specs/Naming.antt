-- Kernels whose names are words, each its own, and leave the names of emitted loops free.
use Rattle.std.specs.Prelude.{◌≡◌, List, [], ◌∷◌, ◌++◌, codes, None, ⊤}
use Rattle.scop_lexer.specs.Bytes.{Text}
use Rattle.scop_syntax.specs.Tree.{Head, Tree, loop, guard, statement, Trees, none, more, Program}
use Rattle.form_text.specs.Names.{IsVariableName, IsFresh, AreNames}
use Rattle.form_text.specs.Reading.{strip}

-- the source iterators of loops
abbrev pub iterators_of : List Head → List Text
iterators_of [] = []
iterators_of (head ∷ heads) = head.iterator ∷ iterators_of heads

-- `pp_` does not stand in front
abbrev pub IsFree : Text → Type 0
IsFree name = strip (codes "pp_") name ≡ None

-- so it is of each of these
abbrev pub AreFree : List Text → Type 0
AreFree [] = ⊤
AreFree (name ∷ names) = IsFree name × AreFree names

abbrev mutual
  -- each loop takes a word that does not begin with `pp_` and is none of these names, nor of those of loops round it
  pub TakesWords : List Text → Tree → Type 0
  TakesWords names (loop head body) =
      IsVariableName head.iterator × IsFree head.iterator × IsFresh head.iterator names
      × TakeWords (names ++ (head.iterator ∷ [])) body
  TakesWords names (guard tests body) = TakeWords names body
  TakesWords names (statement s) = ⊤

  -- so it is in each of these trees
  pub TakeWords : List Text → Trees → Type 0
  TakeWords names none = ⊤
  TakeWords names (more t ts) = TakesWords names t × TakeWords names ts

-- parameters are distinct words that do not begin with `pp_`, and loops take fresh ones
pub record HasWords (program : Program) : Type 0 where
  pub names : AreNames program.parameters
  pub free : AreFree program.parameters
  pub loops : TakeWords program.parameters program.body
