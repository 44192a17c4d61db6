-- Names that a program has from its text: each another than those in scope with it, and none that begins with `pp_`.
use Rattle.std.specs.Prelude.{◌≢◌, List, [], ◌∷◌, ◌++◌, codes, All, ⊤}
use Rattle.scop_lexer.specs.Bytes.{Text}
use Rattle.scop_lexer.specs.Words.{IsName}
use Rattle.scop_syntax.specs.Members.{In}
use Rattle.scop_syntax.specs.Tree.{Tree, loop, guard, statement, Trees, none, more, Declaration, Program}
use Rattle.scop_units.specs.Names.{AreDistinct}

-- `pp_` does not stand in front
abbrev pub IsUnreserved : Text → Type 0
IsUnreserved name = (rest : Text) → name ≢ codes "pp_" ++ rest

-- a name that a kernel may have: letters, digits and `_`, no digit in front, no keyword, no `pp_` in front
abbrev pub IsFreeName : Text → Type 0
IsFreeName name = IsName name × IsUnreserved name

abbrev mutual
  -- each loop takes such a name, which is none of these, nor of those of the loops round it
  pub TakesFree : List Text → Tree → Type 0
  TakesFree names (loop head body) =
      IsFreeName head.iterator × (In head.iterator names → ⊥) × TakeFree (names ++ head.iterator ∷ []) body
  TakesFree names (guard tests body) = TakeFree names body
  TakesFree names (statement s) = ⊤

  -- so it is in each of these trees
  pub TakeFree : List Text → Trees → Type 0
  TakeFree names none = ⊤
  TakeFree names (more t ts) = TakesFree names t × TakeFree names ts

-- parameters have distinct such names, and each loop takes one that is free; `pp_` stands in front of no array's name,
-- nor of the kernel's own
pub record HasFreeNames (program : Program) : Type 0 where
  pub name : IsUnreserved program.name
  pub parameters : All IsFreeName program.parameters
  pub distinct : AreDistinct program.parameters
  pub arrays : All (λ (d : Declaration). IsUnreserved d.name) program.arrays
  pub loops : TakeFree program.parameters program.body
