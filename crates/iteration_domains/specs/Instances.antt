-- Which instances of the walk are those of a modelled statement.
use Rattle.std.specs.Prelude.{◌≡◌, ℤ, List}
use Rattle.scop_syntax.specs.Tree.{Program}
use Rattle.scop_syntax.specs.Members.{In}
use Rattle.scop_syntax.specs.Walk.{Visit, walk_of}
use Rattle.iteration_domains.specs.Model.{Modelled, model_of}

-- a statement of the model, and an instance of it that the walk visits
pub record IsInstanceOf (program : Program) (params : List ℤ) (s : Modelled) (v : Visit) : Type 0 where
  pub statement : In s (model_of program).statements
  pub walked : In v (walk_of program params)
  pub number : v.number ≡ s.number
