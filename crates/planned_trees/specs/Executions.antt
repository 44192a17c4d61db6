-- What an execution of trees does to the arrays, by the source's instances.
use Rattle.std.specs.Prelude.{◌≡◌, ℤ, List, map}
use Rattle.scop_syntax.specs.Members.{In}
use Rattle.scop_syntax.specs.Tree.{Program}
use Rattle.scop_syntax.specs.Walk.{Instance, instance, Visit, walk_of}

-- visits of the program's walk that have these instances, in this order
pub record AreVisitsOf (program : Program) (params : List ℤ) (xs : List Instance) (visits : List Visit) : Type 0 where
  pub instances : map instance visits ≡ xs
  pub walked : (v : Visit) → In v visits → In v (walk_of program params)
