-- The statements of a tree as code gathers them: down the tree, with the loops round it so far.
use Rattle.std.specs.Prelude.{List, [], ◌∷◌, ◌++◌}
use Rattle.scop_syntax.specs.Tree.{Head, Tree, loop, guard, statement, Trees, none, more}
use Rattle.scop_syntax.specs.Standings.{Standing, standing}

abbrev mutual
  -- the statements of a tree that stands within these loops, in textual order
  pub gathered : List Head → Tree → List Standing
  gathered heads (loop head body) = gathered_all (heads ++ (head ∷ [])) body
  gathered heads (guard tests body) = gathered_all heads body
  gathered heads (statement s) = standing heads s ∷ []

  -- those of trees, one after another
  pub gathered_all : List Head → Trees → List Standing
  gathered_all heads none = []
  gathered_all heads (more t ts) = gathered heads t ++ gathered_all heads ts
