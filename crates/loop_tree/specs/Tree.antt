-- A loop tree, as plain data: loops upwards, guards, instances. A body is one sequence, by its type.
use Rattle.std.specs.Prelude.{ℕ, ℤ, Bool, List, [], ◌∷◌}
use Rattle.whole_numbers.specs.Affine.{Affine}

-- form / divisor, rounded up as a lower bound and down as an upper one
pub record Bound : Type 0 where
  pub form : Affine
  pub divisor : ℤ

-- the greatest of lower bounds, the least of upper bounds: there is always one
pub data Bounds : Type 0 where
  only : Bound → Bounds
  besides : Bound → Bounds → Bounds

-- a bound and others
abbrev pub bounds_of : Bound → List Bound → Bounds
bounds_of b [] = only b
bounds_of b (c ∷ cs) = besides b (bounds_of c cs)

-- FORM >= 0, FORM == 0, FORM is a multiple of D
pub data Test : Type 0 where
  at_least : Affine → Test
  equal : Affine → Test
  multiple : Affine → ℤ → Test

-- forms speak of the values of the loops round them, outermost first, and then of the parameters;
-- those of an instance give the turns of the source's loops round its statement, which is numbered from 0
mutual
  pub data Tree : Type 0 where
    -- parallel or not, lower bounds, upper bounds, body
    loop : Bool → Bounds → Bounds → Trees → Tree
    guard : List Test → Trees → Tree
    instance : ℕ → List Affine → Tree

  -- trees, one after another
  pub data Trees : Type 0 where
    none : Trees
    more : Tree → Trees → Trees
