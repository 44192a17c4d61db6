-- Which pairs of instances a dependence relates.
use Rattle.std.specs.Prelude.{◌≡◌, ℤ, pos, ◌≤ℤ◌, List, ◌++◌, length, All}
use Rattle.whole_numbers.specs.Affine.{value_of}
use Rattle.scop_syntax.specs.Limits.{AreInRange}
use Rattle.scop_syntax.specs.Walk.{Instance}
use Rattle.iteration_domains.specs.Dependence.{Dependence, binds_in}

-- where a pair stands: the turns of both, the quotients that are bound, then the parameters
abbrev pub point_of : List ℤ → List ℤ → Instance → Instance → List ℤ
point_of params bound x y = x.turns ++ (y.turns ++ (bound ++ params))

-- at the parameters the target y depends on the source x: with quotients from 0 on the pair is a whole point >= 0 of the
-- system
pub record Relates (params : List ℤ) (d : Dependence) (x y : Instance) : Type 0 where
  pub range : AreInRange params
  pub source : x.number ≡ d.source.statement
  pub target : y.number ≡ d.target.statement
  pub source_size : length x.turns ≡ d.source.loops
  pub target_size : length y.turns ≡ d.target.loops
  pub source_from_0 : All (λ z. pos 0 ≤ℤ z) x.turns
  pub target_from_0 : All (λ z. pos 0 ≤ℤ z) y.turns
  pub bound : List ℤ
  pub bound_size : length bound ≡ binds_in d
  pub bound_from_0 : All (λ z. pos 0 ≤ℤ z) bound
  pub equalities : All (λ f. value_of f (point_of params bound x y) ≡ pos 0) d.system.equalities
  pub rows : All (λ f. pos 0 ≤ℤ value_of f (point_of params bound x y)) d.system.rows
