-- When the systems of the index check can be written.
use Rattle.std.specs.Prelude.{◌≡◌, ℕ, ◌+◌, ◌<◌, ◌≤◌, ◌^◌, ℤ, pos, ◌≤ℤ◌, List, length, All, slice_get, Some}
use Rattle.whole_numbers.specs.Affine.{Affine, value_of}
use Rattle.integer_sets.specs.Parts.{variables_of}
use Rattle.scop_syntax.specs.Limits.{AreInRange}
use Rattle.scop_syntax.specs.Tree.{Access, Declaration}
use Rattle.iteration_domains.specs.Model.{Modelled}
use Rattle.iteration_domains.specs.Sizes.{IsNarrow, forms_size}

-- forms over d variables, of small numbers
pub record AreFixed (d : ℕ) (forms : List Affine) : Type 0 where
  pub sized : All (λ f. variables_of f ≡ d) forms
  pub small : forms_size forms ≤ 2 ^ 20

-- an extent with a value within the limits of arrays
abbrev pub IsExtent : List ℤ → Affine → Type 0
IsExtent params f = (pos 0 ≤ℤ value_of f params) × (value_of f params ≤ℤ pos (2 ^ 22))

-- an access to one of these arrays
pub record CanAsk (arrays : List Declaration) (params : List ℤ) (a : Access) : Type 0 where
  pub array : a.array < length arrays
  pub rank : (d : Declaration) → slice_get arrays a.array ≡ Some d → length a.subscripts ≡ length d.extents
  pub extents : (d : Declaration) → slice_get arrays a.array ≡ Some d → All (IsExtent params) d.extents

-- a statement with such accesses, and rows of small numbers
pub record CanAskAll (arrays : List Declaration) (params : List ℤ) (s : Modelled) : Type 0 where
  pub few : s.domain.dimensions ≤ 5
  pub few_parameters : length params ≤ 4
  pub parameters : s.domain.parameters ≡ length params
  pub values : AreInRange params
  pub equalities : All (IsNarrow (s.domain.dimensions + s.domain.parameters)) s.domain.equalities
  pub rows : All (IsNarrow (s.domain.dimensions + s.domain.parameters)) s.domain.rows
  pub accesses : All (CanAsk arrays params) s.accesses
