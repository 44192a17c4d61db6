-- Where the question whether a point satisfies a system first leaves 128 bits.
use Rattle.std.specs.Prelude.{◌≡◌, ℤ, Bool, true, List, ◌∷◌, ◌++◌, Ok, Err, ◌⊎◌}
use Rattle.affine_forms.specs.Affine.{Affine}
use Rattle.affine_forms.specs.Wide.{Wide}
use Rattle.affine_forms.specs.Runs.{value_run}
use Rattle.integer_sets.specs.Constraints.{Constraints}
use Rattle.integer_sets.specs.Runs.{is_zero, is_not_negative, each_run}

-- each form's value fits and passes the test
abbrev pub Pass : (ℤ → Bool) → List Affine → List ℤ → Type 0
Pass test forms point = each_run test forms point ≡ Ok true

-- the value of one of the forms is too wide, as w tells, and those before it pass the test
pub record StopsAmong (test : ℤ → Bool) (forms : List Affine) (point : List ℤ) (w : Wide) : Type 0 where
  pub front : List Affine
  pub form : Affine
  pub back : List Affine
  pub split : forms ≡ front ++ form ∷ back
  pub before : Pass test front point
  pub here : value_run form point ≡ Err w

-- an equality's value is too wide, or all equalities pass and a row's value is
abbrev pub StopsAt : Constraints → List ℤ → Wide → Type 0
StopsAt s point w =
    StopsAmong is_zero s.equalities point w
    ⊎ (Pass is_zero s.equalities point × StopsAmong is_not_negative s.rows point w)
