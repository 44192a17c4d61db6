-- What the values of forms gain where one entry of the point is 1 more.
use Rattle.std.specs.Prelude.{ℕ, ℤ, pos, List, map, get_or}
use Rattle.whole_numbers.specs.Affine.{Affine}

-- each form's coefficient of the entry at this place, 0 where it has none
abbrev pub steps_of : List Affine → ℕ → List ℤ
steps_of forms i = map (λ f. get_or f.coefficients i (pos 0)) forms
