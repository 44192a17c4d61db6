-- Where a row with the coefficients of another stands.
use Rattle.std.specs.Prelude.{ℕ, suc, if◌then◌else◌, List, [], ◌∷◌}
use Rattle.whole_numbers.specs.Affine.{Affine}
use Rattle.fm_projection.specs.Tightest.{are_parallel}

-- how many rows stand before the first with the form's coefficients
abbrev pub parallel_place : Affine → List Affine → ℕ
parallel_place g [] = 0
parallel_place g (f ∷ fs) = if are_parallel f g then 0 else suc (parallel_place g fs)
