-- A run over the elements of a list, in order.
use Rattle.std.specs.Prelude.{List, [], ◌∷◌, Result, Ok}
use Rattle.wide_math.specs.declared.Wide.{Wide}
use Rattle.wide_math.specs.Checked.{◌>>=◌}

-- what the run gives of each element, in order, or the first error
abbrev pub each_run : {A B : Type 0} → (A → Result B Wide) → List A → Result (List B) Wide
each_run run [] = Ok []
each_run run (x ∷ xs) = run x >>= λ y. each_run run xs >>= λ ys. Ok (y ∷ ys)
