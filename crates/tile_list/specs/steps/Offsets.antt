-- Offsets, one wave after another.
use Rattle.std.specs.Prelude.{ℕ, suc, List, [], ◌∷◌, nat_le, if◌then◌else◌}

-- the offsets behind those of w waves, by the numbers of the waves of the tiles from tile t on
abbrev pub offsets_from : ℕ → ℕ → List ℕ → List ℕ
offsets_from t w [] = t ∷ []
offsets_from t w (n ∷ ns) = if nat_le w n then t ∷ offsets_from (suc t) (suc w) ns else offsets_from (suc t) w ns
