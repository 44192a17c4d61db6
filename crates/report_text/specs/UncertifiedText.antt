-- The line that tells which goal of a schedule is the first without a derivation.
use Rattle.std.specs.Prelude.{ℕ, List, [], ◌∷◌, codes, decimal}
use Rattle.std.specs.List.{concat}

-- `uncertified: G` and a line feed
abbrev pub uncertified_text : ℕ → List ℕ
uncertified_text goal = concat (codes "uncertified: " ∷ decimal goal ∷ codes "\n" ∷ [])
