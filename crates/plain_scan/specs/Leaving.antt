-- Sets that have no point, left out.
use Rattle.std.specs.Prelude.{◌≡◌, List, [], ◌∷◌, ◌⊎◌, ⊤}
use Rattle.integer_sets.specs.Scanned.{Scanned}
use Rattle.plain_scan.specs.Outlines.{HasNoPoint}

-- the second list is the first without some sets that have no point
abbrev pub LeavesOut : List Scanned → List Scanned → Type 0
LeavesOut [] [] = ⊤
LeavesOut [] (k ∷ kept) = ⊥
LeavesOut (s ∷ sets) [] = HasNoPoint s.system × LeavesOut sets []
LeavesOut (s ∷ sets) (k ∷ kept) =
    ((s ≡ k) × LeavesOut sets kept) ⊎ (HasNoPoint s.system × LeavesOut sets (k ∷ kept))
