-- The sum of what places add to a cell.
use Rattle.std.specs.Prelude.{ℕ, zero, suc, ◌+◌, ◌&&◌, Bool, nat_eq, if◌then◌else◌}
use Rattle.tile_events.specs.Plan.{Plan, stored}

-- the addends of those of the first n places that are done and write the cell, each once
abbrev pub sum_of : Plan → (ℕ → Bool) → ℕ → ℕ → ℕ
sum_of p done zero c = 0
sum_of p done (suc n) c =
    if done n && nat_eq (p.written n) c then sum_of p done n c + stored p n else sum_of p done n c
