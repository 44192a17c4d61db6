use Rattle.scop_syntax.proofs.Common.{◌≡◌, ◌++◌, List, ℕ, drop}
use Rattle.tile_events.specs.Flat.{flat}
use Rattle.tile_runs.proofs.rows.append_all.Given as goal

-- behind the row of before stands what the arrays to come leave of all
abbrev pub invariant-loop-array : goal.invariant-loop-array
invariant-loop-array l = (done : List ℕ) × (l.row.items ≡ l.fn.row.items ++ done)
    × (done ++ flat (drop l.array l.arrays) ≡ flat l.arrays)
