-- Counts of calls and faults, what it means that one rose, and which calls are still to fail.
use Rattle.std.specs.Prelude.{ℕ, ◌+◌, ◌-◌, ◌^◌, ◌≤◌, min, nat_lt, Bool, List}
use Rattle.std.specs.List.{list_all}

-- one more; a count stays at 2^64 - 1 once it is there
abbrev pub next_count : ℕ → ℕ
next_count count = min (count + 1) (2 ^ 64 - 1)

-- a count rose: it went up, or stands at its type's end
abbrev pub Rose : ℕ → ℕ → Type 0
Rose before now = next_count before ≤ now

-- none of the listed calls is still to come, after so many calls
abbrev pub none_to_come : List ℕ → ℕ → Bool
none_to_come fails calls = list_all (λ fail. nat_lt fail (next_count calls)) fails
