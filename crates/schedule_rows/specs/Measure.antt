-- What bounds the number of steps of a run.
use Rattle.std.specs.Prelude.{ℕ, zero, suc, ◌+◌, ◌*◌, List, [], ◌∷◌, length}
use Rattle.schedule_rows.specs.Items.{Row, Marked}
use Rattle.schedule_rows.specs.Posed.{vectors_of}
use Rattle.schedule_rows.specs.Next.{State, rows_of}

-- the sum of f below k
abbrev pub sum_below : ℕ → (ℕ → ℕ) → ℕ
sum_below zero f = 0
sum_below (suc k) f = sum_below k f + f k

-- kernel vectors of all statements together
abbrev pub missing : List ℕ → List Row → ℕ
missing loops rows = sum_below (length loops) (λ s. length (vectors_of loops rows s))

-- 1 where a band is open
abbrev pub is_open : List Marked → ℕ
is_open [] = 0
is_open (m ∷ ms) = 1

-- what falls with each step: twice the kernel vectors and the dependences, and the open band
abbrev pub measure : List ℕ → State → ℕ
measure loops s = (2 * missing loops (rows_of s) + 2 * length s.remaining) + is_open s.rows
