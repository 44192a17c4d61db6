-- Rows of tiles that gain pairs.
use Rattle.std.specs.Prelude.{◌≡◌, ◌≢◌, ◌⊎◌, ℕ, ◌<◌, List, [], length, get_or}
use Rattle.scop_syntax.specs.Members.{In, Sorted}

-- each row rises
abbrev pub AreRising : List (List ℕ) → Type 0
AreRising rows = (t : ℕ) → Sorted (λ a b. a < b) (get_or rows t [])

-- u stands in the rows of the tiles ts, but not in its own
pub record Gains (ts : List ℕ) (u : ℕ) (rows rows_then : List (List ℕ)) : Type 0 where
  pub long : length rows_then ≡ length rows
  pub rises : AreRising rows → AreRising rows_then
  pub found : (t v : ℕ) → In v (get_or rows_then t []) → In v (get_or rows t []) ⊎ (In t ts × (v ≡ u) × (t ≢ u))
  pub kept : (t v : ℕ) → In v (get_or rows t []) → In v (get_or rows_then t [])
  pub gained : (t : ℕ) → In t ts → t ≢ u → In u (get_or rows_then t [])
