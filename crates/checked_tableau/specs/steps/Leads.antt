-- Which columns a pivot on a row may take.
use Rattle.std.specs.Prelude.{ℕ, ◌+◌, ◌<◌, ℤ, pos, ◌<ℤ◌, List, get_or}

-- a column of n with a positive entry in a row that has its denominator in front
abbrev pub Leads : ℕ → List ℤ → ℕ → Type 0
Leads n line s = (s < n) × (pos 0 <ℤ get_or line (s + 1) (pos 0))
