-- How large the items of a schedule are.
use Rattle.std.specs.Prelude.{◌≡◌, ℕ, ℤ, pos, ◌≤ℤ◌, List, [], ◌∷◌, length, All, ⊤}
use Rattle.schedule_rows.specs.Items.{Row, Marked, Block, scalar, band, part_of}
use Rattle.schedule_rows.specs.Posed.{loops_of}

-- from 0 to 4096
abbrev pub IsSmall : ℤ → Type 0
IsSmall c = (pos 0 ≤ℤ c) × (c ≤ℤ pos 4096)

-- a row has a part for each statement, with a coefficient for each loop round it, and small numbers
pub record IsSizedRow (loops : List ℕ) (r : Row) : Type 0 where
  pub statements : length r.parts ≡ length loops
  pub sized : (s : ℕ) → length (part_of r s).coefficients ≡ loops_of loops s
  pub coefficients : (s : ℕ) → All IsSmall (part_of r s).coefficients
  pub shift : (s : ℕ) → IsSmall (part_of r s).shift

-- so does each row of a band
abbrev pub AreSizedRows : List ℕ → List Marked → Type 0
AreSizedRows loops [] = ⊤
AreSizedRows loops (m ∷ ms) = IsSizedRow loops m.row × AreSizedRows loops ms

-- a scalar has a number for each statement; a band has such rows, one at least
abbrev pub IsSizedBlock : List ℕ → Block → Type 0
IsSizedBlock loops (scalar numbers) = length numbers ≡ length loops
IsSizedBlock loops (band []) = ⊥
IsSizedBlock loops (band (m ∷ ms)) = AreSizedRows loops (m ∷ ms)

-- each block is so
abbrev pub AreSized : List ℕ → List Block → Type 0
AreSized loops [] = ⊤
AreSized loops (b ∷ bs) = IsSizedBlock loops b × AreSized loops bs
