-- What holds of a state between steps.
use Rattle.std.specs.Prelude.{◌≡◌, ℕ, ◌<◌, ℤ, List, length, slice_index_or, All}
use Rattle.null_space.specs.Sizes.{AreCoefficients}
use Rattle.schedule_rows.specs.Items.{Row, part_of}
use Rattle.schedule_rows.specs.Posed.{coefficients_in}
use Rattle.schedule_rows.specs.Next.{State, rows_of}
use Rattle.pluto_systems.specs.Unknowns.{Part}
use Rattle.pluto_systems.specs.Posing.{AreVectorsOf}
use Rattle.pluto_search.specs.Searching.{AreBetween}
use Rattle.pluto_search.specs.steps.Sizes.{IsCount, AreCounts}

-- a part of numbers from 0 to 4096
abbrev pub IsSmallPart : Part → Type 0
IsSmallPart p = AreCounts p.coefficients × IsCount p.shift

-- a row of the open band: a small part for each statement, with a coefficient for each of its loops
pub record IsGoodRow (loops : List ℕ) (r : Row) : Type 0 where
  pub count : length r.parts ≡ length loops
  pub sizes : (s : ℕ) → length (part_of r s).coefficients ≡ slice_index_or loops s 0
  pub small : All IsSmallPart r.parts

-- a state between steps, with the kernel vectors of its rows
pub record IsGood (m : ℕ) (loops : List ℕ) (s : State) (kernels : List (List (List ℤ))) : Type 0 where
  pub vectors : AreVectorsOf loops (rows_of s) kernels
  pub small : (k : ℕ) → k < length loops → All AreCoefficients (coefficients_in (rows_of s) k)
  pub rows : All (λ r. IsGoodRow loops r.row) s.rows
  pub between : AreBetween m loops s.remaining
