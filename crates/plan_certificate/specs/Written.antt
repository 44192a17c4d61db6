-- Lines that can be written: their numbers are at least 1, and they have a term.
use Rattle.std.specs.Prelude.{◌≡◌, ◌≢◌, ◌≤◌, ℕ, ℤ, pos, true, [], All}
use Rattle.plan_check.specs.Derivations.{Step}
use Rattle.plan_check.specs.Judged.{is_held}

-- a number from 1 to 2^127 - 1
pub record IsWrittenNumber (z : ℤ) : Type 0 where
  pub size : ℕ
  pub is : z ≡ pos size
  pub positive : 1 ≤ size
  pub held : is_held size ≡ true

-- a line of such numbers, of rows counted from 1, with a term
pub record IsWritten (s : Step) : Type 0 where
  pub divisor : IsWrittenNumber s.divisor
  pub factors : All (λ t. IsWrittenNumber t.factor) s.terms
  pub rows : All (λ t. 1 ≤ t.row) s.terms
  pub some : s.terms ≢ []
