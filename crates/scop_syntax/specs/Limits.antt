-- A kernel with parameters within the limits of the language.
use Rattle.std.specs.Prelude.{◌≡◌, ℕ, ◌^◌, ◌≤◌, ℤ, pos, ◌≤ℤ◌, List, length, All}
use Rattle.whole_numbers.specs.Affine.{value_of}
use Rattle.scop_syntax.specs.Tree.{Program}
use Rattle.scop_syntax.specs.Kernel.{IsKernel}
use Rattle.scop_syntax.specs.Execution.{layout, total_cells}

-- the greatest value of a parameter
abbrev pub most_parameter : ℕ
most_parameter = 65536

-- a parameter's value lies from 0 to that
abbrev pub IsInRange : ℤ → Type 0
IsInRange p = (pos 0 ≤ℤ p) × (p ≤ℤ pos most_parameter)

-- the value of each parameter does
abbrev pub AreInRange : List ℤ → Type 0
AreInRange params = All IsInRange params

-- a kernel, and a value in range for each of its parameters
pub record HasParameters (program : Program) (params : List ℤ) : Type 0 where
  pub kernel : IsKernel program
  pub count : length params ≡ length program.parameters
  pub parameters : AreInRange params

-- a value in range for each parameter, each extent at least 1 (C17 6.7.6.2p5), and 2^22 cells in all
pub record WithinLimits (program : Program) (params : List ℤ) : Type 0 where
  pub kernel : IsKernel program
  pub count : length params ≡ length program.parameters
  pub parameters : AreInRange params
  pub extents : All (λ d. All (λ form. pos 1 ≤ℤ value_of form params) d.extents) program.arrays
  pub cells : total_cells (layout program params) ≤ 2 ^ 22

-- a kernel within the limits has its parameters
abbrev pub has_parameters : {program : Program} {params : List ℤ} → WithinLimits program params
    → HasParameters program params
has_parameters w = record { kernel = w.kernel; count = w.count; parameters = w.parameters }
