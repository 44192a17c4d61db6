-- The text of a case as data: a line for each parameter, then the text of its arrays.
use Rattle.std.specs.Prelude.{◌≢◌, ℕ, ◌^◌, ◌<◌, ℤ, List, [], ◌∷◌, ◌++◌, map, All}
use Rattle.scop_lexer.specs.Bytes.{Text}
use Rattle.scop_lexer.specs.Words.{IsName}
use Rattle.scop_syntax.specs.Members.{Sorted}
use Rattle.scop_syntax.specs.Tree.{Program}
use Rattle.scop_syntax.specs.Execution.{IsShaped, layout, size_of}
use Rattle.scop_syntax.specs.Kernel.{narrow_arrays}
use Rattle.scop_syntax.specs.Limits.{WithinLimits}
use Rattle.scop_syntax.specs.Widths.{HoldWidths}
use Rattle.data_lines.specs.Sheets.{names_of}
use Rattle.data_text.specs.ArrayText.{array_text, rows_text}

-- the number of each parameter, in a row of its own
abbrev pub parameter_rows : List ℤ → List (List ℕ)
parameter_rows params = map (λ p. size_of p ∷ []) params

-- the lines of the parameters, and those of the arrays behind them
abbrev pub case_text : Program → List ℤ → List (List ℕ) → Text
case_text program params contents =
    rows_text program.parameters (parameter_rows params) ++ array_text program contents

-- a case that can be written: names that data lines may have, each once; within the limits; cells of 64 bits, as many
-- as the extents of each array say, and of 32 in narrow arrays
pub record IsWritable (program : Program) (params : List ℤ) (contents : List (List ℕ)) : Type 0 where
  pub names : All IsName (names_of program)
  pub apart : Sorted (λ (v w : Text). v ≢ w) (names_of program)
  pub limits : WithinLimits program params
  pub shape : IsShaped (layout program params) contents
  pub cells : All (λ array. All (λ cell. cell < 2 ^ 64) array) contents
  pub widths : HoldWidths (narrow_arrays program) contents
