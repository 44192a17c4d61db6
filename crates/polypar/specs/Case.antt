-- What an input says, and what `run` prints of it.
use Rattle.std.specs.Prelude.{ℕ, ◌^◌, ◌≤◌, ℤ, List, length}
use Rattle.scop_syntax.specs.Tree.{Program}
use Rattle.scop_syntax.specs.Execution.{exec, IsInside}
use Rattle.scop_parser.specs.Spelling.{SpellsProgram}
use Rattle.data_text.specs.Cases.{Says}
use Rattle.data_text.specs.ArrayText.{array_text}
use Rattle.polypar.specs.Cut.{kernel_part, data_part}

-- no longer than an input may be
abbrev pub IsShort : List ℕ → Type 0
IsShort input = length input ≤ 2 ^ 27

-- an accepted input: its text before its first line `%%` spells the program, and its text behind that line says the
-- parameters and the contents of the arrays, and every subscript lies in its extent
pub record Accepted (input : List ℕ) : Type 0 where
  pub short : IsShort input
  pub program : Program
  pub spelled : SpellsProgram (kernel_part input) program
  pub params : List ℤ
  pub contents : List (List ℕ)
  pub said : Says (data_part input) program params contents
  pub inside : IsInside program params

-- the text of the arrays that the program's own sequential execution leaves
abbrev pub final_text : Program → List ℤ → List (List ℕ) → List ℕ
final_text program params contents = array_text program (exec program params contents)

-- the text that an accepted input asks for
abbrev pub asked_text : {input : List ℕ} → Accepted input → List ℕ
asked_text accepted = final_text accepted.program accepted.params accepted.contents

-- an input whose text before its first line `%%` spells the program; of what stands behind that line nothing is said
pub record Spelled (input : List ℕ) : Type 0 where
  pub short : IsShort input
  pub program : Program
  pub spelled : SpellsProgram (kernel_part input) program
