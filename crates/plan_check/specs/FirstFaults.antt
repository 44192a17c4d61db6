-- The first fault of a certificate: every line before it is taken without a fault, and at it, or at the end, this is wrong.
use Rattle.std.specs.Prelude.{◌≡◌, ◌⊎◌, ℕ, suc, List, [], ◌∷◌, ◌++◌, length, Ok, Err}
use Rattle.scop_lexer.specs.Bytes.{Text}
use Rattle.scop_syntax.specs.Tree.{Program}
use Rattle.iteration_domains.specs.Model.{KernelModel, model_of}
use Rattle.plan_check.specs.Goals.{loops_in}
use Rattle.plan_check.specs.Judged.{Rejected, Stage, end_judged, laying, line_judged, nothing_laid}
use Rattle.plan_check.specs.Text.{lines_of, said_in}
use Rattle.plan_check.specs.declared.kinds.FaultKind.TheVariants as kind

-- these lines, behind k others, take a stage to another without a fault
abbrev pub AreTaken : KernelModel → ℕ → Stage → List Text → Stage → Type 0
AreTaken model k s [] t = s ≡ t
AreTaken model k s (l ∷ ls) t =
    (u : Stage) × (line_judged model k s (said_in (loops_in model) l) ≡ Ok u) × AreTaken model (suc k) u ls t

-- what is wrong with the next line behind k others, or with the end where no line is left
abbrev pub IsNextFault : KernelModel → ℕ → Stage → List Text → Rejected → Type 0
IsNextFault model k s [] r = end_judged model k s ≡ Err r
IsNextFault model k s (l ∷ ls) r = line_judged model k s (said_in (loops_in model) l) ≡ Err r

-- the lines before the fault, and those from its line on
pub record IsFirstFault (program : Program) (text : Text) (r : Rejected) : Type 0 where
  pub before : List Text
  pub behind : List Text
  pub are : lines_of text ≡ before ++ behind
  pub stage : Stage
  pub taken : AreTaken (model_of program) 0 (laying nothing_laid) before stage
  pub fault : IsNextFault (model_of program) (length before) stage behind r

-- the rejected line is the next one behind these, or the last of them, whose goal is not proved
abbrev pub IsAtLine : ℕ → Rejected → Type 0
IsAtLine k r = (r.line ≡ suc k) ⊎ ((r.kind ≡ kind.Goal) × (r.line ≡ k))
