-- The certificate of a schedule: its items' lines, then each goal's line and those of its determined derivation.
use Rattle.std.specs.Prelude.{◌≡◌, ℕ, suc, ◌^◌, ◌<◌, unsigned_abs, List, [], ◌∷◌, ◌++◌, All, codes, map}
use Rattle.std.specs.Prelude.{Option, Some, None, Result, Ok, Err}
use Rattle.scop_lexer.specs.Bytes.{Text}
use Rattle.wide_math.specs.declared.Wide.{Wide}
use Rattle.whole_numbers.specs.Affine.{Affine}
use Rattle.integer_sets.specs.Constraints.{variables_in}
use Rattle.iteration_domains.specs.Dependence.{Dependence}
use Rattle.iteration_domains.specs.Model.{KernelModel}
use Rattle.schedule_rows.specs.Items.{Block}
use Rattle.schedule_rows.specs.Outcomes.{IsSchedule}
use Rattle.schedule_rows.specs.Schedule.{Scheduled, items_of, loops_in}
use Rattle.report_text.specs.ScheduleText.{IsNarrowItem, schedule_text}
use Rattle.plan_check.specs.Derivations.{Step}
use Rattle.plan_check.specs.Goals.{goals_in}
use Rattle.plan_check.specs.Printed.{goal_text, step_text}
use Rattle.plan_check.specs.Progress.{goal_run}
use Rattle.plan_check.specs.Text.{TermLine, StepLine, step_line, term_line}
use Rattle.plan_check.specs.declared.lines.Term.{Term}
use Rattle.plan_certificate.specs.Derivation.{derivation}
use Rattle.plan_certificate.specs.SchedulePlan.{plan_of_blocks}
use Rattle.scop_syntax.specs.Members.{In}

-- a step as its line says it
abbrev pub term_line_of : Term → TermLine
term_line_of t = term_line t.row (unsigned_abs t.factor)

abbrev pub step_line_of : Step → StepLine
step_line_of s = step_line (unsigned_abs s.divisor) (map term_line_of s.terms)

-- the lines of steps
abbrev pub steps_text : List Step → Text
steps_text [] = []
steps_text (s ∷ steps) = (step_text (step_line_of s) ++ codes "\n") ++ steps_text steps

-- `goal G` and its lines
abbrev pub proof_text : ℕ → List Step → Text
proof_text g steps = (goal_text g ++ codes "\n") ++ steps_text steps

-- the derivation of a goal, if 128 bits hold its rows
abbrev pub derivation_over : ℕ → Result (List Affine) Wide → Option (List Step)
derivation_over n (Ok rows) = derivation n rows
derivation_over n (Err wide) = None

abbrev pub derivation_of : Dependence → Option (List Step)
derivation_of d = derivation_over (variables_in d.system) (goal_run d)

-- a goal's text in front of others; the number of a goal without a derivation
abbrev pub in_front : ℕ → Option (List Step) → Result Text ℕ → Result Text ℕ
in_front g None others = Err g
in_front g (Some steps) (Ok text) = Ok (proof_text g steps ++ text)
in_front g (Some steps) (Err h) = Err h

-- the texts of goals, of which the first has this number, or the number of the first without a derivation
abbrev pub proofs_text : ℕ → List Dependence → Result Text ℕ
proofs_text g [] = Ok []
proofs_text g (d ∷ ds) = in_front g (derivation_of d) (proofs_text (suc g) ds)

-- a text behind another
abbrev pub behind_text : Text → Result Text ℕ → Result Text ℕ
behind_text front (Ok text) = Ok (front ++ text)
behind_text front (Err g) = Err g

-- the certificate of a schedule's blocks, or the number of the first goal without a derivation
abbrev pub certificate_of : KernelModel → List Block → Result Text ℕ
certificate_of model blocks =
    behind_text (schedule_text blocks) (proofs_text 1 (goals_in model (plan_of_blocks blocks)))

-- what certifying a schedule gives
pub record Certifies (s : Scheduled) (given : Result Text ℕ) : Type 0 where
  pub blocks : List Block
  pub run : IsSchedule s.model.parameters (loops_in s.model) s.deps blocks
  pub given_is : given ≡ certificate_of s.model blocks

-- the numbers of rows that a step takes are below 2^64
abbrev pub IsNarrowTerm : Term → Type 0
IsNarrowTerm t = t.row < 2 ^ 64

abbrev pub IsNarrowStep : Step → Type 0
IsNarrowStep s = All IsNarrowTerm s.terms

-- the numbers of a certificate are those that types hold
pub record IsNarrow (model : KernelModel) (bs : List Block) : Type 0 where
  pub items : All IsNarrowItem (items_of bs)
  pub lines : (d : Dependence) (steps : List Step) → In d (goals_in model (plan_of_blocks bs))
      → derivation_of d ≡ Some steps → All IsNarrowStep steps
