-- The plain data that a certificate's lines in code stand for, and a refusal.
use Rattle.std.specs.Prelude.{map, Option, Some, None}
use Rattle.schedule_lines.specs.View.{row_view, scalar_view}
use Rattle.plan_check.specs.PlanView.{plan_of}
use Rattle.plan_check.specs.Text.{TermLine, term_line, StepLine, step_line, Said, row, scalar, goal, step}
use Rattle.plan_check.specs.Judged.{Rejected, rejected_at, Laid, Stage, laying, proving}
use Rattle.plan_check.specs.declared.text.TermLine as code_term
use Rattle.plan_check.specs.declared.text.StepLine as code_step
use Rattle.plan_check.specs.declared.text.Said.TheVariants as said
use Rattle.plan_check.specs.declared.laying.Laying.{Laying}
use Rattle.plan_check.specs.declared.checking.Stage.TheVariants as stage
use Rattle.plan_check.specs.declared.kinds.CheckStop.{CheckStop}
use Rattle.plan_check.specs.declared.kinds.CheckStop.TheVariants as stop

-- a refusal; want of memory is none
abbrev pub rejected_in : CheckStop → Option Rejected
rejected_in (stop.Rejected kind line) = Some (rejected_at kind line)
rejected_in stop.NoMemory = None

abbrev pub term_view : code_term.TermLine → TermLine
term_view t = term_line t.row t.factor

abbrev pub step_view : code_step.StepLine → StepLine
step_view s = step_line s.divisor (map term_view s.terms.items)

-- what a line says
abbrev pub said_view : said.the_data → Said
said_view (said.Row r) = row (row_view r)
said_view (said.Scalar s) = scalar (scalar_view s)
said_view (said.Goal g) = goal g
said_view (said.Step s) = step (step_view s)

-- the items so far
abbrev pub laid_view : Laying → Laid
laid_view l = record { bands = l.bands; rows = l.rows; in_band = l.in_band; plan = plan_of l.items }

abbrev pub stage_view : stage.the_data → Stage
stage_view (stage.Laying l) = laying (laid_view l)
stage_view (stage.Proving c) = proving c
