-- A text is accepted as a certificate or has a first fault; and what `check` prints of it.
use Rattle.scop_syntax.proofs.Common.{◌≡◌, ◌⊎◌, sym, subst, refl, inl, inr, ℕ, suc, Bool, true, false, List, [], ◌∷◌}
use Rattle.scop_syntax.proofs.Common.{Result, Ok, Err, arith, if◌then◌else◌, not, Program}
use Rattle.std.proofs.KnownBytes.{Appends-nil}
use Rattle.wide_math.specs.Gives.{IsTold}
use Rattle.io_ports.specs.Writes.{SinkShows, Takes, CutsOff}
use Rattle.iteration_domains.specs.Model.{KernelModel, model_of}
use Rattle.command_line.specs.declared.command.Command.{Command}
use Rattle.command_line.specs.declared.command.Command.TheVariants.{Check}
use Rattle.plan_check.specs.Judged.{Stage, laying, proving, end_judged, goals_ended, goals_opened, judged, line_judged}
use Rattle.plan_check.specs.Judged.{lines_judged, nothing_laid, rejected_at, then_goals, then_lines}
use Rattle.plan_check.specs.Judged.{Rejected as Fault}
use Rattle.plan_check.specs.Goals.{loops_in}
use Rattle.plan_check.specs.Progress.{Progress, none_left}
use Rattle.plan_check.specs.Text.{lines_of, said_in}
use Rattle.plan_check.specs.TextView.{rejected_in}
use Rattle.plan_check.specs.declared.kinds.CheckStop.{CheckStop}
use Rattle.plan_check.specs.declared.kinds.CheckStop.TheVariants as stop
use Rattle.plan_check.specs.declared.kinds.FaultKind.{FaultKind}
use Rattle.plan_check.specs.declared.kinds.FaultKind.TheVariants as fault
use Rattle.plan_search.specs.Status.{Status}
use Rattle.polypar.specs.Told.{text_alone}
use Rattle.polypar.specs.steps.Promises.{AnswersCertificate, AnswersKernel, WritesTold, CutsTold}

-- a judgement that accepts, or tells a fault
abbrev pub IsJudged : Result Bool Fault → Type 0
IsJudged told = (told ≡ Ok true) ⊎ ((fault : Fault) × (told ≡ Err fault))

-- at the end of goals
ended : (k : ℕ) (p : Progress) → IsJudged (goals_ended k p)
ended k p = go p.ended (none_left p.left)
  where
    go : (end none : Bool)
        → IsJudged (if not end then Err (rejected_at fault.Goal k)
        else if not none then Err (rejected_at fault.Goal (suc k)) else Ok true)
    go false none = inr (rejected_at fault.Goal k, refl)
    go true false = inr (rejected_at fault.Goal (suc k), refl)
    go true true = inl refl

opened : (told : Result Progress Fault) (k : ℕ) → IsJudged (then_goals told (goals_ended k))
opened (Ok p) k = ended k p
opened (Err fault) k = inr (fault, refl)

-- at the end of all lines
at_end : (model : KernelModel) (k : ℕ) (s : Stage) → IsJudged (end_judged model k s)
at_end model k (laying l) = opened (goals_opened model k l) k
at_end model k (proving p) = ended k p

behind_line : (told : Result Stage Fault) (next : Stage → Result Bool Fault) → ((s : Stage) → IsJudged (next s))
    → IsJudged (then_lines told next)
behind_line (Ok s) next each = each s
behind_line (Err fault) next each = inr (fault, refl)

of_lines : (model : KernelModel) (k : ℕ) (s : Stage) (lines : List (List ℕ)) → IsJudged (lines_judged model k s lines)
of_lines model k s [] = at_end model k s
of_lines model k s (line ∷ lines) =
    behind_line (line_judged model k s (said_in (loops_in model) line)) (λ t. lines_judged model (suc k) t lines)
    (λ t. of_lines model (suc k) t lines)

-- a text is accepted, or has a first fault
pub is_judged : (program : Program) (text : List ℕ) → IsJudged (judged program text)
is_judged program text = of_lines (model_of program) 0 (laying nothing_laid) (lines_of text)

-- a fault that the code tells is the text's first
pub rejected_told : (program : Program) (text : List ℕ) (told : CheckStop) (kind : FaultKind) (line : ℕ)
    → told ≡ stop.Rejected kind line → IsTold (rejected_in told) (judged program text)
    → judged program text ≡ Err (rejected_at kind line)
rejected_told program text told kind line is first =
    subst (λ s. IsTold (rejected_in s) (judged program text)) is first

-- ---- what is printed

-- a text alone was told: `err` is as it was
pub told_alone : (text : List ℕ) (out out_after err : SinkShows) → Takes out out_after text
    → WritesTold (text_alone text) out out_after err err
told_alone text out out_after err took = record {
  text = took;
  lines = record {
    gained = Appends-nil err.taken;
    later = omega arith;
    calm = λ room. record { faults = refl; limit = refl };
  };
}

-- it was cut off
pub cut_alone : (text : List ℕ) (out out_after err : SinkShows) → CutsOff out out_after text
    → CutsTold (text_alone text) out out_after err err
cut_alone text out out_after err cut = record {
  gained = inr (Appends-nil err.taken, cut.gained);
  later = omega arith;
  rose = inl cut.cause.rose;
  full = λ room line. cut.cause.full room;
}

-- the answer to a certificate is that of `check`
pub check_answers : (command : Command) (status : Status) (program : Program) (text : List ℕ)
    (out out_after err : SinkShows) → command ≡ Check → AnswersCertificate status program text out out_after err err
    → AnswersKernel command status program text out out_after err err
check_answers command status program text out out_after err is answer =
    subst (λ c. AnswersKernel c status program text out out_after err err) (sym is) answer
