-- Numbers that types of the code hold: those of the rows that lines take, and all of a certificate.
use Rattle.std.specs.Prelude.{◌≡◌, List, All, IfOk, Result, Some}
use Rattle.wide_math.specs.Gives.{Gives}
use Rattle.scop_lexer.specs.Bytes.{Text}
use Rattle.iteration_domains.specs.Dependence.{Dependence}
use Rattle.schedule_rows.specs.Items.{Block}
use Rattle.schedule_rows.specs.Outcomes.{IsSchedule}
use Rattle.schedule_rows.specs.Schedule.{Scheduled, loops_in}
use Rattle.plan_check.specs.Derivations.{Step, step_of}
use Rattle.plan_check.specs.declared.lines.Line.{Line}
use Rattle.plan_certificate.specs.Certificates.{certificate_of, derivation_of, IsNarrow, IsNarrowStep}
use Rattle.plan_certificate.specs.View.{uncertified_in}
use Rattle.plan_certificate.specs.declared.stop.CertifyStop.{CertifyStop}

-- the numbers of rows that a line takes are below 2^64
abbrev pub IsNarrowLine : Line → Type 0
IsNarrowLine line = IsNarrowStep (step_of line)

-- those of a goal's derivation are
abbrev pub HasNarrow : Dependence → Type 0
HasNarrow d = (steps : List Step) → derivation_of d ≡ Some steps → All IsNarrowStep steps

-- a call gives the certificate of these blocks, and where there is one its numbers are narrow
pub record IsCertified {V : Type 0} (view : V → Text) (s : Scheduled) (result : Result V CertifyStop) : Type 0 where
  pub blocks : List Block
  pub run : IsSchedule s.model.parameters (loops_in s.model) s.deps blocks
  pub gives : Gives uncertified_in view result (certificate_of s.model blocks)
  pub narrow : IfOk result (λ v. IsNarrow s.model blocks)
