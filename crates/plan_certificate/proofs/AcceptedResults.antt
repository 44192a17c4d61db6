-- A schedule's certificate that a call gives is accepted.
use Rattle.scop_syntax.proofs.Common.{◌≡◌, ◌∙◌, ap, sym, subst, ◌^◌, ◌<◌, true, List, length, IfOk, Result, Ok, Err}
use Rattle.scop_syntax.proofs.Common.{IsKernel, Program}
use Rattle.scop_lexer.specs.Bytes.{Text}
use Rattle.iteration_domains.specs.Dependence.{Dependence}
use Rattle.iteration_domains.specs.Model.{KernelModel, model_of}
use Rattle.schedule_rows.specs.Items.{Block}
use Rattle.schedule_rows.specs.Outcomes.{IsSchedule}
use Rattle.schedule_rows.specs.Schedule.{Scheduled, loops_in}
use Rattle.plan_check.specs.Judged.{judged}
use Rattle.plan_certificate.specs.Certificates.{certificate_of, IsNarrow}
use Rattle.plan_certificate.specs.steps.Narrow.{IsCertified}
use Rattle.plan_certificate.specs.declared.stop.CertifyStop.{CertifyStop}

-- the law of certificates
abbrev pub CertificateLaw : Type 0
CertificateLaw =
    (program : Program) (deps : List Dependence) (blocks : List Block) (text : Text) → IsKernel program
    → IsSchedule (model_of program).parameters (loops_in (model_of program)) deps blocks
    → IsNarrow (model_of program) blocks → length text < 2 ^ 127
    → certificate_of (model_of program) blocks ≡ Ok text → judged program text ≡ Ok true

pub certified_accepted : {V : Type 0} (view : V → Text) (s : Scheduled) (result : Result V CertifyStop) → CertificateLaw
    → IsCertified view s result → IfOk result (λ v. length (view v) < 2 ^ 127) → (program : Program) → IsKernel program
    → s.model ≡ model_of program → IfOk result (λ v. judged program (view v) ≡ Ok true)
certified_accepted view s (Ok v) law h few program kernel same =
    law program s.deps h.blocks (view v) kernel
    (subst (λ (m : KernelModel). IsSchedule m.parameters (loops_in m) s.deps h.blocks) same h.run)
    (subst (λ (m : KernelModel). IsNarrow m h.blocks) same h.narrow) few
    (ap (λ (m : KernelModel). certificate_of m h.blocks) (sym same) ∙ h.gives)
certified_accepted view s (Err e) law h few program kernel same = tt
