-- Of the two places that a fault may have the other is a Goal's alone.
use Rattle.scop_syntax.proofs.Common.{◌≡◌, inl, inr, ℕ, suc}
use Rattle.plan_check.specs.FirstFaults.{IsAtLine}
use Rattle.plan_check.specs.Judged.{Rejected}
use Rattle.plan_check.specs.declared.kinds.FaultKind.TheVariants as kind
use Rattle.text_callers.proofs.certificates.other_faults_are_at_the_next_line.Goals as goal

next_line : (k : ℕ) (r : Rejected) → IsAtLine k r → (r.kind ≡ kind.Goal → ⊥) → r.line ≡ suc k
next_line k r (inl next) other = next
next_line k r (inr last) other = absurd (other last.0)

pub returns : goal.returns
returns c program text r f other =
    next_line _ r (c.rejections_are_the_first.ensures.line program text r f) other
