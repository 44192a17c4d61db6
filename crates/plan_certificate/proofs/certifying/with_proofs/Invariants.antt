-- The text so far, with those of the goals that are left, is that of all goals.
use Rattle.scop_syntax.proofs.Common.{◌≡◌, All, length, suc}
use Rattle.plan_certificate.specs.Certificates.{behind_text, proofs_text}
use Rattle.plan_certificate.specs.steps.Narrow.{HasNarrow}
use Rattle.plan_certificate.proofs.certifying.with_proofs.Given as goal

abbrev pub invariant-loop-current : goal.invariant-loop-current
invariant-loop-current l = record {
  whole : behind_text l.out.items (proofs_text (suc l.number) l.goals.left)
      ≡ behind_text l.fn.head.items (proofs_text 1 l.fn.all.left);
  narrow : All HasNarrow l.goals.left → All HasNarrow l.fn.all.left;
}

abbrev pub decreases-loop-current : goal.decreases-loop-current
decreases-loop-current l = length l.goals.left
