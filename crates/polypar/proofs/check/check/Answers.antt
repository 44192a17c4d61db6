-- The text is accepted, and `yes` is printed or cut off; or it has a first fault.
use Rattle.scop_syntax.proofs.Common.{inr, refl, program_of}
use Rattle.polypar.specs.Checking.{yes_text}
use Rattle.plan_check.specs.Judged.{rejected_at}
use Rattle.polypar.specs.Told.{text_alone}
use Rattle.polypar.proofs.CheckLemmas.{cut_alone, rejected_told, told_alone}
use Rattle.polypar.proofs.RunLemmas.{untouched}
use Rattle.polypar.proofs.check.check.Goals as goal

pub returns-in-Ok-print_text : goal.returns-in-Ok-print_text
returns-in-Ok-print_text g c = λ err.
    let plan = c.in-Ok.ensures.plan refl in (
      text_alone yes_text,
      record { accepted = c.in-Ok.ensures.judged; plan = plan.0; said = plan.1; good = plan.2; yes = refl },
      told_alone yes_text _ _ err c.in-Ok-print_text.ensures,
    )

pub returns-in-Err : goal.returns-in-Err
returns-in-Err g c = λ err.
    let plan = c.in-Ok.ensures.plan refl in (
      text_alone yes_text,
      record { accepted = c.in-Ok.ensures.judged; plan = plan.0; said = plan.1; good = plan.2; yes = refl },
      cut_alone yes_text _ _ err c.in-Err.ensures,
    )

pub returns-in-Err-Rejected : goal.returns-in-Err-Rejected
returns-in-Err-Rejected g c = λ err.
    let kind = c.in-Err-Rejected.kind in
    let line = c.in-Err-Rejected.line in
    let first = rejected_told (program_of c.args.kernel.now) c.args.text.now c.in-Err-Rejected.field-0 kind line
    c.in-Err-Rejected.field-0-is c.in-Err-Rejected.ensures.judged in
    (inr (rejected_at kind line, first, refl), untouched _ err)
