-- Two first faults are what one text is judged to have.
use Rattle.scop_syntax.proofs.Common.{◌∙◌, ap, sym, subst, Bool, Result, Ok, Err, ⊤}
use Rattle.plan_check.specs.Judged.{Rejected}
use Rattle.text_callers.proofs.certificates.first_faults_are_unique.Goals as goal

abbrev error_or : Rejected → Result Bool Rejected → Rejected
error_or r (Ok b) = r
error_or r (Err s) = s

abbrev IsAccepted : Result Bool Rejected → Type 0
IsAccepted (Ok b) = ⊤
IsAccepted (Err r) = ⊥

pub returns-clause-one : goal.returns-clause-one
returns-clause-one c program text r s first second =
    let law = c.rejections_are_the_first.ensures.first program text in
    ap (error_or r) (sym ((law r).1 first) ∙ (law s).1 second)

pub returns-clause-none : goal.returns-clause-none
returns-clause-none c program text r accepted first =
    subst IsAccepted (sym accepted ∙ (c.rejections_are_the_first.ensures.first program text r).1 first) tt
