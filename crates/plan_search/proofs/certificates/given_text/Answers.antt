-- The text is the certificate, or the line of the goal that has none.
use Rattle.scop_syntax.proofs.Common.{IfOk-weaker}
use Rattle.plan_search.proofs.CertificateLemmas.{accepted_given, goal_given}
use Rattle.plan_search.proofs.certificates.given_text.Goals as goal

pub returns-in-Ok : goal.returns-in-Ok
returns-in-Ok c = λ program kernel own.
    accepted_given program c.args.schedule.now c.in-Ok.text.items c.in-Ok.ensures.certificate
    (c.in-Ok.ensures.accepted program kernel own)

pub returns-in-Err-Uncertified : goal.returns-in-Err-Uncertified
returns-in-Err-Uncertified c = λ program kernel own.
    IfOk-weaker c.uncertified_text.result _ _
    (λ text told. goal_given program c.args.schedule.now c.in-Err-Uncertified.field-0 c.in-Err-Uncertified.goal text.items
    c.in-Err-Uncertified.field-0-is c.in-Err-Uncertified.ensures.certificate told)
    c.uncertified_text.ensures
