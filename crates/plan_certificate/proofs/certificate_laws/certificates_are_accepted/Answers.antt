use Rattle.iteration_domains.specs.Model.{model_of}
use Rattle.iteration_domains.proofs.TreeStatements.{one_model}
use Rattle.schedule_rows.specs.Schedule.{loops_in}
use Rattle.plan_certificate.proofs.Accepted.{accepted}
use Rattle.plan_certificate.proofs.AcceptedLines.{PrintedLaws}
use Rattle.plan_certificate.proofs.AcceptedSteps.{DerivationLaws}
use Rattle.plan_certificate.proofs.certificate_laws.certificates_are_accepted.Goals as goal

pub returns : goal.returns
returns c program deps blocks text kernel schedule narrow few is =
    let model = model_of program in
    let one = one_model program kernel (c.statements_are_numbered.ensures.same program)
    (c.statements_are_numbered.ensures.number program) in
    let printed : PrintedLaws = record {
      printed = c.lines_are_read_where_they_are_printed.ensures.printed;
      first = c.lines_are_read_where_they_are_printed.ensures.first;
    } in
    let derivations : DerivationLaws = record {
      derived = c.derivations_are_accepted.ensures.derived;
      written = c.derivations_are_accepted.ensures.written;
    } in
    accepted printed derivations program deps blocks text (λ d i. c.systems_have_parts.ensures model d one i)
    (c.schedules_have_small_items.ensures model.parameters (loops_in model) deps blocks schedule) kernel
    (λ p h. c.statements_are_numbered.ensures.placed program p kernel h) schedule narrow few is
