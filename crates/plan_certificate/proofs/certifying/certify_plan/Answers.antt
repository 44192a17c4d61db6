-- The certificate of the schedule's blocks, which is accepted: its text is shorter than memory.
use Rattle.scop_syntax.proofs.Common.{rules, refl, length, ◌<◌, ◌^◌, IfOk}
use Rattle.plan_certificate.specs.Certificates.{certificate_of}
use Rattle.plan_certificate.proofs.AcceptedResults.{certified_accepted}
use Rattle.plan_certificate.proofs.certifying.certify_plan.Goals as goal

pub returns : goal.returns
returns c =
    let own = c.certified.ensures in
    let few : IfOk c.certified.result (λ v. length v.items < 2 ^ 127) = search rules in
    record {
      certificate = (
        certificate_of c.args.schedule.now.model own.blocks,
        record { blocks = own.blocks; run = own.run; given_is = refl },
        own.gives,
      );
      accepted = certified_accepted (λ v. v.items) c.args.schedule.now c.certified.result
          c.certificates_are_accepted.ensures own few;
    }
