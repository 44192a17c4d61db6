-- The text is what certifying gives, or that of the line that tells what keeps the order.
use Rattle.scop_syntax.proofs.Common.{◌∙◌, [], ap, sym, subst, IfOk-weaker, program_of}
use Rattle.dataflow.specs.Covering.{covers_of}
use Rattle.plan_search.specs.Found.{LieBetween}
use Rattle.plan_search.proofs.CertificateLemmas.{kept_certified, schedule_certified}
use Rattle.plan_search.proofs.certificates.certificate_text.Goals as goal

pub covers-requires : goal.covers-requires
covers-requires c = (program_of c.args.kernel.now, c.requires.kernel, c.requires.model)

pub schedule_of-requires : goal.schedule_of-requires
schedule_of-requires c = subst (LieBetween c.args.model.now) (sym c.deref.ensures.value) c.in-Ok.ensures.between

pub returns-in-Ok-schedule_of : goal.returns-in-Ok-schedule_of
returns-in-Ok-schedule_of c =
    let program = program_of c.args.kernel.now in
    let found = c.in-Ok-schedule_of.ensures.found in
    IfOk-weaker c.given_text.result _ _
    (λ text given. schedule_certified c.dependences_have_one_schedule.ensures c.args.budget c.deref.result.now program
    c.args.model.now c.in-Ok-schedule_of.schedule text.items c.requires.model
    (c.deref.ensures.value ∙ (c.in-Ok.ensures.deps ∙ ap (covers_of c.args.budget []) c.requires.model)) found given)
    (c.given_text.ensures program c.requires.kernel (found.searches.0 ∙ c.requires.model))

pub returns : goal.returns
returns c =
    IfOk-weaker c.line_text.result _ _
    (λ text told. kept_certified c.args.budget c.deref.result.now (program_of c.args.kernel.now) c.args.model.now
    c.in-Err-schedule_of.line text.items c.requires.model
    (c.deref.ensures.value ∙ (c.in-Ok.ensures.deps ∙ ap (covers_of c.args.budget []) c.requires.model))
    c.in-Err-schedule_of.ensures.kept told)
    c.line_text.ensures
