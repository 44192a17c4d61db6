use Rattle.scop_syntax.proofs.Common.{◌∙◌, map, subst, sym, string_bytes}
use Rattle.command_callers.proofs.CallLemmas.{certificate_line, rejected_by}
use Rattle.polypar.specs.Answered.{IsDeserved}
use Rattle.command_callers.proofs.calls.answered_certificate.Goals as goal

pub returns-clause-checked : goal.returns-clause-checked
returns-clause-checked g c = λ is done. c.plain_command.ensures.checked is done

pub returns-clause-certified : goal.returns-clause-certified
returns-clause-certified g c = λ budget is done.
    certificate_line budget (g.S.Source.shows c.args.source.now).left (g.O.Sink.shows c.args.out.now).taken
    (g.O.Sink.shows c.plain_command.new.out).taken (c.plain_command.ensures.certified budget is done)

pub returns-clause-rejected : goal.returns-clause-rejected
returns-clause-rejected g c = λ kind line is.
    let words = map string_bytes c.args.words.now in
    let left = (g.S.Source.shows c.args.source.now).left in
    let not_done = c.plain_command.ensures.deserved (λ e. let both = sym is ∙ e in cc) (λ e. let both = sym is ∙ e in cc)
    (λ e. let both = sym is ∙ e in cc) in
    rejected_by words left kind line (subst (λ s. IsDeserved words left s) is not_done)
