use Rattle.scop_syntax.proofs.Common.{◌∙◌, ◌++◌, [], ap, append-nil, subst, Option, Appends}
use Rattle.command_callers.proofs.CallLemmas.{reported}
use Rattle.report_text.specs.declared.unexpanded_line.UnexpandedLine.{UnexpandedLine}
use Rattle.polypar.specs.Runs.{unexpanded_line}
use Rattle.command_callers.proofs.calls.answered_run.Goals as goal

pub returns-clause-arrays : goal.returns-clause-arrays
returns-clause-arrays g c = λ options is done.
    let prints = c.plain_command.ensures.done options is done in (prints.0, prints.1, prints.3, prints.5)

pub returns-clause-report : goal.returns-clause-report
returns-clause-report g c = λ options is asked done.
    reported options (g.S.Source.shows c.args.source.now).left (g.O.Sink.shows c.args.out.now)
    (g.O.Sink.shows c.plain_command.new.out) (g.E.Sink.shows c.args.err.now) (g.E.Sink.shows c.plain_command.new.err)
    asked (c.plain_command.ensures.done options is done)

pub returns-clause-summary : goal.returns-clause-summary
returns-clause-summary g c = λ kernel options is done.
    let prints = c.plain_command.ensures.generated kernel options is done in
    let plan = prints.1.planned in
    let old = (g.O.Sink.shows c.args.out.now).taken in
    let new = (g.O.Sink.shows c.plain_command.new.out).taken in
    let err_old = (g.E.Sink.shows c.args.err.now).taken in
    let err_new = (g.E.Sink.shows c.plain_command.new.err).taken in (
      plan.plan,
      plan.trees,
      plan.front,
      prints.1.tiles,
      prints.1.waves,
      plan.goes.1.1,
      plan.has_tiles,
      plan.has_waves,
      subst (λ text. Appends old new text) prints.1.text prints.2,
      subst (λ lines. Appends err_old err_new lines)
          (plan.told ∙ (ap (λ (told : Option UnexpandedLine). unexpanded_line told ++ (plan.front ++ [])) plan.goes.0
          ∙ append-nil plan.front))
          prints.3,
    )
