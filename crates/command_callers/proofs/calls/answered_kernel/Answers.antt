use Rattle.scop_syntax.proofs.Common.{false, subst, Appends}
use Rattle.loop_tree.specs.Plans.{AreMarked}
use Rattle.polypar.proofs.ReadingLemmas.{planned_carried}
use Rattle.command_callers.proofs.calls.answered_kernel.Goals as goal

pub returns-clause-schedule : goal.returns-clause-schedule
returns-clause-schedule g c = λ budget is done. c.plain_command.ensures.scheduled budget is done

pub returns-clause-sources : goal.returns-clause-sources
returns-clause-sources g c = λ budget is done.
    let prints = c.plain_command.ensures.sourced budget is done in
    let old = (g.O.Sink.shows c.args.out.now).taken in
    let new = (g.O.Sink.shows c.plain_command.new.out).taken in (
      prints.0,
      prints.1,
      prints.4.sources,
      prints.3,
      prints.4.run,
      prints.4.last,
      prints.4.made,
      subst (λ text. Appends old new text) prints.4.told prints.5,
    )

pub returns-clause-loops : goal.returns-clause-loops
returns-clause-loops g c = λ tile budget is done.
    let prints = c.plain_command.ensures.emitted tile budget is done in
    let old = (g.O.Sink.shows c.args.out.now).taken in
    let new = (g.O.Sink.shows c.plain_command.new.out).taken in (
      prints.0,
      prints.1,
      prints.4.plan,
      prints.4.trees,
      prints.2.lines,
      prints.3,
      prints.4.planned,
      subst (λ text. Appends old new text) prints.4.text prints.5,
      prints.6,
      λ params size statements has is some.
          (subst (λ plan. AreMarked plan prints.4.trees params) is
          ((planned_carried tile budget false prints.1.program prints.4.plan prints.2.lines prints.4.trees
          prints.4.planned).carry_out params has).marked).0 some,
    )
