use Rattle.scop_syntax.proofs.Common.{[]}
use Rattle.pluto_search.specs.steps.Steps.{state_of}
use Rattle.pluto_search.proofs.RunSteps.{answered_first}
use Rattle.pluto_search.proofs.RestrictedDependences.{restricts_between}
use Rattle.pluto_search.proofs.searching.take_up.Goals as goal

pub restrict_all-requires-clause-parameters : goal.restrict_all-requires-clause-parameters
restrict_all-requires-clause-parameters c d i = (c.requires d i).0.parameters

pub begin-requires : goal.begin-requires
begin-requires c =
    let g = c.args.search.now in
    restricts_between g.parameters g.loops.now [] c.args.deps.now c.in-Ok.taken.items c.requires c.in-Ok.ensures.kept

pub returns-in-Ok-begin : goal.returns-in-Ok-begin
returns-in-Ok-begin c = (
  c.in-Ok-begin.ensures.own,
  answered_first c.args.search.now c.args.deps.now c.in-Ok.taken.items (state_of c.in-Ok-begin.progress)
      c.in-Ok-begin.ensures.first c.in-Ok.ensures.kept c.in-Ok.ensures.answered,
)
