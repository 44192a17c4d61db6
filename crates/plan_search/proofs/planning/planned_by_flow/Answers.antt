-- The plan over the reads with their last writers is one for runs in which each instance has a copy of its own.
use Rattle.scop_syntax.proofs.Common.{◌≡◌, ◌∙◌, ap, sym, subst, map, IfOk-weaker, program_of}
use Rattle.iteration_domains.specs.Model.{KernelModel}
use Rattle.dataflow.specs.Flow.{AreLastSources, flow_of, tree_in}
use Rattle.plan_tree.specs.Schedules.{arrays_of}
use Rattle.plan_search.specs.Found.{LieBetween}
use Rattle.plan_search.specs.Planned.{flow_in}
use Rattle.plan_search.proofs.FlowLemmas.{AreFlow, FlowLaws, are_flow, flow_holds, plan_of_flow}
use Rattle.plan_search.proofs.planning.planned_by_flow.Goals.{After-deref}
use Rattle.plan_search.proofs.planning.planned_by_flow.Goals as goal

pub flow-requires-clause-kernel : goal.flow-requires-clause-kernel
flow-requires-clause-kernel c = (program_of c.args.kernel.now, c.requires.kernel, c.requires.model)

pub flow-requires-clause-sources : goal.flow-requires-clause-sources
flow-requires-clause-sources c =
    subst (λ (m : KernelModel). AreLastSources m c.args.sources.now) (sym c.requires.model)
    (c.args.budget, c.requires.sources.run)

pub flow-requires-clause-resolved : goal.flow-requires-clause-resolved
flow-requires-clause-resolved c = c.requires.sources.resolved

laws : (c : After-deref) → FlowLaws
laws c = record {
  held = c.flow_holds_the_sources.ensures.sources;
  between = λ model sources d is i. c.flow_lies_between_statements.ensures model (map tree_in sources) d is i;
  schedule = c.flow_schedules_have_flow_trees.ensures.schedule;
  trees = c.flow_schedules_have_flow_trees.ensures.trees;
}

-- the dependences are the flow of the sources
flow_is : (c : After-deref) → c.deref.result.now ≡ flow_in (program_of c.args.kernel.now) c.args.sources.now
flow_is c =
    c.deref.ensures.value
    ∙ (c.in-Ok.ensures.deps
    ∙ ap (λ (m : KernelModel). flow_of m (map tree_in c.args.sources.now)) c.requires.model)

holds : (c : After-deref) → AreFlow (program_of c.args.kernel.now) c.deref.result.now
holds c =
    are_flow (laws c) c.args.budget (program_of c.args.kernel.now) c.args.sources.now c.deref.result.now
    c.requires.kernel c.requires.sources (flow_is c)

pub plan_over-requires-clause-between : goal.plan_over-requires-clause-between
plan_over-requires-clause-between c =
    subst (λ (m : KernelModel). LieBetween m c.deref.result.now) (sym c.requires.model) (holds c).between

pub plan_over-requires-clause-held : goal.plan_over-requires-clause-held
plan_over-requires-clause-held c =
    let program = program_of c.args.kernel.now in
    (arrays_of program, flow_holds (laws c) program c.deref.result.now (holds c))

pub returns : goal.returns
returns c =
    let at = (goal.at.returns c).After-deref in
    let program = program_of c.args.kernel.now in
    let deps = c.deref.result.now in
    IfOk-weaker c.plan_over.result _ _
    (λ p made. plan_of_flow (laws at) c.args.tile c.args.budget c.args.report deps (arrays_of program) program
    c.args.sources.now p c.requires.tile.0 c.requires.sources (flow_is at) (holds at) made)
    (c.plan_over.ensures (arrays_of program) (flow_holds (laws at) program deps (holds at)))
