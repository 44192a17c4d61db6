use Rattle.scop_syntax.proofs.Common.{◌∙◌, ℕ, List, map, sym, subst}
use Rattle.schedule_rows.specs.Outcomes.{ends}
use Rattle.pluto_search.specs.Questions.{ComesAnswered}
use Rattle.schedule_rows.specs.Schedule.{block_of, loops_in}
use Rattle.pluto_search.specs.Searching.{AreBetween}
use Rattle.pluto_search.proofs.RunSteps.{comes_schedule, comes_found}
use Rattle.pluto_search.proofs.searching.search.Goals as goal
use Rattle.pluto_search.proofs.searching.search.Goals.{In-Ok-run}

pub run-requires : goal.run-requires
run-requires c =
    let model = c.args.model.now in
    let deps = c.args.deps.now in
    subst (λ (m : ℕ). AreBetween m c.deref.result.now deps) (sym c.parameters.ensures.parameters)
    (subst (λ (loops : List ℕ). AreBetween model.parameters loops deps)
    (sym (c.deref.ensures.value ∙ c.in-Ok.ensures.loops)) c.requires)

-- the blocks are those of the run over the model's own numbers
comes : (c : In-Ok-run) → ComesAnswered c.args.model.now.parameters (loops_in c.args.model.now) c.args.budget
    c.args.deps.now (ends (map block_of c.in-Ok-run.blocks.items))
comes c =
    let model = c.args.model.now in
    let deps = c.args.deps.now in
    let blocks = map block_of c.in-Ok-run.blocks.items in
    subst (λ (m : ℕ). ComesAnswered m (loops_in model) c.args.budget deps (ends blocks))
    c.parameters.ensures.parameters
    (subst (λ (loops : List ℕ). ComesAnswered c.parameters.result loops c.args.budget deps (ends blocks))
    (c.deref.ensures.value ∙ c.in-Ok.ensures.loops)
    c.in-Ok-run.ensures)

pub of-requires : goal.of-requires
of-requires c =
    comes_schedule c.args.model.now.parameters (loops_in c.args.model.now) c.args.budget c.args.deps.now
    (map block_of c.in-Ok-run.blocks.items) (comes (goal.at.of-requires c).In-Ok-run)

pub returns : goal.returns
returns c = record {
  search = comes_found c.args.model.now c.args.deps.now c.args.budget (map block_of c.in-Ok-run.blocks.items)
      c.in-Ok-of.schedule (comes (goal.at.returns c).In-Ok-run) c.in-Ok-of.ensures;
}
