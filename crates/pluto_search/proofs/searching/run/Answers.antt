use Rattle.scop_syntax.proofs.Common.{◌≡◌, ◌∙◌, ap, subst, sym, Ok, Result}
use Rattle.schedule_rows.specs.Next.{State}
use Rattle.pluto_search.specs.declared.kept.Kept.TheVariants as kept
use Rattle.pluto_search.specs.declared.state.Search.{Search}
use Rattle.pluto_search.specs.declared.state.Step.TheVariants as step
use Rattle.pluto_search.specs.steps.Steps.{state_of, AreRules, KeepsAt, Steps}
use Rattle.pluto_search.proofs.QuestionStops.{stop_first, keeps}
use Rattle.pluto_search.proofs.RunSteps.{falls, answered_more}
use Rattle.pluto_search.proofs.searching.run.Goals as goal
use Rattle.pluto_search.proofs.searching.run.Goals.{In-Ok-Goes}

-- a step of the same search
told : (g h : Search) (s : State) (r q : Result step.the_data kept.the_data) → h ≡ g → r ≡ q → Steps h s r
    → Steps g s q
told g h s r q e f steps = subst (Steps g s) f (subst (λ (k : Search). Steps k s r) e steps)

goes : (c : In-Ok-Goes) → Steps c.args.search.now (state_of c.loop-kept.progress) (Ok (step.Goes c.in-Ok-Goes.next))
goes c =
    told c.args.search.now c.loop-kept.progress.search.now (state_of c.loop-kept.progress) c.next_item.result _
    c.loop-kept.invariant.0.search (c.in-Ok-Goes.is ∙ ap Ok c.in-Ok-Goes.field-0-is) c.next_item.ensures

pub next_item-requires : goal.next_item-requires
next_item-requires c =
    let own = c.loop-kept.invariant.0 in
    subst (λ (g : Search). AreRules g.budget c.loop-kept.progress.ruled.items) (sym own.search) own.rules

pub returns-in-Err : goal.returns-in-Err
returns-in-Err c = stop_first c.args.search.now c.args.deps.now c.in-Err.kept c.in-Err.ensures

pub returns-in-Err-next_item : goal.returns-in-Err-next_item
returns-in-Err-next_item c =
    let s = state_of c.loop-kept.progress in
    keeps c.args.search.now c.args.deps.now s c.in-Err-next_item.kept c.loop-kept.invariant.1
    (subst (λ (g : Search). KeepsAt g s c.in-Err-next_item.kept) c.loop-kept.invariant.0.search
    c.in-Err-next_item.ensures)

pub returns-in-Ok-Ends : goal.returns-in-Ok-Ends
returns-in-Ok-Ends c =
    let s = state_of c.loop-kept.progress in
    let own = told c.args.search.now c.loop-kept.progress.search.now s c.next_item.result _
    c.loop-kept.invariant.0.search (c.in-Ok-Ends.is ∙ ap Ok c.in-Ok-Ends.field-0-is) c.next_item.ensures in
    record { last = s; answered = c.loop-kept.invariant.1; own = own.0; next = own.1 }

pub loop-kept-smaller : goal.loop-kept-smaller
loop-kept-smaller c =
    falls c.args.search.now (state_of c.loop-kept.progress) (state_of c.in-Ok-Goes.next)
    (goes (goal.at.loop-kept-smaller c).In-Ok-Goes).1

pub loop-kept-preserved : goal.loop-kept-preserved
loop-kept-preserved c =
    let next = goes (goal.at.loop-kept-preserved c).In-Ok-Goes in (
      next.2,
      answered_more c.args.search.now c.args.deps.now (state_of c.loop-kept.progress) (state_of c.in-Ok-Goes.next)
          c.loop-kept.invariant.1 next.0 next.1,
    )
