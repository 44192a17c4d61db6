-- The plan over the covers is one of the program.
use Rattle.scop_syntax.proofs.Common.{◌∙◌, ap, sym, subst, IfOk-weaker, program_of}
use Rattle.dataflow.specs.Covering.{covers_of}
use Rattle.plan_search.specs.Found.{HoldFor, LieBetween}
use Rattle.plan_search.proofs.PlanLemmas.{plan_of_covers}
use Rattle.plan_search.proofs.planning.planned.Goals as goal

pub covers-requires : goal.covers-requires
covers-requires c = (program_of c.args.kernel.now, c.requires.kernel, c.requires.model)

pub plan_over-requires-clause-between : goal.plan_over-requires-clause-between
plan_over-requires-clause-between c =
    subst (LieBetween c.args.model.now) (sym c.deref.ensures.value) c.in-Ok.ensures.between

pub plan_over-requires-clause-held : goal.plan_over-requires-clause-held
plan_over-requires-clause-held c = (
  c.args.marked.now,
  subst (HoldFor (program_of c.args.kernel.now) c.args.marked.now) (sym c.deref.ensures.value)
      (c.in-Ok.ensures.held (program_of c.args.kernel.now) c.requires.model),
)

pub returns : goal.returns
returns c =
    let program = program_of c.args.kernel.now in
    let marked = c.args.marked.now in
    IfOk-weaker c.plan_over.result _ _
    (λ p made. plan_of_covers c.args.tile c.args.budget c.args.report c.deref.result.now marked program p
    (c.deref.ensures.value ∙ (c.in-Ok.ensures.deps ∙ ap (covers_of c.args.budget marked) c.requires.model)) made)
    (c.plan_over.ensures marked
    (subst (HoldFor program marked) (sym c.deref.ensures.value) (c.in-Ok.ensures.held program c.requires.model)))
