-- The covers lie between statements of the model, and hold the covers of each program of it.
use Rattle.scop_syntax.proofs.Common.{sym, subst, IfOk-weaker}
use Rattle.iteration_domains.specs.Model.{KernelModel}
use Rattle.dataflow.specs.Covering.{covers_of}
use Rattle.plan_search.specs.Found.{HoldFor, LieBetween}
use Rattle.plan_search.proofs.schedules.covers.Goals as goal

pub returns-clause-between : goal.returns-clause-between
returns-clause-between c =
    let model = c.args.model.now in
    IfOk-weaker c.covering.result _ _
    (λ deps told. subst (LieBetween model) (sym told)
    (λ d i. c.covers_lie_between_statements.ensures model c.args.budget c.args.marked.now d c.requires i))
    c.covering.ensures.deps

pub returns-clause-held : goal.returns-clause-held
returns-clause-held c =
    let marked = c.args.marked.now in
    IfOk-weaker c.covering.result _ _
    (λ deps told program own. subst (HoldFor program marked) (sym told)
    (subst (λ (m : KernelModel). HoldFor program marked (covers_of c.args.budget marked m)) (sym own)
    (λ params has. c.covers_are_held.ensures program params c.args.budget marked has)))
    c.covering.ensures.deps
