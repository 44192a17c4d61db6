use Rattle.scop_syntax.proofs.Common.{◌≡◌, List, [], flat_map, ◌∙◌, ap, IfOk-weaker}
use Rattle.iteration_domains.specs.Model.{KernelModel, Modelled}
use Rattle.conflict_deps.specs.Conflicts.{conflicts_of, deps_between, sides_of}
use Rattle.contract_callers.proofs.conflicts.conflicts_of_nothing.Goals as goal

-- a model without statements has no conflicts
none : (model : KernelModel) → model.statements ≡ [] → conflicts_of model ≡ []
none model empty =
    ap (λ (statements : List Modelled). flat_map
    (λ s. flat_map (deps_between model.parameters s) (flat_map sides_of statements)) (flat_map sides_of statements))
    empty

pub returns : goal.returns
returns c = IfOk-weaker c.conflicts.result _ _ (λ deps are. are ∙ none c.args.model.now c.requires) c.conflicts.ensures
