use Rattle.scop_syntax.proofs.Common.{◌≡◌, ◌++◌, ◌∷◌, [], subst, ap, ◌∙◌}
use Rattle.integer_sets.specs.Constraints.{system_of}
use Rattle.iteration_domains.specs.Dependence.{Dependence}
use Rattle.iteration_domains.proofs.AddedConstraints.{equality_points}
use Rattle.iteration_domains.proofs.dep.Dep.with_equality.Goals as goal

pub returns-clause-points : goal.returns-clause-points
returns-clause-points c =
    equality_points c.args.self.now.system c.over.result.system c.args.form
    (ap (λ (d : Dependence). d.system) c.over.ensures
    ∙ subst (λ (d : Dependence). c.in_ok-system.system
    ≡ system_of d.system.dimensions d.system.parameters (d.system.equalities ++ c.args.form ∷ []) d.system.rows) c.self.view_is c.in_ok-system.ensures)
