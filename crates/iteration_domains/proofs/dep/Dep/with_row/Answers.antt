use Rattle.scop_syntax.proofs.Common.{◌≡◌, ◌++◌, ◌∷◌, [], subst, ap, ◌∙◌}
use Rattle.integer_sets.specs.Constraints.{system_of}
use Rattle.iteration_domains.specs.Dependence.{Dependence}
use Rattle.iteration_domains.proofs.AddedConstraints.{row_points}
use Rattle.iteration_domains.proofs.dep.Dep.with_row.Goals as goal

pub returns-clause-points : goal.returns-clause-points
returns-clause-points c =
    row_points c.args.self.now.system c.over.result.system c.args.form
    (ap (λ (d : Dependence). d.system) c.over.ensures
    ∙ subst (λ (d : Dependence). c.in_ok-system.system
    ≡ system_of d.system.dimensions d.system.parameters d.system.equalities (d.system.rows ++ c.args.form ∷ [])) c.self.view_is c.in_ok-system.ensures)
