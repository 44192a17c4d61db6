-- The systems of a kernel's conflicts are over their variables.
use Rattle.scop_syntax.proofs.Common.{◌≡◌, ap, ℕ, List, length, All, All-weaker, Affine, In, IsKernel, IsPlaced, Placed}
use Rattle.scop_syntax.proofs.Common.{Program, ranks_of, statements_of}
use Rattle.affine_forms.specs.Parts.{variables_of}
use Rattle.integer_sets.specs.Constraints.{variables_in}
use Rattle.iteration_domains.specs.Dependence.{Dependence}
use Rattle.iteration_domains.specs.Model.{model_of}
use Rattle.conflict_deps.specs.Conflicts.{conflicts_of}
use Rattle.conflict_deps.specs.Parts.{HasParts}
use Rattle.conflict_deps.proofs.Shapes.{Fits}
use Rattle.conflict_deps.proofs.Systems.{conflict_fits}
use Rattle.plan_check.specs.Goals as goals
use Rattle.plan_check.proofs.ConflictPairs.{ends_of}
use Rattle.plan_certificate.proofs.AcceptedGoals.{IsOver}

fits_over : (n : ℕ) (fs : List Affine) → All (Fits n) fs → All (λ f. variables_of f ≡ n) fs
fits_over n fs all = All-weaker (Fits n) (λ f. variables_of f ≡ n) (λ f fits. fits.variables) fs all

pub conflict_over : (program : Program) (dep : Dependence) → In dep (conflicts_of (model_of program))
    → HasParts (model_of program) dep → IsKernel program
    → ((p : Placed) → In p (statements_of program) → IsPlaced (ranks_of program) (length program.parameters) p)
    → IsOver (goals.loops_in (model_of program)) (model_of program).parameters dep
conflict_over program dep among parts kernel placed =
    let fit = conflict_fits program dep kernel placed among in
    let n = variables_in dep.system in
    let ends = ends_of (model_of program) dep parts in
    record {
      sized = record {
        equalities_sized = fits_over n dep.system.equalities fit.equalities;
        rows_sized = fits_over n dep.system.rows fit.rows;
      };
      source = ends.source_loops;
      target = ends.target_loops;
      dimensions = ends.dimensions;
      parameters = ap (λ (z : Dependence). z.system.parameters) parts.is;
    }
