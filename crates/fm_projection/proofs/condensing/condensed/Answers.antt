use Rattle.whole_numbers.proofs.Common.{◌≡◌, ◌+◌, [], List, ℕ, ap₂, subst, sym, All-nil, Affine}
use Rattle.affine_forms.specs.Parts.{variables_of}
use Rattle.integer_sets.specs.Constraints.{variables_in}
use Rattle.fm_projection.proofs.CondensedSystems.{AreOf, equalities_sized, rows_sized}
use Rattle.fm_projection.proofs.condensing.condensed.Goals as goal

pub from_parts-requires : goal.from_parts-requires
from_parts-requires c =
    let n = c.dimensions.result + c.parameters.result in
    let size : variables_in c.args.system.now ≡ n =
    sym (ap₂ (λ (d p : ℕ). d + p) c.dimensions.ensures c.parameters.ensures) in
    let none = All-nil (λ (f : Affine). variables_of f ≡ n) in
    let es = c.equalities.result.now in
    let rs = c.rows.result.now in
    let sized_equalities = subst (λ (k : ℕ). AreOf k es) size c.equalities.ensures.sized in
    let sized_rows = subst (λ (k : ℕ). AreOf k rs) size c.rows.ensures.sized in
    record {
      sized = record {
        equalities_sized = subst (λ (fs : List Affine). AreOf n fs) (sym c.in_ok-equalities.ensures)
            (equalities_sized n [] es none sized_equalities);
        rows_sized = subst (λ (fs : List Affine). AreOf n fs) (sym c.in_ok-rows.ensures)
            (rows_sized n c.deref.result.now [] rs none sized_rows);
      };
    }
