use Rattle.whole_numbers.proofs.Common.{rules, sym, subst, ap₂, List, All, ℕ, ◌+◌, ◌≡◌, Affine}
use Rattle.affine_forms.specs.Parts.{variables_of}
use Rattle.integer_sets.specs.Constraints.{IsSized, variables_in}
use Rattle.fm_projection.specs.Tightest.{tightest}
use Rattle.fm_projection.proofs.TightestRows.{kept}
use Rattle.fm_projection.proofs.tightest.tightened.Goals as goal

pub from_parts-requires : goal.from_parts-requires
from_parts-requires c =
    let n = c.dimensions-dimensions.result + c.parameters-parameters.result in
    let es = c.into_parts-equalities.result.0.items in
    let rs = c.into_parts-equalities.result.1.items in
    let size : variables_in c.args.system ≡ n =
    sym (ap₂ (λ (d p : ℕ). d + p) c.dimensions-dimensions.ensures c.parameters-parameters.ensures) in
    let sized : IsSized n es rs = subst (λ k. IsSized k es rs) size c.into_parts-equalities.ensures.sized in
    let rows : c.in_ok-rows.rows.items ≡ tightest rs = search rules in
    record {
      sized = record {
        equalities_sized = sized.equalities_sized;
        rows_sized = subst (λ (fs : List Affine). All (λ f. variables_of f ≡ n) fs) (sym rows)
            (kept (λ f. variables_of f ≡ n) rs sized.rows_sized);
      };
    }
