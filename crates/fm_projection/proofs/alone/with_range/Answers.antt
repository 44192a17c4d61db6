use Rattle.whole_numbers.proofs.Common.{◌≡◌, ◌+◌, ◌-◌, ap, sym, subst, arith, ℕ, List, All, All-append, Affine}
use Rattle.affine_forms.specs.Parts.{variables_of}
use Rattle.integer_sets.specs.Constraints.{Constraints, variables_in}
use Rattle.fm_projection.specs.Alone.{range_rows}
use Rattle.fm_projection.proofs.RangeRows.{range_sized}
use Rattle.fm_projection.proofs.alone.with_range.Goals as goal

pub from_parts-requires : goal.from_parts-requires
from_parts-requires c =
    let d = c.dimensions-dimensions.result in
    let v = d + c.parameters.result in
    let sized = c.into_parts-equalities.ensures.sized in
    let own = c.into_parts-equalities.result.1.items in
    let n : variables_in c.in_ok-copy.copy ≡ v + 0 =
    ap (λ (w : Constraints). variables_in w) c.in_ok-copy.ensures in
    let P : ℕ → Affine → Type 0 = λ k f. variables_of f ≡ k in
    let more : All (P (v + 0)) (range_rows v d (v - d)) =
    subst (λ k. All (P k) (range_rows v d (v - d))) (omega arith) (range_sized v d (v - d)) in
    record {
      sized = record {
        equalities_sized =
            subst (λ k. All (P k) c.into_parts-equalities.result.0.items) n sized.equalities_sized;
        rows_sized = subst (λ (fs : List Affine). All (P (v + 0)) fs) (sym c.in_ok-append_range.ensures)
            (All-append (P (v + 0)) own (range_rows v d (v - d)) (subst (λ k. All (P k) own) n sized.rows_sized) more);
      };
    }
