use Rattle.whole_numbers.proofs.Common.{◌≡◌, ◌∙◌, ◌+◌, ◌-◌, ◌<◌, suc, ap, ap₂, subst, arith, ℕ, List, All, map, Affine}
use Rattle.affine_forms.specs.Parts.{variables_of}
use Rattle.fractions.specs.Elimination.{narrowed}
use Rattle.integer_sets.specs.Constraints.{variables_in, system_of}
use Rattle.fm_projection.proofs.RemovedEntries.{narrowed_sized}
use Rattle.fm_projection.proofs.columns.without_column.Goals as goal

pub from_parts-requires : goal.from_parts-requires
from_parts-requires c =
    let s = c.args.system.now in
    let v = c.args.dimension in
    let n = c.dimensions.result - 1 + c.parameters.result in
    let inside : v < s.dimensions = c.requires in
    let d : c.dimensions.result ≡ s.dimensions = c.dimensions.ensures in
    let p : c.parameters.result ≡ s.parameters = c.parameters.ensures in
    let size : variables_in s ≡ suc n = omega arith in
    let low : v < suc n = omega arith in
    let es = c.equalities.result.now in
    let rs = c.rows.result.now in
    let P : ℕ → List Affine → Type 0 = λ m fs. All (λ f. variables_of f ≡ m) fs in
    record {
      sized = record {
        equalities_sized = narrowed_sized v n es c.in_ok-equalities.equalities.items
            (subst (λ m. P m es) size c.equalities.ensures.sized) low c.in_ok-equalities.ensures;
        rows_sized = narrowed_sized v n rs c.in_ok-rows.rows.items
            (subst (λ m. P m rs) size c.rows.ensures.sized) low c.in_ok-rows.ensures;
      };
    }

pub returns : goal.returns
returns c =
    let s = c.args.system.now in
    let v = c.args.dimension in
    let es = c.in_ok-equalities.equalities.items in
    let rs = c.in_ok-rows.rows.items in
    let narrow = λ (fs : List Affine). map (narrowed v) fs in
    let first = c.in_ok-equalities.ensures ∙ ap narrow c.equalities.ensures.forms in
    let second = c.in_ok-rows.ensures ∙ ap narrow c.rows.ensures.forms in
    c.from_parts.ensures
    ∙ ap₂ (λ (k p : ℕ). system_of (k - 1) p es rs) c.dimensions.ensures c.parameters.ensures
    ∙ ap₂ (λ (fs gs : List Affine). system_of (s.dimensions - 1) s.parameters fs gs) first second
