use Rattle.whole_numbers.proofs.Common.{rules, ◌≡◌, ◌+◌, ◌-◌, ◌++◌, subst, sym, ℕ, All, arith, All-append, Affine}
use Rattle.affine_forms.specs.Parts.{variables_of}
use Rattle.fm_projection.specs.Alone.{range_rows}
use Rattle.fm_projection.proofs.RangeRows.{range_sized}
use Rattle.traced_projections.specs.Tracing.{Row, numbered}
use Rattle.traced_projections.proofs.Overs.{AllForms, numbered_all}
use Rattle.traced_projections.proofs.alone.with_range.Goals as goal

pub invariant_of-result : goal.invariant_of-result
invariant_of-result c =
    let d = c.traced.inside.dimensions in
    let n = d + c.traced.inside.parameters in
    let P : ℕ → Affine → Type 0 = λ k f. variables_of f ≡ k in
    let own = c.traced.invariant.over in
    let old = c.traced.inside.rows.items in
    let range = range_rows n d (n - d) in
    let none : n ≡ n + 0 = omega arith in
    let same : c.in_ok-equalities.equalities.items ≡ c.traced.inside.equalities.items = search rules in
    let made : c.push_numbered.new.rows.items ≡ old ++ numbered 0 range = search rules in
    let all = All-append (λ (r : Row). P n r.form) old (numbered 0 range) own.rows_over
    (numbered_all (P n) 0 range (range_sized n d (n - d))) in
    record {
      over = record {
        equalities_over = subst (λ k. All (P k) c.in_ok-equalities.equalities.items) none
            (subst (All (P n)) (sym same) own.equalities_over);
        rows_over = subst (λ k. AllForms (P k) c.push_numbered.new.rows.items) none
            (subst (AllForms (P n)) (sym made) all);
      };
      few = let few = c.traced.invariant.few in omega (arith, few);
    }
