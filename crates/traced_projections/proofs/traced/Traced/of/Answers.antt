use Rattle.whole_numbers.proofs.Common.{rules, ◌≡◌, ◌+◌, ◌*◌, subst, sym, All, ℕ, arith, Affine}
use Rattle.affine_forms.specs.Parts.{variables_of}
use Rattle.traced_projections.specs.Tracing.{Row, numbered}
use Rattle.traced_projections.proofs.Overs.{numbered_all}
use Rattle.traced_projections.proofs.traced.Traced.of.Goals as goal

pub invariant_of-result : goal.invariant_of-result
invariant_of-result c =
    let n = c.dimensions.result + c.parameters-2.result in
    let s = c.args.system.now in
    let same : n ≡ s.dimensions + s.parameters = search rules in
    let P : Affine → Type 0 = λ f. variables_of f ≡ n in
    let made : c.push_numbered.new.rows.items ≡ numbered (2 * c.parameters.result) c.rows.result.now = search rules in
    let own : All P c.equalities.result.now =
    subst (λ (k : ℕ). All (λ f. variables_of f ≡ k) c.equalities.result.now) (sym same) c.equalities.ensures.sized in
    let rows : All P c.rows.result.now =
    subst (λ (k : ℕ). All (λ f. variables_of f ≡ k) c.rows.result.now) (sym same) c.rows.ensures.sized in
    record {
      over = record {
        equalities_over = subst (All P) (sym c.in_ok-equalities.ensures) own;
        rows_over = subst (All (λ (r : Row). P r.form)) (sym made)
            (numbered_all P (2 * c.parameters.result) c.rows.result.now rows);
      };
      few = let few = c.requires in omega (arith, same, few);
    }
