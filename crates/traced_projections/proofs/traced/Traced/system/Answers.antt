use Rattle.whole_numbers.proofs.Common.{◌≡◌, ◌∙◌, ◌+◌, ap, subst, sym, All, All-map, Affine}
use Rattle.affine_forms.specs.Parts.{variables_of}
use Rattle.traced_projections.specs.Tracing.{Row, forms_of}
use Rattle.traced_projections.proofs.traced.Traced.system.Goals as goal

pub from_parts-requires : goal.from_parts-requires
from_parts-requires c =
    let n = c.self.inside.dimensions + c.self.inside.parameters in
    let P : Affine → Type 0 = λ f. variables_of f ≡ n in
    let over = c.self.invariant.over in
    record {
      sized = record {
        equalities_sized = subst (All P) (sym (c.in_ok-equalities.ensures ∙ c.deref.ensures.value))
            over.equalities_over;
        rows_sized = subst (All P) (sym (c.in_ok-rows.ensures ∙ ap forms_of c.deref-2.ensures.value))
            (All-map P (λ (r : Row). r.form) c.self.inside.rows.items over.rows_over);
      };
    }
