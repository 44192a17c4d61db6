use Rattle.whole_numbers.proofs.Common.{rules, ◌≡◌, ◌+◌, subst, sym, IfOk-weaker, Affine}
use Rattle.affine_forms.specs.Parts.{variables_of}
use Rattle.traced_projections.specs.Tracing.{IsTraced, signed}
use Rattle.traced_projections.proofs.Overs.{AllForms, signed_all}
use Rattle.traced_projections.proofs.elimination.chosen.Goals as goal

pub returns-clause-over : goal.returns-clause-over
returns-clause-over c =
    let t = c.args.traced.now in
    let P : Affine → Type 0 = λ f. variables_of f ≡ t.dimensions + t.parameters in
    let own : IsTraced t = search rules in
    IfOk-weaker c.signed.result (λ v. v.items ≡ signed c.args.sign c.args.dimension t.rows) (λ v. AllForms P v.items)
    (λ v is. subst (AllForms P) (sym is) (signed_all P c.args.sign c.args.dimension t.rows own.over.rows_over))
    (search rules)
