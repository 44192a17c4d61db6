use Rattle.whole_numbers.proofs.Common.{rules, ◌≡◌, ◌∙◌, ◌++◌, suc, sym, ap, ap₂, ℤ, List, take, drop, FitsSigned, w128}
use Rattle.whole_numbers.proofs.Common.{to_z-of_z, form_of}
use Rattle.wide_math.specs.declared.Wide.{Wide}
use Rattle.fractions.specs.Elimination.{removed}
use Rattle.fm_projection.proofs.RemovedEntries.{removed_is, same_ok}
use Rattle.fm_projection.proofs.columns.narrow_form.Goals as goal

pub returns : goal.returns
returns c =
    let f = c.args.form.now in
    let v = c.args.variable in
    let items : c.in_ok-numbers.numbers.items ≡ f.coefficients = search rules in
    let line : c.deref.result.now ≡ removed v f.coefficients =
    c.deref.ensures.value ∙ c.remove.ensures.items
    ∙ ap (λ (zs : List ℤ). take v zs ++ drop (suc v) zs) items
    ∙ sym (removed_is v f.coefficients) in
    let fits : FitsSigned w128 c.constant.result = search rules in
    let formed = simp to_z-of_z at c.in-Ok.ensures.form in
    let made = same_ok {E = Wide} (form_of c.deref.result.now c.constant.result) c.in-Ok.narrow formed in
    sym made ∙ ap₂ (λ (zs : List ℤ) (z : ℤ). form_of zs z) line c.constant.ensures
