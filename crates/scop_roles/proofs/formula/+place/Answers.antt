use Rattle.scop_syntax.proofs.Common.{rules, ◌≡◌, map, ap, ◌∙◌}
use Rattle.scop_roles.specs.Formula.{formula_of, place}
use Rattle.scop_roles.proofs.Views.{formula_index}
use Rattle.scop_roles.proofs.Chains.{index_place}
use Rattle.scop_roles.proofs.formula.+place.Goals as goal

pub returns-in-Index : goal.returns-in-Index
returns-in-Index t c =
    let e = ap formula_of c.in-Index.is ∙ formula_index c.in-Index.inner c.in-Index.field-1 c.in-Index.field-2 in
    let d : c.deref.result.now ≡ c.in-Index.inner.value = search rules in
    c.place.ensures ∙ ap (λ v. place (formula_of v)) d
    ∙ index_place (formula_of c.args.formula.now) (formula_of c.in-Index.inner.value)
    (formula_of c.in-Index.field-2.value) (map formula_of c.in-Index.field-1.items) e
