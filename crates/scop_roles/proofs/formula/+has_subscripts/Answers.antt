use Rattle.scop_syntax.proofs.Common.{rules, ◌≡◌, ◌-◌, ◌==◌, ◌<◌, ◌≤◌, nat_lt, false, length, map, ap, sym, ◌∙◌, arith}
use Rattle.scop_syntax.proofs.Common.{length-map}
use Rattle.scop_roles.specs.Formula.{formula_of, subscripts}
use Rattle.scop_roles.proofs.Views.{formula_index}
use Rattle.scop_roles.proofs.Chains.{index_counts, index_lacks}
use Rattle.scop_roles.proofs.formula.+has_subscripts.Goals as goal

pub returns-then-len-count : goal.returns-then-len-count
returns-then-len-count t c =
    let earlier = map formula_of c.in-Index.earlier.items in
    let e = ap formula_of c.in-Index.is ∙ formula_index c.in-Index.inner c.in-Index.earlier c.in-Index.field-2 in
    let d : c.deref.result.now ≡ c.in-Index.inner.value = search rules in
    let long : c.len.result ≡ length c.in-Index.earlier.items = search rules in
    let again : c.len-then-len-count.result ≡ length c.in-Index.earlier.items = search rules in
    let same : length earlier ≡ length c.in-Index.earlier.items = length-map c.in-Index.earlier.items formula_of in
    let less : length earlier < c.args.count = grind (arith, c.if-len-count.true) in
    c.has_subscripts.ensures ∙ ap (λ v. c.args.count - 1 - c.len-then-len-count.result == subscripts (formula_of v)) d
    ∙ ap (λ k. c.args.count - 1 - k == subscripts (formula_of c.in-Index.inner.value)) (again ∙ sym same)
    ∙ index_counts (formula_of c.args.formula.now) (formula_of c.in-Index.inner.value)
    (formula_of c.in-Index.field-2.value) earlier c.args.count e less

pub returns-else-len-count : goal.returns-else-len-count
returns-else-len-count t c =
    let earlier = map formula_of c.in-Index.earlier.items in
    let e = ap formula_of c.in-Index.is ∙ formula_index c.in-Index.inner c.in-Index.earlier c.in-Index.field-2 in
    let long : c.len.result ≡ length c.in-Index.earlier.items = search rules in
    let same : length earlier ≡ length c.in-Index.earlier.items = length-map c.in-Index.earlier.items formula_of in
    let less : c.args.count ≤ length earlier = grind (arith, c.if-len-count.false) in
    let no : nat_lt c.len.result c.args.count ≡ false = grind (arith, c.if-len-count.false) in
    no
    ∙ index_lacks (formula_of c.args.formula.now) (formula_of c.in-Index.inner.value)
    (formula_of c.in-Index.field-2.value) earlier c.args.count e less
