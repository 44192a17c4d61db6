use Rattle.scop_syntax.proofs.Common.{◌≡◌, [], ◌∷◌, ◌++◌, map, fold, ap, sym, subst, ◌∙◌, refl, arith}
use Rattle.scop_expressions.specs.Op.TheVariants as op
use Rattle.scop_roles.specs.Formula.{argument_of, formula_of, place, with_argument}
use Rattle.scop_roles.specs.Values.{read_places}
use Rattle.scop_roles.proofs.Views.{formula_index, formula_unary, formula_cast, formula_commas, formula_binary}
use Rattle.scop_roles.proofs.Chains.{makes_next, makes_whole, place_indexed, read_more}
use Rattle.scop_roles.proofs.FormulaValues.{on_ok}
use Rattle.scop_roles.proofs.values.+reading.Goals as goal

pub push_places-loop-other-preserved : goal.push_places-loop-other-preserved
push_places-loop-other-preserved t c f xs h =
    let l = c.loop-other in
    let other = c.other-item.result in
    let old = l.places.items in
    let new = c.push_read_places.new.places.items in
    makes_next argument_of with_argument (λ q. old ≡ xs ++ read_places q) (λ q. new ≡ xs ++ read_places q)
    c.args.others.now l.other-index other (fold with_argument f (map argument_of c.args.others.now))
    c.other-item.is c.loop-other-test.true
    (λ q here. read_more xs old new op.Comma q (formula_of other.value) other.comma here c.in-Ok.ensures)
    (l.invariant f xs h)

pub push_read_places-returns-in-Index : goal.push_read_places-returns-in-Index
push_read_places-returns-in-Index t c =
    let old = c.args.places.now.items in
    let p = formula_of c.in-Index.inner.value in
    let e = ap formula_of c.in-Index.is ∙ formula_index c.in-Index.inner c.in-Index.field-1 c.in-Index.field-2 in
    on_ok c.push_behind.result
    (λ all. all
    ∙ ap (λ at. old ++ at ∷ []) (c.place.ensures ∙ ap (λ v. place (formula_of v)) c.deref.ensures
    ∙ sym (place_indexed p (map formula_of c.in-Index.field-1.items)))
    ∙ ap (λ f. old ++ read_places f) (sym e)) c.push_behind.ensures

pub push_read_places-returns-in-Unary : goal.push_read_places-returns-in-Unary
push_read_places-returns-in-Unary t c =
    let old = c.args.places.now.items in
    let new = c.push_read_places.new.places.items in
    let e = ap formula_of c.in-Unary.is ∙ formula_unary c.in-Unary.field-0 c.in-Unary.operand c.in-Unary.field-2 in
    on_ok c.push_read_places.result
    (λ all. subst (λ v. new ≡ old ++ read_places (formula_of v)) c.deref-in-Unary.ensures all
    ∙ ap (λ f. old ++ read_places f) (sym e)) c.push_read_places.ensures

pub push_read_places-returns-in-Cast : goal.push_read_places-returns-in-Cast
push_read_places-returns-in-Cast t c =
    let old = c.args.places.now.items in
    let new = c.push_read_places-in-Cast.new.places.items in
    let e = ap formula_of c.in-Cast.is ∙ formula_cast c.in-Cast.field-0 c.in-Cast.operand c.in-Cast.field-2 in
    on_ok c.push_read_places-in-Cast.result
    (λ all. subst (λ v. new ≡ old ++ read_places (formula_of v)) c.deref-in-Cast.ensures all
    ∙ ap (λ f. old ++ read_places f) (sym e)) c.push_read_places-in-Cast.ensures

pub push_read_places-returns-in-Ok-push_places : goal.push_read_places-returns-in-Ok-push_places
push_read_places-returns-in-Ok-push_places t c =
    let old = c.args.places.now.items in
    let one = c.push_read_places-in-Commas.new.places.items in
    let two = c.push_places.new.places.items in
    let all = c.push_read_places-in-Commas-2.new.places.items in
    let f = formula_of c.in-Commas.first.value in
    let g = formula_of c.in-Commas.last.value in
    let left = fold with_argument f (map argument_of c.in-Commas.between.items) in
    let e = ap formula_of c.in-Commas.is
    ∙ formula_commas c.in-Commas.first c.in-Commas.between c.in-Commas.last c.in-Commas.field-3 in
    let one_is = subst (λ v. one ≡ old ++ read_places (formula_of v)) c.deref-in-Commas.ensures
    c.in-Ok.ensures in
    let two_is = subst (λ gs. two ≡ old ++ read_places (fold with_argument f (map argument_of gs)))
    c.deref-in-Commas-2.ensures.value (c.in-Ok-push_places.ensures f old one_is) in
    on_ok c.push_read_places-in-Commas-2.result
    (λ last. read_more old two all op.Comma left g c.in-Commas.field-3 two_is
    (subst (λ v. all ≡ two ++ read_places (formula_of v)) c.deref-in-Commas-3.ensures last)
    ∙ ap (λ f. old ++ read_places f) (sym e))
    c.push_read_places-in-Commas-2.ensures

pub push_read_places-returns-in-Ok-push_read_places : goal.push_read_places-returns-in-Ok-push_read_places
push_read_places-returns-in-Ok-push_read_places t c =
    let old = c.args.places.now.items in
    let one = c.push_read_places-in-Binary.new.places.items in
    let all = c.push_read_places-in-Ok-push_read_places.new.places.items in
    let f = formula_of c.in-Binary.left.value in
    let g = formula_of c.in-Binary.right.value in
    let e = ap formula_of c.in-Binary.is
    ∙ formula_binary c.in-Binary.field-0 c.in-Binary.left c.in-Binary.right c.in-Binary.field-3 in
    let one_is = subst (λ v. one ≡ old ++ read_places (formula_of v)) c.deref-in-Binary.ensures
    c.in-Ok-push_read_places.ensures in
    on_ok c.push_read_places-in-Ok-push_read_places.result
    (λ last. read_more old one all c.in-Binary.field-0 f g c.in-Binary.field-3 one_is
    (subst (λ v. all ≡ one ++ read_places (formula_of v)) c.deref-in-Ok-push_read_places.ensures last)
    ∙ ap (λ f. old ++ read_places f) (sym e))
    c.push_read_places-in-Ok-push_read_places.ensures

pub push_places-loop-other-init : goal.push_places-loop-other-init
push_places-loop-other-init t c f xs h = (f, h, refl)

pub push_places-returns : goal.push_places-returns
push_places-returns t c f xs h =
    let l = c.loop-other in
    makes_whole argument_of with_argument (λ q. l.places.items ≡ xs ++ read_places q) c.args.others.now l.other-index
    (fold with_argument f (map argument_of c.args.others.now)) (omega arith) (l.invariant f xs h)
