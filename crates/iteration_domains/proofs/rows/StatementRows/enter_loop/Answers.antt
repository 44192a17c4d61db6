use Rattle.scop_syntax.proofs.Common.{◌≡◌, ◌+◌, ◌^◌, List, [], ◌∷◌, ◌++◌, ◌∙◌, append_assoc, length, length-append}
use Rattle.scop_syntax.proofs.Common.{rules, arith, ap, ap₂, subst, sym, Affine, composed, Head, IsCondition}
use Rattle.iteration_domains.specs.Rows.{iterator, variable, within_loop}
use Rattle.iteration_domains.specs.Sizes.{CanCompose}
use Rattle.iteration_domains.specs.Standing.{standing}
use Rattle.iteration_domains.proofs.Surroundings.{can_compose, sized-within}
use Rattle.iteration_domains.proofs.Sizes.{sizes-within}
use Rattle.iteration_domains.proofs.rows.StatementRows.enter_loop.Goals as goal

pub push_composed-requires : goal.push_composed-requires
push_composed-requires c =
    let n = c.args.self.now.variables in
    let j = c.args.self.now.loops in
    let forms = c.args.self.now.forms.items in
    let head = c.args.head.now in
    let inner = within_loop n j head forms in
    let now : c.as_slice-2.result.now ≡ inner = search rules in
    let is = c.requires.head in
    let b = sizes-within (length forms) n j head forms is.first is.stride in
    let few = c.requires.small in
    let l = length-append forms (iterator n j head forms ∷ []) in
    let condition = ap (λ (z : Head). z.condition) c.head.view_is in
    let can = can_compose n 16 (2 ^ 20 + 1) inner head.condition
    (subst (λ k. IsCondition k head.condition) (sym l) is.condition) (sized-within n j head forms c.requires.sized)
    (omega arith) (omega arith) (omega arith) in
    subst (CanCompose n c.as_slice-2.result.now) (sym condition)
    (subst (λ (fs : List Affine). CanCompose n fs head.condition) (sym now) can)

pub returns : goal.returns
returns c =
    let old = c.args.self.now in
    let n = old.variables in
    let forms = old.forms.items in
    let head = c.args.head.now in
    let inner : c.push.new.list.items ≡ within_loop n old.loops head forms =
    c.in_ok-push.ensures.pushed
    ∙ ap (λ (f : Affine). forms ++ f ∷ [])
    (c.in_ok-iterator.ensures ∙ ap (iterator n old.loops head) c.as_slice.ensures.value) in
    let condition = ap₂ (λ (f : Affine) (fs : List Affine). composed f fs n)
    (ap (λ (z : Head). z.condition) c.head.view_is) (c.as_slice-2.ensures.value ∙ inner) in
    let rows : c.push_variables.new.out.items ≡ old.rows.items ++ variable n old.loops ∷ [] =
    c.in_ok-push_variables.ensures in
    let all = c.in_ok-push_composed.ensures ∙ (ap₂ (λ (fs : List Affine) (f : Affine). fs ++ f ∷ []) rows condition
    ∙ append_assoc old.rows.items (variable n old.loops ∷ []) _) in
    ap₂ (λ (fs rs : List Affine). standing n (old.loops + 1) fs old.equalities.items rs) inner all
