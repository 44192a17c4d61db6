use Rattle.scop_syntax.proofs.Common.{rules, ◌∙◌, ◌<◌, ℤ, List, [], ◌∷◌, length, drop, ap, sym, arith}
use Rattle.loop_tree.specs.steps.Chain.{values_in}
use Rattle.loop_tree.proofs.Chains.{length_within, values_row, values_within}
use Rattle.loop_tree.proofs.Products.{drop_parts}
use Rattle.loop_tree.proofs.outer.+behind.Goals as goal

pub behind-requires : goal.behind-requires
behind-requires t c =
    let l = length_within c.args.outer.now c.in-Within.inner c.in-Within.field-1 c.in-Within.is in
    let less : length (values_in c.in-Within.inner.now) < length (values_in c.args.outer.now) = omega (arith, l) in
    search rules

pub returns-in-Row : goal.returns-in-Row
returns-in-Row t c =
    c.behind_some.ensures
    ∙ ap (λ (xs : List ℤ). drop (length xs) c.args.numbers.now)
    (sym (ap values_in c.in-Row.is ∙ values_row c.in-Row.values))

pub returns-in-Within : goal.returns-in-Within
returns-in-Within t c =
    let vs = values_in c.in-Within.inner.now in
    let x = c.in-Within.field-1 in
    let within = ap values_in c.in-Within.is ∙ values_within c.in-Within.inner x in
    c.behind_first.ensures
    ∙ (ap (λ (xs : List ℤ). drop 1 xs) c.behind.ensures
    ∙ (sym (drop_parts c.args.numbers.now vs (x ∷ []))
    ∙ ap (λ (xs : List ℤ). drop (length xs) c.args.numbers.now) (sym within)))
