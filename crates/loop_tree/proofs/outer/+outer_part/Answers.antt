use Rattle.scop_syntax.proofs.Common.{◌≡◌, ◌∙◌, ℤ, pos, List, [], ◌∷◌, length, drop, ap, ap₂, subst, sym, rules, to_z}
use Rattle.scop_syntax.proofs.Common.{of_z, ◌<◌, arith, length-append, ◌+ℤ◌, FitsSigned, w128, to_z-of_z, dot}
use Rattle.scop_syntax.proofs.Common.{add_zero_left, dot-split}
use Rattle.loop_tree.specs.steps.Chain.{values_in}
use Rattle.loop_tree.specs.Fits.{SumsFit}
use Rattle.loop_tree.proofs.Chains.{values_row, values_within}
use Rattle.loop_tree.proofs.Products.{drop_parts, fits_back, fits_front}
use Rattle.loop_tree.proofs.outer.+outer_part.Goals as goal

pub outer_part-part-requires : goal.outer_part-part-requires
outer_part-part-requires t c =
    let inner = c.in-Within.inner in
    let cs = c.args.coefficients.now in
    let within = ap values_in c.in-Within.is ∙ values_within inner c.in-Within.value in
    let fits : SumsFit (pos 0) cs (values_in inner.now) =
    fits_front (pos 0) cs (values_in inner.now) (c.in-Within.value ∷ [])
    (subst (SumsFit (pos 0) cs) within c.requires) in
    let l = ap (λ (xs : List ℤ). length xs) within ∙ length-append (values_in inner.now) (c.in-Within.value ∷ []) in
    let less : length (values_in inner.now) < length (values_in c.args.outer.now) = omega (arith, l) in
    search rules

pub with_entry-requires : goal.with_entry-requires
with_entry-requires t c =
    let inner = c.in-Within.inner in
    let x = c.in-Within.value in
    let cs = c.args.coefficients.now in
    let part = c.outer_part-part.result in
    let vs = values_in inner.now in
    let within = ap values_in c.in-Within.is ∙ values_within inner x in
    let back = fits_back (pos 0) cs vs (x ∷ []) (subst (SumsFit (pos 0) cs) within c.requires) in
    let zero : pos 0 +ℤ dot cs vs ≡ part.sum = add_zero_left (dot cs vs) ∙ sym c.outer_part-part.ensures.sum in
    let whole : SumsFit part.sum part.rest.now (x ∷ []) =
    subst (λ (n : ℤ). SumsFit n part.rest.now (x ∷ [])) zero
    (subst (λ (ds : List ℤ). SumsFit (pos 0 +ℤ dot cs vs) ds (x ∷ [])) (sym c.outer_part-part.ensures.rest) back) in
    let fits_sum : FitsSigned w128 part.sum = search rules in
    let fits_value : FitsSigned w128 x = search rules in
    subst (λ (n : ℤ). SumsFit n part.rest.now (to_z w128 (of_z w128 x) ∷ [])) (sym (to_z-of_z w128 part.sum fits_sum))
    (subst (λ (y : ℤ). SumsFit part.sum part.rest.now (y ∷ [])) (sym (to_z-of_z w128 x fits_value)) whole)

pub with_row-requires : goal.with_row-requires
with_row-requires t c =
    subst (λ (xs : List ℤ). SumsFit (pos 0) c.args.coefficients.now xs)
    (ap values_in c.in-Row.is ∙ values_row c.in-Row.values) c.requires

pub returns-in-Row-clause-sum : goal.returns-in-Row-clause-sum
returns-in-Row-clause-sum t c =
    let cs = c.args.coefficients.now in
    c.with_row.ensures.sum
    ∙ (add_zero_left (dot cs c.in-Row.values.now)
    ∙ ap (λ (xs : List ℤ). dot cs xs) (sym (ap values_in c.in-Row.is ∙ values_row c.in-Row.values)))

pub returns-in-Row-clause-rest : goal.returns-in-Row-clause-rest
returns-in-Row-clause-rest t c =
    c.with_row.ensures.rest
    ∙ ap (λ (xs : List ℤ). drop (length xs) c.args.coefficients.now)
    (sym (ap values_in c.in-Row.is ∙ values_row c.in-Row.values))

pub returns-in-Within-clause-sum : goal.returns-in-Within-clause-sum
returns-in-Within-clause-sum t c =
    let inner = c.in-Within.inner in
    let x = c.in-Within.value in
    let cs = c.args.coefficients.now in
    let part = c.outer_part-part.result in
    let vs = values_in inner.now in
    let within = ap values_in c.in-Within.is ∙ values_within inner x in
    let fits_sum : FitsSigned w128 part.sum = search rules in
    let fits_value : FitsSigned w128 x = search rules in
    let told : c.with_entry.result.sum ≡ part.sum +ℤ dot part.rest.now (x ∷ []) =
    c.with_entry.ensures.sum
    ∙ ap₂ (λ (n y : ℤ). n +ℤ dot part.rest.now (y ∷ [])) (to_z-of_z w128 part.sum fits_sum)
    (to_z-of_z w128 x fits_value) in
    told
    ∙ (ap₂ (λ (n : ℤ) (ds : List ℤ). n +ℤ dot ds (x ∷ [])) c.outer_part-part.ensures.sum c.outer_part-part.ensures.rest
    ∙ (sym (dot-split cs vs (x ∷ [])) ∙ ap (λ (xs : List ℤ). dot cs xs) (sym within)))

pub returns-in-Within-clause-rest : goal.returns-in-Within-clause-rest
returns-in-Within-clause-rest t c =
    let inner = c.in-Within.inner in
    let x = c.in-Within.value in
    let cs = c.args.coefficients.now in
    let within = ap values_in c.in-Within.is ∙ values_within inner x in
    c.with_entry.ensures.rest
    ∙ (ap (λ (ds : List ℤ). drop 1 ds) c.outer_part-part.ensures.rest
    ∙ (sym (drop_parts cs (values_in inner.now) (x ∷ [])) ∙ ap (λ (xs : List ℤ). drop (length xs) cs) (sym within)))
