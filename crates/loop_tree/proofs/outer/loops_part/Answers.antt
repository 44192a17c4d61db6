use Rattle.scop_syntax.proofs.Common.{◌≡◌, ◌∙◌, ℤ, pos, List, length, drop, ap, ap₂, subst, sym, rules, ◌+ℤ◌}
use Rattle.scop_syntax.proofs.Common.{FitsSigned, w128, to_z-of_z, dot, add_zero_left, dot-split}
use Rattle.loop_tree.specs.steps.Chain.{values_in}
use Rattle.loop_tree.specs.Fits.{SumsFit}
use Rattle.loop_tree.proofs.Products.{drop_parts, fits_back, fits_front}
use Rattle.loop_tree.proofs.outer.loops_part.Goals as goal

pub outer_part-part-requires : goal.outer_part-part-requires
outer_part-part-requires c =
    fits_front (pos 0) c.args.coefficients.now (values_in c.args.point.now.chain.now) c.args.point.now.row.now c.requires

pub with_row-requires : goal.with_row-requires
with_row-requires c =
    let cs = c.args.coefficients.now in
    let vs = values_in c.args.point.now.chain.now in
    let row = c.args.point.now.row.now in
    let part = c.outer_part-part.result in
    let back = fits_back (pos 0) cs vs row c.requires in
    let zero : pos 0 +ℤ dot cs vs ≡ part.sum = add_zero_left (dot cs vs) ∙ sym c.outer_part-part.ensures.sum in
    let whole : SumsFit part.sum part.rest.now row =
    subst (λ (n : ℤ). SumsFit n part.rest.now row) zero
    (subst (λ (ds : List ℤ). SumsFit (pos 0 +ℤ dot cs vs) ds row) (sym c.outer_part-part.ensures.rest) back) in
    let fits : FitsSigned w128 part.sum = search rules in
    subst (λ (n : ℤ). SumsFit n part.rest.now row) (sym (to_z-of_z w128 part.sum fits)) whole

pub returns-clause-sum : goal.returns-clause-sum
returns-clause-sum c =
    let cs = c.args.coefficients.now in
    let vs = values_in c.args.point.now.chain.now in
    let row = c.args.point.now.row.now in
    let part = c.outer_part-part.result in
    let fits : FitsSigned w128 part.sum = search rules in
    c.with_row.ensures.sum
    ∙ (ap (λ (n : ℤ). n +ℤ dot part.rest.now row) (to_z-of_z w128 part.sum fits)
    ∙ (ap₂ (λ (n : ℤ) (ds : List ℤ). n +ℤ dot ds row) c.outer_part-part.ensures.sum c.outer_part-part.ensures.rest
    ∙ sym (dot-split cs vs row)))

pub returns-clause-rest : goal.returns-clause-rest
returns-clause-rest c =
    let cs = c.args.coefficients.now in
    let vs = values_in c.args.point.now.chain.now in
    let row = c.args.point.now.row.now in
    c.with_row.ensures.rest
    ∙ (ap (λ (ds : List ℤ). drop (length row) ds) c.outer_part-part.ensures.rest ∙ sym (drop_parts cs vs row))
