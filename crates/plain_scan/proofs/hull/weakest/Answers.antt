use Rattle.scop_syntax.proofs.Common.{rules, ◌∙◌, ◌+◌, ℕ, ◌<◌, ℤ, pos, ◌≤ℤ◌, List, get_or, ap, subst, sym, All}
use Rattle.scop_syntax.proofs.Common.{FitsSigned, arith, w128, to_z-of_z, form_of, value_of}
use Rattle.affine_forms.specs.Parts.{variables_of}
use Rattle.plain_scan.specs.declared.outline.Shadow.{Shadow}
use Rattle.plain_scan.specs.declared.set_outline.Outline.{Outline}
use Rattle.plain_scan.specs.Outlines.{IsRowBefore}
use Rattle.plain_scan.specs.Hulls.{HoldsAt, IsAlike}
use Rattle.plain_scan.specs.steps.Pieces.{Hold}
use Rattle.plain_scan.proofs.HullRows.{weaker, next_at, own_row}
use Rattle.plain_scan.proofs.hull.weakest.Goals as goal
use Rattle.plain_scan.proofs.hull.weakest.Goals.{After-as_slice}

-- the rows of the set's shadow at the dimension
rows_there : (c : After-as_slice) → All (IsRowBefore c.args.depth c.outline-item.result.set.now)
    c.as_slice.result.now
rows_there c =
    let depth = c.args.depth in
    let o = c.outline-item.result in
    let n = variables_of c.args.row.now in
    let alike : IsAlike depth n o =
    subst (IsAlike depth n) (sym c.outline-item.is)
    (c.requires.alike c.loop-outline.outline-index o c.loop-outline-test.true) in
    subst (All (IsRowBefore depth o.set.now))
    (sym (c.as_slice.ensures.value ∙ ap (λ (h : Shadow). h.rows.items) c.index.ensures))
    (o.are.each depth _ alike.inside).rows

pub least_constant-requires-clause-small : goal.least_constant-requires-clause-small
least_constant-requires-clause-small c =
    let rows = rows_there (goal.at.least_constant-requires-clause-small c).After-as_slice in
    λ k d inside. (rows k d inside).small

pub loop-outline-preserved : goal.loop-outline-preserved
loop-outline-preserved c =
    let depth = c.args.depth in
    let cs = c.args.row.now.coefficients in
    let o = c.outline-item.result in
    let i = c.loop-outline.outline-index in
    let w = c.greater-worst.result in
    let inv = c.loop-outline.invariant in
    let fits : FitsSigned w128 w = search rules in
    let fits2 : FitsSigned w128 c.in-Some.constant = search rules in
    let second : c.in-Some.constant ≤ℤ w = simp to_z-of_z at c.greater-worst.ensures.second in
    let rows = rows_there (goal.at.loop-outline-preserved c).After-as_slice in
    let own : (point : List ℤ) → Hold c.as_slice.result.now point
    → pos 0 ≤ℤ value_of (form_of cs c.in-Some.constant) point =
    subst (λ (xs : List ℤ). (point : List ℤ) → Hold c.as_slice.result.now point
    → pos 0 ≤ℤ value_of (form_of xs c.in-Some.constant) point) c.coefficients.ensures c.in-Some.ensures.holds in
    let all : (k : ℕ) (d : Outline) → k < i + 1 → HoldsAt depth (form_of cs w) (get_or c.args.outlines.now k d) =
    next_at (HoldsAt depth (form_of cs w)) c.args.outlines.now i o c.outline-item.is c.loop-outline-test.true
    (λ k d l. weaker depth cs _ w (get_or c.args.outlines.now k d) c.greater-worst.ensures.first (inv.holds k d l))
    (weaker depth cs c.in-Some.constant w o second
    (own_row depth cs c.in-Some.constant o c.as_slice.result.now rows own)) in
    let small = simp to_z-of_z at c.greater-worst.ensures.small in
    record { holds = simp to_z-of_z all; small = simp to_z-of_z (small inv.small c.in-Some.ensures.small) }

pub returns-clause-holds : goal.returns-clause-holds
returns-clause-holds c k d inside =
    let past = c.loop-outline-test.false in c.loop-outline.invariant.holds k d (omega (arith, inside, past))
