use Rattle.scop_syntax.proofs.Common.{rules, ◌≡◌, ◌∙◌, [], ◌∷◌, ap₂, FitsSigned, w128, to_z-of_z, Affine}
use Rattle.plain_scan.proofs.HullRows.{IsFirstRow, first_row, hull_start}
use Rattle.plain_scan.proofs.hull.shared_rows.Goals as goal
use Rattle.plain_scan.proofs.hull.shared_rows.Goals.{After-row-item}

pub loop-row-init : goal.loop-row-init
loop-row-init c =
    let n = c.args.variables in
    let place = c.args.place in
    let fits : FitsSigned w128 c.opposite.result = search rules in
    let fits2 : FitsSigned w128 c.ends-low.result.1 = search rules in
    let fits3 : FitsSigned w128 c.ends-low.result.0 = search rules in
    let least = simp to_z-of_z at c.in_ok-least.ensures in
    let most = simp to_z-of_z at c.in_ok-most.ensures in
    let pushed : c.push-2.new.self.items ≡ c.in_ok-least.least ∷ c.in_ok-most.most ∷ [] = search rules in
    let low = c.opposite.ensures.small in
    let high = c.ends-low.ensures.small.1 in
    hull_start c.args.depth place n c.args.outlines.now c.push-2.new.self.items c.ends-low.result.0 c.opposite.result
    c.ends-low.result.1 c.requires.inside c.requires.alike c.requires.place (simp to_z-of_z at c.opposite.ensures.exact)
    low high c.ends-low.ensures.low c.ends-low.ensures.high (pushed ∙ ap₂ (λ (f g : Affine). f ∷ g ∷ []) least most)

-- the row that the loop has come to
row : (c : After-row-item)
    → IsFirstRow c.args.depth c.args.place c.args.variables c.args.outlines.now c.row-item.result
row c =
    first_row c.args.depth c.args.place c.args.variables c.args.outlines.now c.index-outlines-0.result
    c.index.result.now c.deref-row-items.result.now c.loop-row.row-index c.row-item.result c.requires.alike
    c.requires.inside c.requires.some c.index.ensures c.deref-row-items.ensures.value c.loop-row-test.true c.row-item.is

pub push_weakest-requires-clause-alike : goal.push_weakest-requires-clause-alike
push_weakest-requires-clause-alike c =
    (row (goal.at.push_weakest-requires-clause-alike c).After-row-item).alike

pub push_weakest-requires-clause-small : goal.push_weakest-requires-clause-small
push_weakest-requires-clause-small c =
    (row (goal.at.push_weakest-requires-clause-small c).After-row-item).small

pub loop-row-preserved : goal.loop-row-preserved
loop-row-preserved c =
    (row (goal.at.loop-row-preserved c).After-row-item).stays c.loop-row.out.items c.push_weakest.new.out.items
    c.loop-row.invariant c.in_ok-push_weakest.ensures.front c.in_ok-push_weakest.ensures.rows
