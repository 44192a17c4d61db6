use Rattle.scop_syntax.proofs.Common.{rules, ◌≡◌, ◌∙◌, ℕ, suc, ◌+◌, sym, subst, arith, FitsSigned, w128, IfSome_then}
use Rattle.scop_syntax.proofs.Common.{IfOk-weaker, multiple_of_form}
use Rattle.plain_scan.specs.steps.Weaker.{IsAbove}
use Rattle.plain_scan.proofs.WeakerRows.{multiple_size, multiples_above}
use Rattle.plain_scan.proofs.widest.joined.Goals as goal
use Rattle.plain_scan.proofs.widest.joined.Goals.{In-Some-2}

left_is : (c : In-Some-2) → c.in-Some.left ≡ multiple_of_form c.part_of.result c.args.row.now
left_is c = let fits : FitsSigned w128 c.part_of.result = search rules in search rules

right_is : (c : In-Some-2) → c.in-Some-2.right ≡ multiple_of_form c.part_of-in-Some.result c.args.other.now
right_is c = let fits : FitsSigned w128 c.part_of-in-Some.result = search rules in search rules

pub above-requires-clause-sized : goal.above-requires-clause-sized
above-requires-clause-sized c =
    let d = (goal.at.above-requires-clause-sized c).In-Some-2 in
    multiple_size c.part_of.result c.args.row.now c.in-Some.left (left_is d) ∙ sym c.requires.sized
    ∙ sym (multiple_size c.part_of-in-Some.result c.args.other.now c.in-Some-2.right (right_is d))

pub above-requires-clause-inside : goal.above-requires-clause-inside
above-requires-clause-inside c =
    let d = (goal.at.above-requires-clause-inside c).In-Some-2 in
    let size = multiple_size c.part_of.result c.args.row.now c.in-Some.left (left_is d) in
    omega (arith, size, c.requires.inside)

pub returns : goal.returns
returns c =
    let d = (goal.at.returns c).In-Some-2 in
    let place = c.args.place in
    let row = c.args.row.now in
    let other = c.args.other.now in
    let one : place + 1 ≡ suc place = omega arith in
    IfOk-weaker c.above.result _ _ (λ found some. IfSome_then found some (λ f up.
    subst (λ (m : ℕ). IsAbove m row other f) one
    (multiples_above (place + 1) c.part_of.result c.part_of-in-Some.result row other c.in-Some.left c.in-Some-2.right f
    c.part_of.ensures c.part_of-in-Some.ensures (left_is d) (right_is d) up))) c.above.ensures
