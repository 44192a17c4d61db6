use Rattle.whole_numbers.proofs.Common.{rules, ◌-◌, ◌+◌, ℤ, pos, get_or, List, take, drop, set, ◌++◌, length, sym, ◌∙◌}
use Rattle.whole_numbers.proofs.Common.{subst, arith, FitsSigned, Result, w128, to_z-of_z, take_all, length-drop}
use Rattle.whole_numbers.proofs.Common.{length-take-le}
use Rattle.wide_math.specs.declared.Wide.{Wide}
use Rattle.wide_math.specs.Checked.{product_of}
use Rattle.wide_math.specs.Gives.{Becomes}
use Rattle.tableau_rows.specs.Moves.{crossed_run}
use Rattle.tableau_rows.proofs.Lines.{entries_run-split, first-err, second-err, third_becomes}
use Rattle.checked_tableau.proofs.rows.combine_entries.Goals as goal

pub cross_row-requires : goal.cross_row-requires
cross_row-requires c =
    c.split_at_mut-front.ensures.front_len
    ∙ sym (length-take-le c.args.column c.args.pivot.now (let l = c.requires.lengths in let k = c.requires.column in
    omega arith))

pub returns-in-Err : goal.returns-in-Err
returns-in-Err c =
    let es = c.args.entries.now in
    let ps = c.args.pivot.now in
    let s = c.args.column in
    let front = c.split_at_mut-front in
    let cell = c.split_at_mut-cell in
    let a = get_or ps s (pos 0) in
    let b = get_or es s (pos 0) in
    let fa : FitsSigned w128 a = search rules in
    let fb : FitsSigned w128 b = search rules in
    let failed = simp to_z-of_z at c.in-Err.ensures in
    entries_run-split s c.args.denominator es ps front.result.0.now front.result.1.now cell.result.0.now
    cell.result.1.now c.requires.lengths c.requires.column
    front.ensures.value front.ensures.front_len cell.ensures.value cell.ensures.front_len
    ∙ first-err (crossed_run a b front.result.0.now (take s ps)) (product_of b c.args.denominator)
    (crossed_run a b cell.result.1.now (drop (s + 1) ps)) c.in-Err.wide failed

pub returns-in-Err-mul : goal.returns-in-Err-mul
returns-in-Err-mul c =
    let es = c.args.entries.now in
    let ps = c.args.pivot.now in
    let s = c.args.column in
    let d = c.args.denominator in
    let front = c.split_at_mut-front in
    let cell = c.split_at_mut-cell in
    let a = get_or ps s (pos 0) in
    let b = get_or es s (pos 0) in
    let fa : FitsSigned w128 a = search rules in
    let fb : FitsSigned w128 b = search rules in
    let fd = c.ranges.denominator in
    let done = simp to_z-of_z at c.in-Ok.ensures in
    let failed = simp to_z-of_z at c.in-Err-mul.ensures in
    entries_run-split s d es ps front.result.0.now front.result.1.now cell.result.0.now cell.result.1.now
    c.requires.lengths c.requires.column
    front.ensures.value front.ensures.front_len cell.ensures.value cell.ensures.front_len
    ∙ second-err (crossed_run a b front.result.0.now (take s ps)) (product_of b d)
    (crossed_run a b cell.result.1.now (drop (s + 1) ps)) c.cross_row.new.row c.in-Err-mul.wide done (sym failed)

pub returns : goal.returns
returns c =
    let es = c.args.entries.now in
    let ps = c.args.pivot.now in
    let s = c.args.column in
    let d = c.args.denominator in
    let front = c.split_at_mut-front in
    let cell = c.split_at_mut-cell in
    let a = get_or ps s (pos 0) in
    let b = get_or es s (pos 0) in
    let fa : FitsSigned w128 a = search rules in
    let fb : FitsSigned w128 b = search rules in
    let fd = c.ranges.denominator in
    let fz : FitsSigned w128 c.in-Ok-mul.product = search rules in
    let done = simp to_z-of_z at c.in-Ok.ensures in
    let times = simp to_z-of_z at c.in-Ok-mul.ensures in
    let after = simp to_z-of_z at c.cross_row-2.ensures in
    let whole = take_all (length ps - (s + 1)) (drop (s + 1) ps) (omega (arith, length-drop (s + 1) ps)) in
    let rest = subst (λ (ys : List ℤ). Becomes c.cross_row-2.new.row c.cross_row-2.result
    (crossed_run a b cell.result.1.now ys)) whole after in
    let e = entries_run-split s d es ps front.result.0.now front.result.1.now cell.result.0.now cell.result.1.now
    c.requires.lengths c.requires.column
    front.ensures.value front.ensures.front_len cell.ensures.value cell.ensures.front_len in
    simp to_z-of_z
    (subst (λ (r : Result (List ℤ) Wide). Becomes
    (c.cross_row.new.row ++ (set cell.result.0.now 0 c.in-Ok-mul.product ++ c.cross_row-2.new.row))
    c.cross_row-2.result r) (sym e)
    (third_becomes (crossed_run a b front.result.0.now (take s ps)) (product_of b d)
    (crossed_run a b cell.result.1.now (drop (s + 1) ps)) c.cross_row.new.row
    c.in-Ok-mul.product cell.result.0.now c.cross_row-2.new.row c.cross_row-2.result done (sym times)
    cell.ensures.front_len rest))
