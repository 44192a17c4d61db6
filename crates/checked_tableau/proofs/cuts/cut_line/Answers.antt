use Rattle.whole_numbers.proofs.Common.{rules, to_z, of_z, ◌≡◌, ◌++◌, pos, get_or, map, length, FitsSigned, arith, ap}
use Rattle.whole_numbers.proofs.Common.{List, ℤ, ◌≤ℤ◌, ints, length-map, w128, to_z-of_z, remainder, lowest}
use Rattle.std.proofs.lemmas.List.{length-append}
use Rattle.tableau_rows.specs.Moves.{tied}
use Rattle.affine_forms.specs.Runs.{map_run}
use Rattle.checked_tableau.specs.Lines.{turned_run, behind_columns}
use Rattle.checked_tableau.proofs.CutLines.{cut_line_run-parts, cut_line-err, cut_line-ok, all_turned_low, tied-behind}
use Rattle.checked_tableau.proofs.CutLines.{front_positive, head_positive}
use Rattle.checked_tableau.proofs.cuts.cut_line.Goals.{After-split_at_mut-columns}
use Rattle.checked_tableau.proofs.cuts.cut_line.Goals as goal

pub tie-requires-clause-low : goal.tie-requires-clause-low
tie-requires-clause-low c k =
    let first = c.split_at_mut-head in
    let d = get_or first.result.0.now 0 (pos 0) in
    let fd : FitsSigned w128 d = search rules in
    let formed = simp to_z-of_z at c.in-Ok.ensures in
    let positive = head_positive c.args.line.now first.result.0.now first.result.1.now first.ensures.value
    first.ensures.front_len c.requires.positive in
    all_turned_low d c.split_at_mut-columns.result.1.now c.leave_turned_remainders.new.numbers positive formed k

pub returns-in-Err : goal.returns-in-Err
returns-in-Err c =
    let n = c.args.unknowns in
    let place = behind_columns n c.args.parameter in
    let first = c.split_at_mut-head in
    let second = c.split_at_mut-columns in
    let head = first.result.0.now in
    let columns = second.result.0.now in
    let part = second.result.1.now in
    let d = get_or head 0 (pos 0) in
    let fd : FitsSigned w128 d = search rules in
    let failed = simp to_z-of_z at c.in-Err.ensures in
    cut_line-err n place c.args.line.now (map_run (turned_run d) part)
    (λ zs. lowest (head ++ tied d place (map (λ z. remainder z d) columns ++ zs))) c.in-Err.wide
    (cut_line_run-parts n place c.args.line.now head first.result.1.now columns part first.ensures.value
    first.ensures.front_len second.ensures.value second.ensures.front_len)
    failed

pub returns : goal.returns
returns c =
    let n = c.args.unknowns in
    let place = behind_columns n c.args.parameter in
    let first = c.split_at_mut-head in
    let second = c.split_at_mut-columns in
    let head = first.result.0.now in
    let columns = second.result.0.now in
    let part = second.result.1.now in
    let d = get_or head 0 (pos 0) in
    let fd : FitsSigned w128 d = search rules in
    let formed = simp to_z-of_z at c.in-Ok.ensures in
    let left = simp to_z-of_z at c.leave_remainders.ensures in
    let made = simp to_z-of_z at c.tie.ensures in
    let size : length (map (λ z. remainder z d) columns) ≡ n = simp length-map second.ensures.front_len in
    let behind = tied-behind n d (map (λ z. remainder z d) columns) c.leave_turned_remainders.new.numbers
    c.args.parameter size in
    cut_line-ok n place c.args.line.now (map_run (turned_run d) part)
    (λ zs. lowest (head ++ tied d place (map (λ z. remainder z d) columns ++ zs)))
    c.leave_turned_remainders.new.numbers c.reduce.new.row
    (cut_line_run-parts n place c.args.line.now head first.result.1.now columns part first.ensures.value
    first.ensures.front_len second.ensures.value second.ensures.front_len)
    formed (rw (behind, ← left, ← made) c.reduce.ensures)

pub split_at_mut-columns-requires : goal.split_at_mut-columns-requires
split_at_mut-columns-requires c =
    let first = c.split_at_mut-head in
    let whole = ap (λ (zs : List ℤ). length zs) first.ensures.value in
    let both = length-append first.result.0.now first.result.1.now in
    let long = c.requires.constant in
    let one = first.ensures.front_len in
    omega arith

-- the number in front is positive, also as the calls take it
least : (c : After-split_at_mut-columns)
    → pos 1 ≤ℤ to_z w128 (of_z w128 (get_or c.split_at_mut-head.result.0.now 0 (pos 0)))
least c =
    let first = c.split_at_mut-head in
    let d = get_or first.result.0.now 0 (pos 0) in
    let fd : FitsSigned w128 d = search rules in
    let positive = head_positive c.args.line.now first.result.0.now first.result.1.now first.ensures.value
    first.ensures.front_len c.requires.positive in
    let one : pos 1 ≤ℤ d = omega (arith, ints) in
    simp to_z-of_z one

pub leave_remainders-requires : goal.leave_remainders-requires
leave_remainders-requires c = least (goal.at.leave_remainders-requires c).After-split_at_mut-columns

pub leave_turned_remainders-requires : goal.leave_turned_remainders-requires
leave_turned_remainders-requires c = least (goal.at.leave_turned_remainders-requires c).After-split_at_mut-columns

pub tie-requires-clause-inside : goal.tie-requires-clause-inside
tie-requires-clause-inside c k e =
    let first = c.split_at_mut-head in
    let second = c.split_at_mut-columns in
    let whole = ap (λ (zs : List ℤ). length zs) first.ensures.value in
    let both = length-append first.result.0.now first.result.1.now in
    let entries = ap (λ (zs : List ℤ). length zs) second.ensures.value in
    let parts = length-append second.result.0.now second.result.1.now in
    let one = first.ensures.front_len in
    let columns = second.ensures.front_len in
    let same = c.leave_turned_remainders.auto.numbers in
    let long = c.requires.parameter k e in
    omega arith

pub tie-requires-clause-positive : goal.tie-requires-clause-positive
tie-requires-clause-positive c = least (goal.at.tie-requires-clause-positive c).After-split_at_mut-columns

pub reduce-requires-clause-length : goal.reduce-requires-clause-length
reduce-requires-clause-length c =
    let first = c.split_at_mut-head in
    let one = first.ensures.front_len in
    let parts = length-append first.result.0.now (c.leave_remainders.new.numbers ++ c.tie.new.part) in
    omega arith

pub reduce-requires-clause-positive : goal.reduce-requires-clause-positive
reduce-requires-clause-positive c =
    let first = c.split_at_mut-head in
    front_positive first.result.0.now (c.leave_remainders.new.numbers ++ c.tie.new.part) first.ensures.front_len
    (head_positive c.args.line.now first.result.0.now first.result.1.now first.ensures.value
    first.ensures.front_len c.requires.positive)

pub split_at_mut-head-requires : goal.split_at_mut-head-requires
split_at_mut-head-requires c =
    let long = c.requires.constant in
    omega arith
