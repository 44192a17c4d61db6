use Rattle.whole_numbers.proofs.Common.{rules, arith, ◌≡◌, ◌+◌, FitsSigned, get_or, pos, w128, ints, to_z-of_z}
use Rattle.tableau_rows.proofs.Buffers.{line_run-head, placed-err, placed-other}
use Rattle.checked_tableau.proofs.MultipliedRows.{placed_alone}
use Rattle.checked_tableau.proofs.pivot.place_row.Goals as goal

pub returns-in-Err : goal.returns-in-Err
returns-in-Err c = placed-err c.args.is_pivot c.args.column c.args.pivot.now c.args.row.now c.in-Err.wide
    c.if-is_pivot.false c.in-Err.ensures

pub reduce-requires-2-clause-positive : goal.reduce-requires-2-clause-positive
reduce-requires-2-clause-positive c =
    let h = line_run-head c.args.column c.args.pivot.now c.args.row.now c.combine.new.row c.in-Ok.ensures
    (omega (arith, ints, c.requires.positive)) (omega (arith, ints, c.requires.entry)) in
    omega (arith, ints)

pub returns-then-surely_fit : goal.returns-then-surely_fit
returns-then-surely_fit c =
    let f : FitsSigned w128 (get_or c.args.row.now (c.args.column + 1) (pos 0)) = search rules in
    let g : FitsSigned w128 (get_or c.args.pivot.now (c.args.column + 1) (pos 0)) = search rules in
    let none : get_or c.args.row.now (c.args.column + 1) (pos 0) ≡ pos 0 = search rules in
    let all = simp to_z-of_z at (c.surely_fit.ensures c.if-surely_fit.true) in
    placed_alone c.args.is_pivot c.args.column c.args.pivot.now c.args.row.now c.reduce.new.row c.if-is_pivot.false
    c.requires.lengths (omega arith) none c.requires.entry all c.reduce.ensures

pub returns : goal.returns
returns c = placed-other c.args.is_pivot c.args.column c.args.pivot.now c.args.row.now c.combine.new.row
    c.reduce-2.new.row c.if-is_pivot.false c.in-Ok.ensures c.reduce-2.ensures
