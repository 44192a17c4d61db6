use Rattle.whole_numbers.proofs.Common.{rules, arith, ◌-◌, ◌+◌, ◌++◌, ◌≡◌, length, pos, get_or, Bool, true, false}
use Rattle.whole_numbers.proofs.Common.{FitsSigned, ◌-ℤ◌, Result, Ok, if◌then◌else◌, w128, to_z-of_z, ints}
use Rattle.wide_math.specs.declared.Wide.{Wide}
use Rattle.tableau_rows.specs.Moves.{rows_in, is_below, precedes_run}
use Rattle.checked_tableau.proofs.RowScans.{compared_run, precedes_here, here_before, here_behind, here_equal}
use Rattle.checked_tableau.proofs.RowScans.{length_rest, line_ahead}
use Rattle.checked_tableau.proofs.scans.precedes.Goals as goal
use Rattle.checked_tableau.proofs.scans.precedes.Goals.{After-split_at, In-Ok-mul}

pub split_at-requires : goal.split_at-requires
split_at-requires c =
    line_ahead (c.args.count - c.loop.counter) (length c.args.pivot.now)
    (length c.loop.rest.now) (omega arith) c.loop.invariant.0

-- the comparison at the row, with that of the rows behind it, is the whole run
here : (c : After-split_at)
    → let a = get_or c.args.pivot.now (c.args.column + 1) (pos 0) in
    let b = get_or c.args.pivot.now (c.args.best + 1) (pos 0) in
    let row = c.split_at.result.0.now in
    let stride = length c.args.pivot.now in
    compared_run a b (get_or row (c.args.column + 1) (pos 0)) (get_or row (c.args.best + 1) (pos 0))
    (precedes_run a b c.args.column c.args.best
    (rows_in stride (c.args.count - (c.loop.counter + 1)) c.split_at.result.1.now))
    ≡ precedes_run a b c.args.column c.args.best (rows_in stride c.args.count c.args.unknowns.now)
here c =
    let ps = c.args.pivot.now in
    let row = c.split_at.result.0.now in
    let others = c.split_at.result.1.now in
    let parts : c.loop.rest.now ≡ row ++ others = search rules in
    precedes_here (get_or ps (c.args.column + 1) (pos 0)) (get_or ps (c.args.best + 1) (pos 0)) c.args.column
    c.args.best (length ps) (c.args.count - (c.loop.counter + 1)) (c.args.count - c.loop.counter) c.loop.rest.now row
    others _ (omega arith) parts c.split_at.ensures.front_len c.loop.invariant.1

-- where both products are formed, their signs decide
formed : (c : In-Ok-mul) (rest run : Result Bool Wide)
    → compared_run (get_or c.args.pivot.now (c.args.column + 1) (pos 0))
    (get_or c.args.pivot.now (c.args.best + 1) (pos 0)) (get_or c.split_at.result.0.now (c.args.column + 1) (pos 0))
    (get_or c.split_at.result.0.now (c.args.best + 1) (pos 0)) rest ≡ run
    → (if is_below (c.in-Ok.new -ℤ c.in-Ok-mul.old) then Ok true
    else if is_below (c.in-Ok-mul.old -ℤ c.in-Ok.new) then Ok false else rest) ≡ run
formed c rest run kept =
    let row = c.split_at.result.0.now in
    let ps = c.args.pivot.now in
    let fx : FitsSigned w128 (get_or row (c.args.column + 1) (pos 0)) = search rules in
    let fy : FitsSigned w128 (get_or row (c.args.best + 1) (pos 0)) = search rules in
    let fa : FitsSigned w128 (get_or ps (c.args.column + 1) (pos 0)) = search rules in
    let fb : FitsSigned w128 (get_or ps (c.args.best + 1) (pos 0)) = search rules in
    let new = simp to_z-of_z at c.in-Ok.ensures in
    let old = simp to_z-of_z at c.in-Ok-mul.ensures in
    rw (← new, ← old) at kept

pub returns-in-Err : goal.returns-in-Err
returns-in-Err c =
    let fx : FitsSigned w128 (get_or c.split_at.result.0.now (c.args.column + 1) (pos 0)) = search rules in
    let fb : FitsSigned w128 (get_or c.args.pivot.now (c.args.best + 1) (pos 0)) = search rules in
    let failed = simp to_z-of_z at c.in-Err.ensures in
    rw (← failed) at (here (goal.at.returns-in-Err c).After-split_at)

pub returns-in-Err-mul : goal.returns-in-Err-mul
returns-in-Err-mul c =
    let row = c.split_at.result.0.now in
    let ps = c.args.pivot.now in
    let fx : FitsSigned w128 (get_or row (c.args.column + 1) (pos 0)) = search rules in
    let fy : FitsSigned w128 (get_or row (c.args.best + 1) (pos 0)) = search rules in
    let fa : FitsSigned w128 (get_or ps (c.args.column + 1) (pos 0)) = search rules in
    let fb : FitsSigned w128 (get_or ps (c.args.best + 1) (pos 0)) = search rules in
    let new = simp to_z-of_z at c.in-Ok.ensures in
    let failed = simp to_z-of_z at c.in-Err-mul.ensures in
    rw (← new, ← failed) at (here (goal.at.returns-in-Err-mul c).After-split_at)

pub returns-then-new-old : goal.returns-then-new-old
returns-then-new-old c =
    let at = goal.at.returns-then-new-old c in
    let fn : FitsSigned w128 c.in-Ok.new = search rules in
    let fo : FitsSigned w128 c.in-Ok-mul.old = search rules in
    here_before c.in-Ok.new c.in-Ok-mul.old (Ok true) (Ok false) _ _ (omega (arith, ints))
    (formed at.In-Ok-mul _ _ (here at.After-split_at))

pub returns-then-old-new : goal.returns-then-old-new
returns-then-old-new c =
    let at = goal.at.returns-then-old-new c in
    let fn : FitsSigned w128 c.in-Ok.new = search rules in
    let fo : FitsSigned w128 c.in-Ok-mul.old = search rules in
    here_behind c.in-Ok.new c.in-Ok-mul.old (Ok true) (Ok false) _ _ (omega (arith, ints))
    (formed at.In-Ok-mul _ _ (here at.After-split_at))

pub loop-preserved : goal.loop-preserved
loop-preserved c =
    let at = goal.at.loop-preserved c in
    let row = c.split_at.result.0.now in
    let others = c.split_at.result.1.now in
    let fn : FitsSigned w128 c.in-Ok.new = search rules in
    let fo : FitsSigned w128 c.in-Ok-mul.old = search rules in
    let parts : c.loop.rest.now ≡ row ++ others = search rules in (
      length_rest (length c.args.pivot.now) (c.args.count - (c.loop.counter + 1)) (c.args.count - c.loop.counter)
          c.loop.rest.now row others (omega arith) parts c.split_at.ensures.front_len c.loop.invariant.0,
      here_equal c.in-Ok.new c.in-Ok-mul.old (Ok true) (Ok false) _ _ (omega (arith, ints)) (omega (arith, ints))
          (formed at.In-Ok-mul _ _ (here at.After-split_at)),
    )
