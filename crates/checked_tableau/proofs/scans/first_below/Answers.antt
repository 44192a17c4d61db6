use Rattle.whole_numbers.proofs.Common.{rules, arith, add-one, ◌-◌, ◌+◌, ◌++◌, ◌≡◌, length}
use Rattle.tableau_rows.specs.Moves.{rows_in}
use Rattle.tableau_rows.specs.Run.{first_row, has_below}
use Rattle.checked_tableau.proofs.RowScans.{first_past, length_rest, line_ahead}
use Rattle.checked_tableau.proofs.scans.first_below.Goals as goal

pub split_at-requires : goal.split_at-requires
split_at-requires c =
    line_ahead (c.args.count - c.loop-at.at) c.args.stride (length c.loop-at.rest.now)
    (omega arith) c.loop-at.invariant.0

pub loop-at-preserved : goal.loop-at-preserved
loop-at-preserved c =
    let stride = c.args.stride in
    let at = c.loop-at.at in
    let left = c.args.count - (at + 1) in
    let rest = c.loop-at.rest.now in
    let row = c.split_at.result.0.now in
    let others = c.split_at.result.1.now in
    let parts : rest ≡ row ++ others = search rules in (
      length_rest stride left (c.args.count - at) rest row others (omega arith) parts c.split_at.ensures.front_len
          c.loop-at.invariant.0,
      first_past (has_below c.args.unknowns) at (at + 1) stride left (c.args.count - at) rest row others
          (first_row (has_below c.args.unknowns) 0 (rows_in stride c.args.count c.args.cells.now)) (omega arith)
          (add-one at) parts
          c.split_at.ensures.front_len (search rules) c.loop-at.invariant.1,
    )
