use Rattle.whole_numbers.proofs.Common.{rules, arith, add-one, ◌-◌, ◌+◌, ◌++◌, ◌≡◌, length}
use Rattle.tableau_rows.specs.Moves.{rows_in}
use Rattle.tableau_rows.specs.Run.{first_row, has_fraction}
use Rattle.checked_tableau.proofs.RowScans.{first_found, first_past, length_rest, line_ahead, heads_rest}
use Rattle.checked_tableau.proofs.RowScans.{head_here}
use Rattle.checked_tableau.proofs.scans.first_fraction.Goals as goal

pub split_at-requires : goal.split_at-requires
split_at-requires c =
    line_ahead (c.args.count - c.loop-at.at) c.args.stride (length c.loop-at.rest.now)
    (omega arith) c.loop-at.invariant.0

pub is_fraction-requires-clause-positive : goal.is_fraction-requires-clause-positive
is_fraction-requires-clause-positive c =
    let at = c.loop-at.at in
    let rest = c.loop-at.rest.now in
    let row = c.split_at.result.0.now in
    let others = c.split_at.result.1.now in
    let parts : rest ≡ row ++ others = search rules in
    head_here c.args.stride (c.args.count - (at + 1)) (c.args.count - at) rest row others (omega arith) parts
    c.split_at.ensures.front_len (omega arith)
    c.loop-at.invariant.1

pub returns-then-is_fraction : goal.returns-then-is_fraction
returns-then-is_fraction c =
    let at = c.loop-at.at in
    let rest = c.loop-at.rest.now in
    let row = c.split_at.result.0.now in
    let others = c.split_at.result.1.now in
    let parts : rest ≡ row ++ others = search rules in
    first_found (has_fraction c.args.unknowns) at c.args.stride (c.args.count - (at + 1)) (c.args.count - at) rest row
    others
    (first_row (has_fraction c.args.unknowns) 0 (rows_in c.args.stride c.args.count c.args.cells.now)) (omega arith)
    parts
    c.split_at.ensures.front_len (search rules) c.loop-at.invariant.2

pub loop-at-preserved : goal.loop-at-preserved
loop-at-preserved c =
    let stride = c.args.stride in
    let at = c.loop-at.at in
    let left = c.args.count - (at + 1) in
    let rest = c.loop-at.rest.now in
    let row = c.split_at.result.0.now in
    let others = c.split_at.result.1.now in
    let parts : rest ≡ row ++ others = search rules in (
      length_rest stride left (c.args.count - at) rest row others (omega arith) parts c.split_at.ensures.front_len
          c.loop-at.invariant.0,
      heads_rest stride left (c.args.count - at) rest row others (omega arith) parts c.split_at.ensures.front_len
          c.loop-at.invariant.1,
      first_past (has_fraction c.args.unknowns) at (at + 1) stride left (c.args.count - at) rest row others
          (first_row (has_fraction c.args.unknowns) 0 (rows_in stride c.args.count c.args.cells.now)) (omega arith)
          (add-one at) parts
          c.split_at.ensures.front_len (search rules) c.loop-at.invariant.2,
    )
