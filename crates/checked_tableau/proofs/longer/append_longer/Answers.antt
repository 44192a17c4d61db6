use Rattle.whole_numbers.proofs.Common.{rules, ◌≡◌, ◌+◌, ◌-◌, ◌++◌, ◌∙◌, List, ℕ, length, map, subst, sym, arith}
use Rattle.whole_numbers.proofs.Common.{add-one}
use Rattle.std.proofs.lemmas.List.{append-nil}
use Rattle.tableau_rows.specs.Rows.{Row}
use Rattle.tableau_rows.specs.Moves.{rows_in}
use Rattle.lexmin_runs.specs.Nodes.{longer_row}
use Rattle.checked_tableau.specs.Lines.{Holds}
use Rattle.checked_tableau.proofs.Beginnings.{longer_more}
use Rattle.checked_tableau.proofs.RowScans.{length_rest, line_ahead}
use Rattle.checked_tableau.proofs.longer.append_longer.Goals as goal

pub split_at-requires : goal.split_at-requires
split_at-requires c =
    line_ahead (c.args.count - c.loop.counter) c.args.stride (length c.loop.rest.now) (omega arith)
    c.loop.invariant.0

pub loop-preserved : goal.loop-preserved
loop-preserved c =
    let stride = c.args.stride in
    let at = c.loop.counter in
    let left = c.args.count - (at + 1) in
    let rest = c.loop.rest.now in
    let row = c.split_at.result.0.now in
    let others = c.split_at.result.1.now in
    let parts : rest ≡ row ++ others = search rules in
    let inv = c.loop.invariant in
    let m = longer_more stride left (c.args.count - at) at (at + 1) c.loop.cells.items c.append_line.new.cells.items
    rest row others inv.1 (rows_in stride c.args.count c.args.lines.now)
    (omega arith) parts c.split_at.ensures.front_len c.requires.some (add-one at) c.in-Ok.ensures inv.2 inv.3 in (
      length_rest stride left (c.args.count - at) rest row others (omega arith) parts
          c.split_at.ensures.front_len inv.0,
      m.0,
      m.1,
      m.2,
    )

pub returns : goal.returns
returns c =
    let stride = c.args.stride in
    let inv = c.loop.invariant in
    let at : c.loop.counter ≡ c.args.count = omega arith in
    let zero_left : c.args.count - c.loop.counter ≡ 0 = omega arith in
    let all : inv.1 ≡ rows_in stride c.args.count c.args.lines.now =
    sym (append-nil inv.1) ∙ subst (λ (k : ℕ). inv.1 ++ rows_in stride k c.loop.rest.now
    ≡ rows_in stride c.args.count c.args.lines.now) zero_left inv.3 in
    subst (λ (k : ℕ). Holds (stride + 1) k c.loop.cells.items
    (map longer_row (rows_in stride c.args.count c.args.lines.now))) at
    (subst (λ (rows : List Row). Holds (stride + 1) c.loop.counter c.loop.cells.items (map longer_row rows)) all inv.2)
