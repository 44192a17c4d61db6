use Rattle.whole_numbers.proofs.Common.{◌≡◌, ◌+◌, ◌-◌, ◌*◌, ℕ, length, take, drop, sym, subst, refl, arith, add-one}
use Rattle.whole_numbers.proofs.Common.{suc, length-take-le, length-drop, suc-mul}
use borrow.Rule.Slice.PartMut.{put_mid}
use Rattle.affine_forms.proofs.Steps.{with_front}
use Rattle.tableau_rows.specs.Moves.{buffer_run, HeadsPositive}
use Rattle.tableau_rows.proofs.Buffers.{buffer_kept, buffer_end}
use Rattle.checked_tableau.proofs.Tables.{line_within}
use Rattle.checked_tableau.proofs.Tables.{line_length, line_head}
use Rattle.checked_tableau.proofs.pivot.pivot_rows.Goals as goal

pub place_row-requires-clause-lengths : goal.place_row-requires-clause-lengths
place_row-requires-clause-lengths c =
    let l = line_within c.loop-at.start (c.args.count - c.loop-at.at) (length c.args.pivot.now) (length c.loop-at.cells)
    (omega arith) c.loop-at.invariant.0 in
    line_length c.loop-at.start (length c.args.pivot.now) c.loop-at.cells l

pub place_row-requires-clause-column : goal.place_row-requires-clause-column
place_row-requires-clause-column c =
    let l = line_within c.loop-at.start (c.args.count - c.loop-at.at) (length c.args.pivot.now) (length c.loop-at.cells)
    (omega arith) c.loop-at.invariant.0 in
    let e = line_length c.loop-at.start (length c.args.pivot.now) c.loop-at.cells l in
    let k = c.requires.column in
    omega arith

pub place_row-requires-clause-positive : goal.place_row-requires-clause-positive
place_row-requires-clause-positive c =
    let k = c.requires.column in
    line_head c.loop-at.start (length c.args.pivot.now) (c.args.count - c.loop-at.at) c.loop-at.cells (omega arith)
    (omega arith) c.loop-at.invariant.2

pub overflow_add-start : goal.overflow_add-start
overflow_add-start c =
    let l = line_within c.loop-at.start (c.args.count - c.loop-at.at) (length c.args.pivot.now) (length c.loop-at.cells)
    (omega arith) c.loop-at.invariant.0 in
    omega arith

pub slice_bounds-place_row-end : goal.slice_bounds-place_row-end
slice_bounds-place_row-end c =
    let l = line_within c.loop-at.start (c.args.count - c.loop-at.at) (length c.args.pivot.now) (length c.loop-at.cells)
    (omega arith) c.loop-at.invariant.0 in
    omega arith

pub overflow_add-start-in-loop-at : goal.overflow_add-start-in-loop-at
overflow_add-start-in-loop-at c =
    let l = line_within c.loop-at.start (c.args.count - c.loop-at.at) (length c.args.pivot.now) (length c.loop-at.cells)
    (omega arith) c.loop-at.invariant.0 in
    omega arith

pub loop-at-preserved : goal.loop-at-preserved
loop-at-preserved c =
    let ps = c.args.pivot.now in
    let start = c.loop-at.start in
    let at = c.loop-at.at in
    let count = c.args.count in
    let left = count - (at + 1) in
    let cells = c.loop-at.cells in
    let inv = c.loop-at.invariant in
    let e : count - at ≡ suc left = omega arith in
    let size = subst (λ (k : ℕ). start + k * length ps ≡ length cells) e inv.0 in
    let run = subst (λ (k : ℕ). with_front (take start cells)
    (buffer_run c.args.row c.args.column ps at k (drop start cells))
    ≡ buffer_run c.args.row c.args.column ps 0 count c.args.cells.now) e inv.1 in
    let heads = subst (λ (k : ℕ). HeadsPositive (length ps) k (drop start cells)) e inv.2 in
    let k = (start + length ps) - start in
    let m = suc-mul left (length ps) in
    let count_k = length-take-le k (drop start cells) (omega (arith, length-drop start cells)) in
    let long : length c.place_row.new.row ≡ length ps = omega (arith, c.place_row.auto.row) in
    let kept = buffer_kept c.args.row c.args.column ps cells c.place_row.new.row
    (buffer_run c.args.row c.args.column ps 0 count c.args.cells.now)
    start at left k (start + length ps) (omega arith) refl size long c.in-Ok.ensures run heads in (
      kept.0,
      subst (λ (i : ℕ). with_front (take (start + length ps) (put_mid start k cells c.place_row.new.row))
          (buffer_run c.args.row c.args.column ps i left
          (drop (start + length ps) (put_mid start k cells c.place_row.new.row)))
          ≡ buffer_run c.args.row c.args.column ps 0 count c.args.cells.now) (sym (add-one at)) kept.1,
      kept.2,
    )

pub returns : goal.returns
returns c =
    let inv = c.loop-at.invariant in
    buffer_end c.args.row c.args.column c.args.pivot.now c.loop-at.cells
    (buffer_run c.args.row c.args.column c.args.pivot.now 0 c.args.count c.args.cells.now)
    c.loop-at.start c.loop-at.at (c.args.count - c.loop-at.at) (omega arith) inv.0 inv.1
