use Rattle.scop_syntax.proofs.Common.{◌≡◌, ◌+◌, ◌-◌, ◌<◌, ◌≤◌, ap, arith, drop, length, rules, subst, sym, take}
use Rattle.tile_runs.proofs.Cells.{IsBack, all_back, back_next}
use Rattle.tile_runs.proofs.rows.put_back.Goals as goal

pub loop-array-preserved : goal.loop-array-preserved
loop-array-preserved c =
    let at = c.loop-array in
    let row = c.args.row.now in
    let count = length c.array.result.now in
    let within : at.array < length c.args.arrays.now = search rules in
    let most : (at.start + count) - at.start ≡ count = omega arith in
    let cells = take ((at.start + count) - at.start) (drop at.start row) in
    subst (IsBack c.args.arrays.now row (at.array + 1) (at.start + count)) (sym c.set_array.ensures)
    (back_next c.args.arrays.now row at.array at.start count at.arrays cells within (ap length c.array.ensures)
    (ap (λ n. take n (drop at.start row)) most) at.invariant)

pub returns : goal.returns
returns c =
    let end : length c.args.arrays.now ≤ c.loop-array.array = search rules in
    λ contents same holds.
    all_back c.args.arrays.now c.args.row.now c.loop-array.array c.loop-array.start c.loop-array.arrays contents
    c.loop-array.invariant end same holds
