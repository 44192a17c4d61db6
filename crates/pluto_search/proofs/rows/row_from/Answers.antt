use Rattle.scop_syntax.proofs.Common.{◌≡◌, ◌+◌, ◌∙◌, ap, arith, length, length-drop}
use Rattle.pluto_systems.specs.Placing.{columns_in}
use Rattle.pluto_search.proofs.rows.row_from.Goals as goal

pub parts_from-requires : goal.parts_from-requires
parts_from-requires c =
    let m = c.args.parameters in
    let numbers = c.args.numbers.now in
    let size : length numbers ≡ (m + 1) + columns_in c.args.loops.now = c.requires in
    let left = ap length c.split_at.ensures.back ∙ length-drop (m + 1) numbers in
    omega (arith, size, left)
