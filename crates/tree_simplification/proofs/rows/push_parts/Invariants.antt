use Rattle.tree_simplification.proofs.Common.{◌≡◌, ◌++◌, drop, map, false, part_row}
use Rattle.tree_simplification.proofs.rows.push_parts.Given as goal

abbrev pub invariant-loop-part : goal.invariant-loop-part
invariant-loop-part l =
    l.rows.items ++ map (part_row l.loops l.turned false) (drop l.part-index l.parts)
    ≡ l.fn.rows.items ++ map (part_row l.loops l.turned false) l.parts
