use Rattle.scop_syntax.proofs.Common.{◌≡◌, ◌++◌, drop, map, pos}
use Rattle.tile_edges.proofs.finding.push_numbers.Given as goal

abbrev pub invariant-loop-number : goal.invariant-loop-number
invariant-loop-number l =
    l.list.items ++ map pos (drop l.number-index l.numbers) ≡ l.fn.list.items ++ map pos l.numbers
