-- The sum so far and the cells to come make the whole sum.
use Rattle.scop_syntax.proofs.Common.{◌≡◌, ◌+◌, ◌%◌, ◌^◌, drop, sum}
use Rattle.kernel_gen.proofs.totals.with_cells.Given as goal

abbrev pub invariant-loop-cell : goal.invariant-loop-cell
invariant-loop-cell l = (l.total + sum (drop l.cell-index l.cells)) % 2 ^ 64 ≡ (l.fn.total + sum l.cells) % 2 ^ 64
