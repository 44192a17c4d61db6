use Rattle.scop_syntax.proofs.Common.{◌≡◌, ◌-◌, ℕ, get_or, length, suc}
use Rattle.expansions.proofs.marking.reach.Given as goal

abbrev pub invariant-loop-marks : goal.invariant-loop-marks
invariant-loop-marks l = (c : ℕ) → get_or l.marks.items c 0 ≡ get_or l.fn.marks.items c 0

abbrev pub decreases-loop-marks : goal.decreases-loop-marks
decreases-loop-marks l = suc l.cell - length l.marks.items
