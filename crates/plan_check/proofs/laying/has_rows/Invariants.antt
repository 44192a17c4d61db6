use Rattle.scop_syntax.proofs.Common.{◌≡◌, drop}
use Rattle.plan_check.specs.Judged.{has_rows}
use Rattle.plan_check.specs.TextView.{laid_view}
use Rattle.plan_check.proofs.laying.has_rows.Given as goal

abbrev pub invariant-loop-at : goal.invariant-loop-at
invariant-loop-at l = has_rows (drop l.at l.loops) (laid_view l.laying) ≡ has_rows l.loops (laid_view l.laying)
