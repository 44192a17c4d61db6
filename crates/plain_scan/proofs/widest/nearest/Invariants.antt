use Rattle.scop_syntax.proofs.Common.{◌<◌, length, IfSome}
use Rattle.plain_scan.proofs.widest.nearest.Given as goal

abbrev pub invariant-loop-at : goal.invariant-loop-at
invariant-loop-at l = IfSome l.best (λ at. at < length l.rows)
