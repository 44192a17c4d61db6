-- What was read, and what is still to be read.
use Rattle.scop_syntax.proofs.Common.{length}
use Rattle.plan_check.specs.TextView.{stage_view}
use Rattle.plan_check.proofs.Reached.{IsReached}
use Rattle.plan_check.proofs.checking.judge.Given as goal

abbrev pub invariant-loop-rest : goal.invariant-loop-rest
invariant-loop-rest l = IsReached l.model l.text l.lines (stage_view l.stage) l.rest

abbrev pub decreases-loop-rest : goal.decreases-loop-rest
decreases-loop-rest l = length l.rest
