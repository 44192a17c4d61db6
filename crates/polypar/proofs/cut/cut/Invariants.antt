-- No line before the place cuts.
use Rattle.scop_syntax.proofs.Common.{◌≤◌, ◌-◌, length}
use Rattle.polypar.proofs.CutLemmas.{IsCutBehind}
use Rattle.polypar.proofs.cut.cut.Given as goal

abbrev pub invariant-loop-at : goal.invariant-loop-at
invariant-loop-at l = record {
  within : l.at ≤ length l.input;
  behind : IsCutBehind l.input l.at;
}

abbrev pub decreases-loop-at : goal.decreases-loop-at
decreases-loop-at l = length l.input - l.at
