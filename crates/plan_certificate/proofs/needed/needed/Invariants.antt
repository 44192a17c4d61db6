use Rattle.scop_syntax.proofs.Common.{◌≡◌, ◌≤◌, ◌+◌, ◌-◌, drop, length, map, suc}
use Rattle.plan_check.specs.Derivations.{step_of}
use Rattle.plan_certificate.specs.Derivation.{needed}
use Rattle.plan_certificate.proofs.needed.needed.Given as goal

abbrev pub invariant-loop-at : goal.invariant-loop-at
invariant-loop-at l = record {
  each : length l.marks.items ≡ length l.lines;
  inside : l.at ≤ length l.lines;
  behind : drop (l.at - 1) l.marks.items
      ≡ needed (suc (l.rows + (l.at - 1))) (map step_of (drop (l.at - 1) l.lines));
}

abbrev pub decreases-loop-at : goal.decreases-loop-at
decreases-loop-at l = l.at
