use Rattle.scop_syntax.proofs.Common.{◌≡◌, ◌++◌, ◌+◌, drop, length, map}
use Rattle.plan_check.specs.Derivations.{pruned, step_of}
use Rattle.plan_certificate.specs.Derivation.{needed_lines}
use Rattle.plan_certificate.specs.steps.Numbers.{number_in}
use Rattle.plan_certificate.proofs.needed.needed_lines.Given as goal

abbrev pub invariant-loop-at : goal.invariant-loop-at
invariant-loop-at l = record {
  each : length l.numbers.items ≡ l.at;
  rest : map step_of l.kept.items
      ++ pruned (l.rows + l.at) (l.rows + length l.kept.items) (number_in l.rows l.numbers.items)
      (drop l.at l.marks.items) (map step_of (drop l.at l.lines))
      ≡ needed_lines l.rows (map step_of l.lines);
}
