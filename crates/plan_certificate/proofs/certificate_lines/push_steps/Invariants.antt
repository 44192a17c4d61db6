-- What was appended so far and the lines to come are all lines, and the numbers of rows so far fit their type.
use Rattle.scop_syntax.proofs.Common.{◌≡◌, ◌++◌, All, drop, map, take}
use Rattle.plan_check.specs.Derivations.{step_of}
use Rattle.plan_certificate.specs.Certificates.{steps_text}
use Rattle.plan_certificate.specs.steps.Narrow.{IsNarrowLine}
use Rattle.plan_certificate.proofs.certificate_lines.push_steps.Given as goal

abbrev pub invariant-loop-line : goal.invariant-loop-line
invariant-loop-line l = record {
  text : l.out.items ++ steps_text (map step_of (drop l.line-index l.lines))
      ≡ l.fn.out.items ++ steps_text (map step_of l.lines);
  narrow : All IsNarrowLine (take l.line-index l.lines);
}
