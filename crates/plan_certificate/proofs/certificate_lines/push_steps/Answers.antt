-- One step more, and at the end all of them.
use Rattle.scop_syntax.proofs.Common.{◌∙◌, ◌+◌, ◌++◌, All-map, all_next, all_taken, ap, drop, drop_of_length-le}
use Rattle.scop_syntax.proofs.Common.{map}
use Rattle.plan_check.specs.Derivations.{step_of}
use Rattle.report_text.proofs.AppendedTexts.{next_appended, last_appended}
use Rattle.plan_certificate.specs.Certificates.{IsNarrowStep, steps_text}
use Rattle.plan_certificate.specs.steps.Narrow.{IsNarrowLine}
use Rattle.plan_certificate.proofs.StepTexts.{steps_next}
use Rattle.plan_certificate.proofs.certificate_lines.push_steps.Goals as goal

pub loop-line-preserved : goal.loop-line-preserved
loop-line-preserved c =
    let lines = c.args.lines.now in
    let at = c.loop-line.line-index in
    let out = c.loop-line.out.items in
    record {
      text = next_appended out c.push_step.new.out.items _ (steps_text (map step_of (drop (at + 1) lines))) _
          c.in-Ok.ensures.text
          (ap (λ t. out ++ t) (steps_next lines at c.line-item.result c.loop-line-test.true c.line-item.is)
          ∙ c.loop-line.invariant.text);
      narrow = all_next IsNarrowLine lines at c.line-item.result c.line-item.is c.loop-line-test.true
          c.loop-line.invariant.narrow c.in-Ok.ensures.narrow;
    }

pub returns : goal.returns
returns c =
    let lines = c.args.lines.now in
    let at = c.loop-line.line-index in
    record {
      text = last_appended c.loop-line.out.items (steps_text (map step_of (drop at lines))) _
          (ap (λ ts. steps_text (map step_of ts)) (drop_of_length-le lines c.loop-line-test.false))
          c.loop-line.invariant.text;
      narrow = All-map IsNarrowStep step_of lines
          (all_taken IsNarrowLine lines at c.loop-line-test.false c.loop-line.invariant.narrow);
    }
