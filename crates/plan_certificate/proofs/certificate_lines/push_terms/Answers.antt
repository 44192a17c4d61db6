-- One term more, and at the end all of them.
use Rattle.scop_syntax.proofs.Common.{◌∙◌, ◌+◌, ◌++◌, All-more, all_taken, ap, drop, drop_of_length-le, map}
use Rattle.plan_check.specs.Printed.{terms_text}
use Rattle.report_text.proofs.AppendedTexts.{next_appended, last_appended}
use Rattle.plan_certificate.specs.Certificates.{IsNarrowTerm, term_line_of}
use Rattle.plan_certificate.proofs.StepTexts.{terms_next}
use Rattle.plan_certificate.proofs.certificate_lines.push_terms.Goals as goal

pub loop-term-preserved : goal.loop-term-preserved
loop-term-preserved c =
    let terms = c.args.terms.now in
    let at = c.loop-term.term-index in
    let out = c.loop-term.out.items in
    record {
      text = next_appended out c.push_term.new.out.items _ (terms_text (map term_line_of (drop (at + 1) terms))) _
          c.in-Ok.ensures.text
          (ap (λ t. out ++ t) (terms_next terms at _ c.loop-term-test.true) ∙ c.loop-term.invariant.text);
      narrow = All-more IsNarrowTerm terms at _ c.loop-term-test.true c.loop-term.invariant.narrow
          c.push_term.ensures.narrow;
    }

pub returns : goal.returns
returns c =
    let terms = c.args.terms.now in
    let at = c.loop-term.term-index in
    record {
      text = last_appended c.loop-term.out.items (terms_text (map term_line_of (drop at terms))) _
          (ap (λ ts. terms_text (map term_line_of ts)) (drop_of_length-le terms c.loop-term-test.false))
          c.loop-term.invariant.text;
      narrow = all_taken IsNarrowTerm terms at c.loop-term-test.false c.loop-term.invariant.narrow;
    }
