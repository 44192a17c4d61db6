-- What was appended so far and the terms to come are all terms, and the numbers of rows so far fit their type.
use Rattle.scop_syntax.proofs.Common.{◌≡◌, ◌++◌, All, drop, map, take}
use Rattle.plan_check.specs.Printed.{terms_text}
use Rattle.plan_certificate.specs.Certificates.{IsNarrowTerm, term_line_of}
use Rattle.plan_certificate.proofs.certificate_lines.push_terms.Given as goal

abbrev pub invariant-loop-term : goal.invariant-loop-term
invariant-loop-term l = record {
  text : l.out.items ++ terms_text (map term_line_of (drop l.term-index l.terms))
      ≡ l.fn.out.items ++ terms_text (map term_line_of l.terms);
  narrow : All IsNarrowTerm (take l.term-index l.terms);
}
