use Rattle.scop_syntax.proofs.Common.{◌≡◌, ◌++◌, drop, map}
use Rattle.plan_certificate.specs.steps.Numbers.{number_in, term_in}
use Rattle.plan_certificate.proofs.needed.renumbered.Given as goal

abbrev pub invariant-loop-term : goal.invariant-loop-term
invariant-loop-term l =
    l.terms.items ++ map (term_in (number_in l.rows l.numbers)) (drop l.term-index l.line.terms.items)
    ≡ map (term_in (number_in l.rows l.numbers)) l.line.terms.items
