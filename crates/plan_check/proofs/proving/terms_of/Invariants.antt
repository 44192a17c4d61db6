use Rattle.scop_syntax.proofs.Common.{◌≡◌, ◌++◌, drop, map}
use Rattle.plan_check.specs.Judged.{term_named}
use Rattle.plan_check.specs.TextView.{term_view}
use Rattle.plan_check.proofs.proving.terms_of.Given as goal

abbrev pub invariant-loop-term : goal.invariant-loop-term
invariant-loop-term l =
    l.found.items ++ map term_named (map term_view (drop l.term-index l.terms))
    ≡ map term_named (map term_view l.terms)
