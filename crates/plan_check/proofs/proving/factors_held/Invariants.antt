use Rattle.scop_syntax.proofs.Common.{◌≡◌, drop, map, list_all}
use Rattle.plan_check.specs.Judged.{factor_held}
use Rattle.plan_check.specs.TextView.{term_view}
use Rattle.plan_check.proofs.proving.factors_held.Given as goal

abbrev pub invariant-loop-term : goal.invariant-loop-term
invariant-loop-term l =
    list_all factor_held (map term_view (drop l.term-index l.terms)) ≡ list_all factor_held (map term_view l.terms)
