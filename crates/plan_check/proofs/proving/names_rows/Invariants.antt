use Rattle.scop_syntax.proofs.Common.{◌≡◌, drop, map, list_all}
use Rattle.plan_check.specs.Judged.{names_row}
use Rattle.plan_check.specs.TextView.{term_view}
use Rattle.plan_check.proofs.proving.names_rows.Given as goal

abbrev pub invariant-loop-term : goal.invariant-loop-term
invariant-loop-term l =
    list_all (names_row l.rows) (map term_view (drop l.term-index l.terms))
    ≡ list_all (names_row l.rows) (map term_view l.terms)
