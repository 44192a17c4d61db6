use Rattle.scop_syntax.proofs.Common.{◌≡◌, drop}
use Rattle.plan_certificate.specs.Derivation.{pairs_with}
use Rattle.plan_certificate.specs.steps.States.{Grows, state_of}
use Rattle.plan_certificate.proofs.eliminating.with_each.Given as goal

abbrev pub invariant-loop-at : goal.invariant-loop-at
invariant-loop-at l = record {
  grows : Grows l.variables l.fn.rows.rows.items l.rows.rows.items;
  rest : pairs_with l.variables l.variable l.place (drop l.at l.below) (state_of l.rows)
      ≡ pairs_with l.variables l.variable l.place l.below (state_of l.fn.rows);
}
