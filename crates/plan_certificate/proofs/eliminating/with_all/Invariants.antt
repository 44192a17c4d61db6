use Rattle.scop_syntax.proofs.Common.{◌≡◌, drop}
use Rattle.plan_certificate.specs.Derivation.{pairs}
use Rattle.plan_certificate.specs.steps.States.{Grows, state_of}
use Rattle.plan_certificate.proofs.eliminating.with_all.Given as goal

abbrev pub invariant-loop-at : goal.invariant-loop-at
invariant-loop-at l = record {
  grows : Grows l.variables l.fn.rows.rows.items l.rows.rows.items;
  rest : pairs l.variables l.variable (drop l.at l.above) l.below (state_of l.rows)
      ≡ pairs l.variables l.variable l.above l.below (state_of l.fn.rows);
}
