use Rattle.scop_syntax.proofs.Common.{◌≡◌, drop}
use Rattle.plan_certificate.specs.Derivation.{divided_from}
use Rattle.plan_certificate.specs.steps.States.{Grows, state_of}
use Rattle.plan_certificate.proofs.dividing.divide.Given as goal

abbrev pub invariant-loop-at : goal.invariant-loop-at
invariant-loop-at l = record {
  grows : Grows l.variables l.fn.rows.rows.items l.rows.rows.items;
  rest : divided_from l.variables l.at (drop l.at l.fn.rows.rows.items) (state_of l.rows)
      ≡ divided_from l.variables 0 l.fn.rows.rows.items (state_of l.fn.rows);
}
