use Rattle.scop_syntax.proofs.Common.{◌≡◌, ◌-◌}
use Rattle.plan_certificate.specs.Derivation.{all_eliminated}
use Rattle.plan_certificate.specs.steps.States.{Grows, state_of}
use Rattle.plan_certificate.proofs.eliminating.eliminate_all.Given as goal

abbrev pub invariant-loop-variable : goal.invariant-loop-variable
invariant-loop-variable l = record {
  grows : Grows l.variables l.fn.rows.rows.items l.rows.rows.items;
  rest : all_eliminated l.variables l.variable (l.variables - l.variable) (state_of l.rows)
      ≡ all_eliminated l.variables 0 l.variables (state_of l.fn.rows);
}
