-- The source's own trees carry out the kept order, whatever arrays are marked.
use Rattle.scop_syntax.proofs.Common.{[], refl}
use Rattle.plan_search.proofs.plans.kept_plan.Goals as goal

pub returns : goal.returns
returns c = record {
  told = c.in_ok-lines.ensures;
  is = refl;
  own = c.in_ok-tree.ensures.own;
  carried = c.in_ok-tree.ensures.trees [];
}
