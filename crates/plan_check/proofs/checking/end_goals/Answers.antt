use Rattle.scop_syntax.proofs.Common.{rules, ◌≡◌, true, Ok}
use Rattle.plan_check.proofs.checking.end_goals.Goals as goal

pub returns-in-Ok-true-clause-points : goal.returns-in-Ok-true-clause-points
returns-in-Ok-true-clause-points c ok =
    let e : c.end_of_goals.result ≡ Ok true = search rules in
    c.end_of_goals.ensures.points e
