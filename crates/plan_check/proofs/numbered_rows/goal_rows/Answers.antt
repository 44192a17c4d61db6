use Rattle.scop_syntax.proofs.Common.{rules, ◌≡◌, All}
use Rattle.affine_forms.specs.Parts.{variables_of}
use Rattle.integer_sets.specs.Constraints.{variables_in}
use Rattle.plan_check.proofs.Progresses.{run_sized}
use Rattle.plan_check.proofs.numbered_rows.goal_rows.Goals as goal

pub returns-in-Ok-push_copies-clause-sized : goal.returns-in-Ok-push_copies-clause-sized
returns-in-Ok-push_copies-clause-sized c =
    let n = variables_in c.args.dep.now.system in
    let es : All (λ f. variables_of f ≡ n) c.equalities.result.now = search rules in
    let rs : All (λ f. variables_of f ≡ n) c.rows.result.now = search rules in
    run_sized n c.equalities.result.now c.rows.result.now c.in-Ok.rows.items c.push_copies.new.forms.items es rs
    c.in-Ok.ensures c.in-Ok-push_copies.ensures
