use Rattle.whole_numbers.proofs.Common.{rules, ◌≡◌, ◌∙◌, Bool, true, false, subst, sym, ap, Ok, Err, if◌then◌else◌}
use Rattle.quast_trees.specs.Tree.{initial}
use Rattle.checked_tableau.specs.Nodes.{Next, Counted, ends, context_holds, looked, chained}
use Rattle.pip_solver.specs.Node.{node_of}
use Rattle.pip_solver.specs.steps.Promises.{Tells}
use Rattle.pip_solver.specs.steps.Steps.{Steps}
use Rattle.pip_solver.proofs.Questions.{chained-stops}
use Rattle.pip_solver.proofs.NodeSteps.{steps_on, step-on, step-begins}
use Rattle.pip_solver.proofs.step.step.Goals as goal

pub returns-then-not-node-clause-run : goal.returns-then-not-node-clause-run
returns-then-not-node-clause-run c =
    let t = c.args.node.now in
    let goes_on : t.begins ≡ false = search rules in
    subst (λ (q : Counted Next). Steps c.look.result t.rows.unknowns c.look.new.left c.look.new.node q)
    (sym (step-on t.rows.unknowns c.args.left.now (node_of t) goes_on)) c.look.ensures.run

pub returns-in-Err-clause-run : goal.returns-in-Err-clause-run
returns-in-Err-clause-run c =
    let t = c.args.node.now in
    let n = t.rows.unknowns in
    let left = c.args.left.now in
    let begins : t.begins ≡ true = search rules in
    subst (λ (q : Counted Next). Tells {A = Next} (Err c.in-Err.stop) c.context_holds.new.left q)
    (sym (step-begins n left (node_of t) begins))
    (chained-stops c.in-Err.stop c.context_holds.new.left (context_holds left t.rows.parameters t.context.items)
    (λ holds rest. if holds then looked n rest (node_of t) else Ok (ends initial, rest)) c.in-Err.ensures.run)

pub returns-in-Ok-true-clause-run : goal.returns-in-Ok-true-clause-run
returns-in-Ok-true-clause-run c =
    let t = c.args.node.now in
    let n = t.rows.unknowns in
    let left = c.args.left.now in
    let begins : t.begins ≡ true = search rules in
    let told = c.in-Ok-true.ensures.run ∙ ap (λ (b : Bool). Ok (b, c.context_holds.new.left))
    c.in-Ok-true.field-0-test in
    let on = c.look-in-Ok-true in
    subst (λ (q : Counted Next). Steps on.result n on.new.left on.new.node q)
    (sym (step-begins n left (node_of t) begins))
    (steps_on on.result n on.new.left c.context_holds.new.left on.new.node
    (context_holds left t.rows.parameters t.context.items)
    (λ holds rest. if holds then looked n rest (node_of t) else Ok (ends initial, rest)) true told on.ensures.run)

pub returns-in-Ok-false-clause-run : goal.returns-in-Ok-false-clause-run
returns-in-Ok-false-clause-run c =
    let t = c.args.node.now in
    let n = t.rows.unknowns in
    let left = c.args.left.now in
    let begins : t.begins ≡ true = search rules in
    let told = c.in-Ok-false.ensures.run ∙ ap (λ (b : Bool). Ok (b, c.context_holds.new.left))
    c.in-Ok-false.field-0-test in
    step-begins n left (node_of t) begins
    ∙ ap (λ (q : Counted Bool). chained q (λ holds rest. if holds then looked n rest (node_of t)
    else Ok (ends initial, rest))) told
