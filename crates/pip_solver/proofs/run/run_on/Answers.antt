use Rattle.whole_numbers.proofs.Common.{◌∙◌, ℕ, sym, subst, arith, Ok, Err, Option, AllocError}
use Rattle.quast_trees.specs.Postfix.{standing}
use Rattle.quast_trees.specs.Tree.{Tree}
use Rattle.checked_tableau.specs.Nodes.{Counted, whole}
use Rattle.pip_solver.specs.declared.node.Tableau.{Tableau}
use Rattle.pip_solver.specs.Node.{node_of}
use Rattle.pip_solver.specs.declared.run.Progress.TheVariants as progress
use Rattle.pip_solver.specs.steps.Frames.{under, Proceeds, Resumes}
use Rattle.pip_solver.specs.steps.Promises.{Tells}
use Rattle.pip_solver.proofs.run.run_on.Goals as goal
use Rattle.pip_solver.proofs.run.run_on.Goals.{In-Ok-Ended}

-- the node has ended
ended : (c : In-Ok-Ended) → Proceeds c.args.node.now.rows.unknowns
    (under c.args.node.now.rows.unknowns c.loop-stop.frames.items (standing c.loop-stop.builder)
    (whole c.args.node.now.rows.unknowns c.loop-stop.left (node_of c.loop-stop.node))) c.loop-stop.left
    c.loop-stop.frames.items c.advance.new.frames.items (standing c.advance.new.builder) c.advance.new.left
    c.advance.new.node (Ok progress.Ended)
ended c =
    let l = c.loop-stop in
    let old = l.frames.items in
    let trees = standing l.builder in
    subst (λ (j : ℕ). Proceeds j (under j old trees (whole j l.left (node_of l.node))) l.left old
    c.advance.new.frames.items (standing c.advance.new.builder) c.advance.new.left
    c.advance.new.node (Ok progress.Ended)) l.invariant.4.1.0
    (subst (λ (x : progress.the_data). Proceeds l.node.rows.unknowns
    (under l.node.rows.unknowns old trees (whole l.node.rows.unknowns l.left (node_of l.node))) l.left old
    c.advance.new.frames.items (standing c.advance.new.builder) c.advance.new.left c.advance.new.node (Ok x))
    c.in-Ok-Ended.field-0-is c.in-Ok-Ended.ensures.run)

pub returns-in-Err-clause-run : goal.returns-in-Err-clause-run
returns-in-Err-clause-run c =
    let l = c.loop-stop in
    subst (λ (q : Counted Tree). Tells {A = Tree} (Err c.in-Err.stop) c.advance.new.left q) l.invariant.0
    (subst (λ (j : ℕ). Tells {A = Tree} (Err c.in-Err.stop) c.advance.new.left
    (under j l.frames.items (standing l.builder) (whole j l.left (node_of l.node)))) l.invariant.4.1.0
    c.in-Err.ensures.run)

pub returns-in-Ok-None-clause-run : goal.returns-in-Ok-None-clause-run
returns-in-Ok-None-clause-run c =
    let adv = ended (goal.at.returns-in-Ok-None-clause-run c).In-Ok-Ended in
    let res = subst (λ (o : Option Tableau). Resumes {E = AllocError} c.advance.new.frames.items
    (standing c.advance.new.builder) c.resume.new.frames.items (standing c.resume.new.builder) (Ok o))
    c.in-Ok-None.field-0-is c.in-Ok-None.ensures in
    (res.0, res.1, sym c.loop-stop.invariant.0 ∙ adv.0 ∙ res.2 c.args.node.now.rows.unknowns c.advance.new.left)

pub loop-stop-preserved : goal.loop-stop-preserved
loop-stop-preserved c =
    let inv = c.loop-stop.invariant in
    let adv = ended (goal.at.loop-stop-preserved c).In-Ok-Ended in
    let res = subst (λ (o : Option Tableau). Resumes {E = AllocError} c.advance.new.frames.items
    (standing c.advance.new.builder) c.resume.new.frames.items (standing c.resume.new.builder) (Ok o))
    c.in-Ok-Some.field-0-is c.in-Ok-Some.ensures in
    let ready = res.3 c.args.node.now.rows.unknowns adv.3 in
    let a = c.advance.ensures.less in
    let b = inv.3 in
    rw c.replace.ensures.after (
      sym (adv.0 ∙ res.0 c.args.node.now.rows.unknowns c.advance.new.left) ∙ inv.0,
      res.1,
      ready.1,
      omega (arith, a, b),
      ready.0,
    )
