use Rattle.whole_numbers.proofs.Common.{◌∙◌, Bool, ℕ, sym, subst, ap, arith, Option, Ok, Err}
use Rattle.tableau_rows.specs.Rows.{Row}
use Rattle.checked_tableau.specs.Nodes.{Counted, below_somewhere, part_of}
use Rattle.pip_solver.specs.declared.node.Tableau.{Tableau}
use Rattle.pip_solver.specs.Node.{node_of}
use Rattle.pip_solver.specs.steps.Promises.{Tells}
use Rattle.pip_solver.proofs.Questions.{asks_of, asked-yes, asked-more, asked-stops}
use Rattle.pip_solver.proofs.looking.first_below.Goals as goal

-- the question of a row
abbrev test : Tableau → ℕ → Row → Counted Bool
test t k row = below_somewhere k (node_of t) (part_of t.rows.unknowns row)

pub below_somewhere-requires : goal.below_somewhere-requires
below_somewhere-requires c = asks_of c.args.node.now c.loop-row.row c.requires (omega arith)

pub returns-in-Err-clause-run : goal.returns-in-Err-clause-run
returns-in-Err-clause-run c =
    let t = c.args.node.now in
    subst (λ (q : Counted (Option ℕ)). Tells {A = Option ℕ} (Err c.in-Err.stop) c.below_somewhere.new.left q)
    c.loop-row.invariant.1
    (asked-stops (test t) c.loop-row.left c.loop-row.row c.below_somewhere.new.left t.rows.rows c.in-Err.stop
    (omega arith) c.in-Err.ensures.run)

pub returns-in-Ok-true-clause-run : goal.returns-in-Ok-true-clause-run
returns-in-Ok-true-clause-run c =
    let t = c.args.node.now in
    sym c.loop-row.invariant.1
    ∙ asked-yes (test t) c.loop-row.left c.loop-row.row c.below_somewhere.new.left t.rows.rows (omega arith)
    (c.in-Ok-true.ensures.run ∙ ap (λ (b : Bool). Ok (b, c.below_somewhere.new.left)) c.in-Ok-true.field-0-test)

pub loop-row-preserved : goal.loop-row-preserved
loop-row-preserved c =
    let t = c.args.node.now in
    let a = c.loop-row.invariant.0 in
    let b = c.below_somewhere.ensures.less in (
      omega (arith, a, b),
      sym (asked-more (test t) c.loop-row.left c.loop-row.row c.below_somewhere.new.left t.rows.rows (omega arith)
          (c.in-Ok-false.ensures.run
          ∙ ap (λ (b : Bool). Ok (b, c.below_somewhere.new.left)) c.in-Ok-false.field-0-test))
          ∙ c.loop-row.invariant.1,
    )
