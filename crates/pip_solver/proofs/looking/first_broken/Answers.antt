use Rattle.whole_numbers.proofs.Common.{◌≡◌, ◌∙◌, Bool, ℕ, [], ◌<◌, length, pos, take, subst, sym, ap, arith, Option}
use Rattle.whole_numbers.proofs.Common.{Ok, Err, get_or-take, length-take-le}
use Rattle.tableau_rows.specs.Rows.{Row, row_of}
use Rattle.tableau_rows.specs.Moves.{row_at}
use Rattle.checked_tableau.specs.Nodes.{Counted, broken_somewhere, part_of}
use Rattle.pip_solver.specs.declared.node.Tableau.{Tableau}
use Rattle.pip_solver.specs.Node.{node_of}
use Rattle.pip_solver.specs.steps.Promises.{Tells}
use Rattle.pip_solver.proofs.Questions.{asks_of, asked-yes, asked-more, asked-stops}
use Rattle.pip_solver.proofs.looking.first_broken.Goals as goal
use Rattle.pip_solver.proofs.looking.first_broken.Goals.{After-broken_somewhere}

-- the question of a row
abbrev test : Tableau → ℕ → Row → Counted Bool
test t k row = broken_somewhere k (node_of t) row.denominator (part_of t.rows.unknowns row)

-- the row is one of the unknowns'
taken : (c : After-broken_somewhere)
    → (c.loop-row.row < length (take c.args.node.now.rows.unknowns c.args.node.now.rows.rows))
    × (row_at (take c.args.node.now.rows.unknowns c.args.node.now.rows.rows) c.loop-row.row
    ≡ row_at c.args.node.now.rows.rows c.loop-row.row)
taken c =
    let t = c.args.node.now.rows in
    let size = length-take-le t.unknowns t.rows c.requires.node.tableau.many in
    (omega arith, get_or-take t.unknowns t.rows c.loop-row.row (row_of (pos 1) []) (omega arith))

pub broken_somewhere-requires-clause-asks : goal.broken_somewhere-requires-clause-asks
broken_somewhere-requires-clause-asks c =
    let many = c.requires.node.tableau.many in
    asks_of c.args.node.now c.loop-row.row c.requires.node (omega arith)

pub returns-in-Err-clause-run : goal.returns-in-Err-clause-run
returns-in-Err-clause-run c =
    let t = c.args.node.now in
    let in_take = taken (goal.at.returns-in-Err-clause-run c).After-broken_somewhere in
    let told = subst (λ (row : Row). Tells {A = Bool} (Err c.in-Err.stop) c.broken_somewhere.new.left
    (test t c.loop-row.left row)) (sym in_take.1) c.in-Err.ensures.run in
    subst (λ (q : Counted (Option ℕ)). Tells {A = Option ℕ} (Err c.in-Err.stop) c.broken_somewhere.new.left q)
    c.loop-row.invariant.1
    (asked-stops (test t) c.loop-row.left c.loop-row.row c.broken_somewhere.new.left
    (take t.rows.unknowns t.rows.rows) c.in-Err.stop in_take.0 told)

pub returns-in-Ok-true-clause-run : goal.returns-in-Ok-true-clause-run
returns-in-Ok-true-clause-run c =
    let t = c.args.node.now in
    let in_take = taken (goal.at.returns-in-Ok-true-clause-run c).After-broken_somewhere in
    sym c.loop-row.invariant.1
    ∙ asked-yes (test t) c.loop-row.left c.loop-row.row c.broken_somewhere.new.left
    (take t.rows.unknowns t.rows.rows) in_take.0
    (ap (λ (row : Row). test t c.loop-row.left row) in_take.1 ∙ c.in-Ok-true.ensures.run
    ∙ ap (λ (b : Bool). Ok (b, c.broken_somewhere.new.left)) c.in-Ok-true.field-0-test)

pub loop-row-preserved : goal.loop-row-preserved
loop-row-preserved c =
    let t = c.args.node.now in
    let in_take = taken (goal.at.loop-row-preserved c).After-broken_somewhere in
    let a = c.loop-row.invariant.0 in
    let b = c.broken_somewhere.ensures.less in (
      omega (arith, a, b),
      sym (asked-more (test t) c.loop-row.left c.loop-row.row c.broken_somewhere.new.left
          (take t.rows.unknowns t.rows.rows) in_take.0
          (ap (λ (row : Row). test t c.loop-row.left row) in_take.1 ∙ c.in-Ok-false.ensures.run
          ∙ ap (λ (b : Bool). Ok (b, c.broken_somewhere.new.left)) c.in-Ok-false.field-0-test))
          ∙ c.loop-row.invariant.1,
    )
