use Rattle.whole_numbers.proofs.Common.{◌≡◌, ◌∙◌, ◌≤◌, ℕ, [], length, take, drop, sym, subst, arith, Ok}
use Rattle.quast_trees.specs.Postfix.{standing, top}
use Rattle.checked_tableau.specs.Nodes.{leaf_tree, step}
use Rattle.pip_solver.specs.Node.{node_of}
use Rattle.pip_solver.specs.declared.step.Next.TheVariants as next
use Rattle.pip_solver.specs.steps.Steps.{Steps}
use Rattle.pip_solver.specs.steps.Frames.{under}
use Rattle.pip_solver.proofs.FrameSteps.{stops_under, ends_under, initial_ends, goes_under}
use Rattle.pip_solver.proofs.run.advance.Goals as goal

pub leaf-requires-clause-many : goal.leaf-requires-clause-many
leaf-requires-clause-many c =
    let t = c.args.node.now in
    let n = t.rows.unknowns in
    let new = c.step.new.node in
    let told = subst (λ (x : next.the_data). Steps (Ok x) n c.step.new.left new (step n c.args.left.now (node_of t)))
    c.in-Ok-Leaf.field-0-is c.in-Ok-Leaf.ensures.run in
    subst (λ (k : ℕ). k ≤ length new.rows.rows) (sym told.1.0) told.2.tableau.many

pub returns-in-Err-clause-run : goal.returns-in-Err-clause-run
returns-in-Err-clause-run c =
    let t = c.args.node.now in
    stops_under t.rows.unknowns c.args.left.now c.step.new.left c.args.frames.now.items (standing c.args.builder.now)
    (node_of t) c.in-Err.stop c.in-Err.ensures.run

pub returns-in-Ok-clause-run : goal.returns-in-Ok-clause-run
returns-in-Ok-clause-run c =
    let t = c.args.node.now in
    let n = t.rows.unknowns in
    let told = subst (λ (x : next.the_data). Steps (Ok x) n c.step.new.left c.step.new.node
    (step n c.args.left.now (node_of t))) c.in-Ok-Empty.field-0-is c.in-Ok-Empty.ensures.run in
    initial_ends n c.args.left.now c.step.new.left c.args.frames.now.items (standing c.args.builder.now)
    (standing c.initial.new.self) (node_of t) c.step.new.node
    c.requires.sides c.requires.stands told c.in-Ok.ensures.pushed

pub returns-in-Ok-leaf-clause-run : goal.returns-in-Ok-leaf-clause-run
returns-in-Ok-leaf-clause-run c =
    let t = c.args.node.now in
    let n = t.rows.unknowns in
    let k = c.step.new.left in
    let rows = c.step.new.node.rows in
    let old = c.args.frames.now.items in
    let new = c.leaf.new.frames.items in
    let trees = standing c.args.builder.now in
    let news = standing c.leaf.new.builder in
    let told = subst (λ (x : next.the_data). Steps (Ok x) n k c.step.new.node (step n c.args.left.now (node_of t)))
    c.in-Ok-Leaf.field-0-is c.in-Ok-Leaf.ensures.run in
    let made = c.in-Ok-leaf.ensures in
    let tree = subst (λ (j : ℕ). under n new (drop 1 news) (Ok (top news, k))
    ≡ under n old trees (Ok (leaf_tree j rows.parameters 0 (take j rows.rows) [], k))) told.1.0 (made.tree n k) in
    let stands = made.stands in
    let joined = made.sides.joined in
    let before = c.requires.stands in (
      ends_under n c.args.left.now k old trees (node_of t) (leaf_tree n rows.parameters 0 (take n rows.rows) []) told.0
          ∙ sym tree,
      omega arith,
      made.sides.waiting,
      made.sides.ready n c.requires.sides,
    )

pub returns-in-Ok-wait-clause-run : goal.returns-in-Ok-wait-clause-run
returns-in-Ok-wait-clause-run c =
    let t = c.args.node.now in
    let n = t.rows.unknowns in
    let told = subst (λ (x : next.the_data). Steps (Ok x) n c.step.new.left c.step.new.node
    (step n c.args.left.now (node_of t))) c.in-Ok-Moves.field-0-is c.in-Ok-Moves.ensures.run in
    goes_under n c.args.left.now c.step.new.left c.args.frames.now.items c.wait.new.frames.items
    (standing c.args.builder.now) t c.step.new.node c.in-Ok-Moves.next
    c.requires.ready c.requires.sides c.requires.stands told.0 told.1 c.in-Ok-wait.ensures
