use Rattle.whole_numbers.proofs.Common.{rules, ◌≡◌, ◌∙◌, ◌+◌, ◌<◌, ◌∷◌, [], ℕ, List, length, take, drop, ap, sym, pos}
use Rattle.whole_numbers.proofs.Common.{arith, add-one, drop-cons, Ok, get_or-take, length-take-le}
use Rattle.std.proofs.Math.ListN.{drop_of_length-le}
use Rattle.tableau_rows.specs.Rows.{Row, row_of}
use Rattle.tableau_rows.specs.Moves.{row_at}
use Rattle.quast_trees.specs.Tree.{Tree}
use Rattle.quast_trees.specs.Postfix.{standing}
use Rattle.checked_tableau.specs.Nodes.{leaf_tree}
use Rattle.pip_solver.specs.steps.Frames.{under}
use Rattle.pip_solver.proofs.FrameStack.{sides_on, leaf_top, on_ok}
use Rattle.pip_solver.proofs.leaf.leaf.Goals as goal

pub loop-row-preserved : goal.loop-row-preserved
loop-row-preserved c =
    let t = c.args.rows.now in
    let nn = t.unknowns in
    let i = c.loop-row.row in
    let xs = take nn t.rows in
    let many = c.requires.many in
    let size = length-take-le nn t.rows many in
    let inv = c.loop-row.invariant in
    let l = c.loop-row.leaf in
    let within : i < length xs = omega arith in
    let e : row_at t.rows i ∷ drop (i + 1) xs ≡ drop i xs =
    ap (λ (row : Row). row ∷ drop (i + 1) xs) (sym (get_or-take nn t.rows i (row_of (pos 1) []) (omega arith)))
    ∙ ap (λ (k : ℕ). row_at xs i ∷ drop k xs) (add-one i) ∙ sym (drop-cons xs i (row_of (pos 1) []) within) in (
      λ trees n left. c.in-Ok.ensures.tree (drop (i + 1) xs) trees n left
          ∙ ap (λ (rs : List Row). under n c.loop-row.frames.items trees
          (Ok (leaf_tree nn (t.parameters + l.bound) l.bound rs l.forms.items, left))) e ∙ inv.0 trees n left,
      sides_on c.args.frames.now.items c.loop-row.frames.items c.place.new.frames.items inv.1 c.in-Ok.ensures.sides,
    )

pub returns-in-Some-clause-tree : goal.returns-in-Some-clause-tree
returns-in-Some-clause-tree c =
    let t = c.args.rows.now in
    let nn = t.unknowns in
    let i = c.loop-row.row in
    let xs = take nn t.rows in
    let many = c.requires.many in
    let size = length-take-le nn t.rows many in
    let inv = c.loop-row.invariant in
    let l = c.loop-row.leaf in
    let past : drop i xs ≡ [] = drop_of_length-le xs (omega arith) in
    let number : c.in-Some.variables ≡ t.parameters + l.bound = search rules in
    on_ok c.leaf.result (λ made n left. leaf_top n left c.loop-row.frames.items (standing c.args.builder.now)
    (standing c.leaf.new.self) c.in-Some.variables (t.parameters + l.bound) l.forms.items
    (under n c.args.frames.now.items (standing c.args.builder.now) (Ok (leaf_tree nn t.parameters 0 xs [], left))) made
    number
    (sym (ap (λ (rs : List Row). under n c.loop-row.frames.items (standing c.args.builder.now)
    (Ok (leaf_tree nn (t.parameters + l.bound) l.bound rs l.forms.items, left))) past)
    ∙ inv.0 (standing c.args.builder.now) n left)) c.leaf.ensures.pushed

pub place-requires-clause-row : goal.place-requires-clause-row
place-requires-clause-row c = let many = c.requires.many in omega (arith, many)

pub returns-in-Some-clause-stands : goal.returns-in-Some-clause-stands
returns-in-Some-clause-stands c =
    on_ok c.leaf.result (λ made. ap (λ (trees : List Tree). length trees) made ∙ sym (add-one _)) c.leaf.ensures.pushed

pub returns-in-Some-clause-sides : goal.returns-in-Some-clause-sides
returns-in-Some-clause-sides c = on_ok c.leaf.result (λ made. c.loop-row.invariant.1) c.leaf.ensures.pushed
