use Rattle.whole_numbers.proofs.Common.{rules, ◌≡◌, ◌∙◌, ◌+◌, ap, subst, pos, ℕ, ℤ, List, get_or, FitsSigned, IfOk}
use Rattle.whole_numbers.proofs.Common.{w128, to_z-of_z, Affine, form_of}
use Rattle.tableau_rows.specs.Moves.{row_at}
use Rattle.checked_tableau.specs.Nodes.{padded, part_of}
use Rattle.pip_solver.proofs.LeafTrees.{part-line}
use Rattle.pip_solver.proofs.leaf.padded_part.Goals as goal

pub returns : goal.returns
returns c =
    let line = c.line-line.result.now in
    let n = c.unknowns-at.result in
    let row = row_at c.args.rows.now.rows c.args.row in
    let fits : FitsSigned w128 (get_or line (n + 1) (pos 0)) = search rules in
    subst (λ (g : Affine). IfOk c.padded.result (λ f. f ≡ padded c.args.bound g))
    (ap (λ (zs : List ℤ). form_of zs (get_or line (n + 1) (pos 0))) c.split_at.ensures.back
    ∙ part-line n line row c.line-line.ensures.line ∙ ap (λ (j : ℕ). part_of j row) c.unknowns-at.ensures)
    (simp to_z-of_z at c.padded.ensures)
