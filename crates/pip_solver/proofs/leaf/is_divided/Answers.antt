use Rattle.whole_numbers.proofs.Common.{rules, ◌∙◌, ◌+◌, ◌∷◌, ap, pos, ℕ, ℤ, List, get_or, drop, arith, FitsSigned}
use Rattle.whole_numbers.proofs.Common.{w128, to_z-of_z}
use Rattle.tableau_rows.specs.Rows.{entry}
use Rattle.tableau_rows.specs.Moves.{row_at}
use Rattle.checked_tableau.specs.Nodes.{all_divided}
use Rattle.pip_solver.proofs.LeafTrees.{numbers-line}
use Rattle.pip_solver.proofs.leaf.is_divided.Goals as goal

pub returns : goal.returns
returns c =
    let line = c.line-line.result.now in
    let n = c.unknowns.result in
    let row = row_at c.args.rows.now.rows c.args.row in
    let fits : FitsSigned w128 (get_or line 0 (pos 0)) = search rules in
    let size = c.line-line.ensures.length in
    let same = c.unknowns.ensures in
    (simp to_z-of_z at c.all_divided.ensures)
    ∙ ap (λ (zs : List ℤ). all_divided (get_or line 0 (pos 0)) zs) c.split_at.ensures.back
    ∙ numbers-line n line row c.line-line.ensures.line (omega (arith, size, same))
    ∙ ap (λ (j : ℕ). all_divided row.denominator (entry row j ∷ drop (j + 1) row.entries)) same
