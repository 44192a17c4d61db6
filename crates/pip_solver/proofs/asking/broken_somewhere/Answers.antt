use Rattle.whole_numbers.proofs.Common.{rules, ◌∙◌, ℤ, ap, ap₂, get_or, pos, FitsSigned, w128, to_z-of_z, Affine}
use Rattle.whole_numbers.proofs.Common.{remainder}
use Rattle.affine_forms.specs.Parts.{variables_of}
use Rattle.tableau_rows.specs.Rows.{Row}
use Rattle.tableau_rows.specs.Moves.{row_at}
use Rattle.checked_tableau.specs.Nodes.{part_of}
use Rattle.pip_solver.specs.Node.{node_of}
use Rattle.pip_solver.proofs.Questions.{broken-constant}
use Rattle.pip_solver.proofs.asking.broken_somewhere.Goals as goal

pub returns-then-is_constant-clause-run : goal.returns-then-is_constant-clause-run
returns-then-is_constant-clause-run c =
    let t = c.args.node.now in
    let row = row_at t.rows.rows c.args.row in
    let fits_d : FitsSigned w128 (get_or c.line.result.now 0 (pos 0)) = search rules in
    let fits_c : FitsSigned w128 c.constant_of.result = search rules in
    let fits_r : FitsSigned w128 c.remainder_of.result = search rules in
    let made = simp to_z-of_z at c.remainder_of.ensures.value in
    simp to_z-of_z
    (broken-constant c.args.left.now (node_of t) row.denominator (part_of t.rows.unknowns row) c.remainder_of.result
    c.if-is_constant.ensures
    (made ∙ ap₂ (λ (z d : ℤ). remainder z d) c.constant_of.ensures
    (ap (λ (r : Row). r.denominator) c.line.ensures.line)))

pub ask_between-requires-clause-form : goal.ask_between-requires-clause-form
ask_between-requires-clause-form c = ap (λ (f : Affine). variables_of f) c.in-Ok.ensures ∙ c.requires.asks.2
