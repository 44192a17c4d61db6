use Rattle.whole_numbers.proofs.Common.{rules, ◌≡◌, ◌+◌, ℤ, pos, get_or, ap, sym, ◌∙◌, FitsSigned, w128, to_z-of_z}
use Rattle.whole_numbers.proofs.Common.{remainder}
use Rattle.tableau_rows.specs.Rows.{entry}
use Rattle.tableau_rows.specs.Moves.{line_row, is_positive}
use Rattle.tableau_rows.proofs.Lines.{entry_at}
use Rattle.checked_tableau.proofs.RowScans.{by_one}
use Rattle.checked_tableau.proofs.scans.is_fraction.Goals as goal

pub returns-then-divisor-eq1 : goal.returns-then-divisor-eq1
returns-then-divisor-eq1 c =
    let row = c.args.row.now in
    let f : FitsSigned w128 (get_or row 0 (pos 0)) = search rules in
    let one : get_or row 0 (pos 0) ≡ pos 1 = search rules in
    sym (by_one (entry (line_row row) c.args.unknowns) (get_or row 0 (pos 0)) one)

pub returns : goal.returns
returns c =
    let row = c.args.row.now in
    let n = c.args.unknowns in
    let d = get_or row 0 (pos 0) in
    let fd : FitsSigned w128 d = search rules in
    let fx : FitsSigned w128 (get_or row (n + 1) (pos 0)) = search rules in
    let fr : FitsSigned w128 c.remainder_of.result = search rules in
    let value = simp to_z-of_z at c.remainder_of.ensures.value in
    let told = simp to_z-of_z at c.is_positive.ensures in
    told
    ∙ ap (λ (z : ℤ). is_positive z) (value ∙ ap (λ (z : ℤ). remainder z d) (sym (entry_at row n)))
