use Rattle.whole_numbers.proofs.Common.{◌+◌, ◌++◌, ℕ, length, subst, sym}
use Rattle.tableau_rows.specs.Problem.{unit_rows, given_rows}
use Rattle.checked_tableau.specs.Lines.{Holds}
use Rattle.checked_tableau.proofs.first.first_lines.Goals as goal

pub returns-in-Ok-append_forms-2 : goal.returns-in-Ok-append_forms-2
returns-in-Ok-append_forms-2 c m e =
    let n = c.args.unknowns in
    let fs = c.args.forms.now in
    let gs = c.args.more.now in
    let units = unit_rows m 0 n in
    let held = subst (λ (stride : ℕ). Holds stride n c.append_units.new.cells.items units) (sym e)
    (c.in-Ok-append_units.ensures m e) in
    subst (λ (stride : ℕ). Holds stride ((n + length fs) + length gs) c.append_forms-2.new.cells.items
    ((units ++ given_rows n fs) ++ given_rows n gs)) e
    (c.in-Ok-append_forms-2.ensures (n + length fs) (units ++ given_rows n fs)
    (c.in-Ok-append_forms.ensures n units held))
