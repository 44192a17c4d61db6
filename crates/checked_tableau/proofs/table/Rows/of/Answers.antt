use Rattle.whole_numbers.proofs.Common.{sym, rules, ◌≡◌, ◌+◌, ◌++◌, ℤ, List, suc, length, subst, ap, ◌∙◌, arith, None}
use Rattle.whole_numbers.proofs.Common.{◌↔◌}
use Rattle.tableau_rows.specs.Problem.{unit_rows, given_rows, first_rows, problem_of, IsPoint}
use Rattle.tableau_rows.specs.Rows.{Row}
use Rattle.tableau_rows.specs.Solutions.{IsSolution}
use Rattle.tableau_rows.proofs.FirstTableau.{first_solutions}
use Rattle.tableau_rows.specs.Moves.{rows_in}
use Rattle.checked_tableau.specs.Lines.{Holds}
use Rattle.checked_tableau.specs.Table.{IsSound, stride_of, table_of}
use Rattle.checked_tableau.proofs.Tables.{written_whole}
use Rattle.checked_tableau.proofs.Beginnings.{sound_parts, speaks_all}
use Rattle.lexmin_runs.proofs.AddedParameters.{speaks-append}
use Rattle.checked_tableau.proofs.table.Rows.of.Goals as goal

-- the buffer holds the first rows
made : (c : goal.In-Some-checked_add-2)
    → IsSound c.args.unknowns c.args.parameters c.in-Some-checked_add-2.count c.in-Ok-first_lines.cells.items
    c.first_lines.new.line None
    × (rows_in (stride_of c.args.unknowns c.args.parameters) c.in-Some-checked_add-2.count
    c.in-Ok-first_lines.cells.items
    ≡ first_rows c.args.parameters (problem_of c.args.unknowns (c.args.forms.now ++ c.args.more.now)))
made c =
    let n = c.args.unknowns in
    let m = c.args.parameters in
    let fs = c.args.forms.now in
    let gs = c.args.more.now in
    let stride = c.in-Some.stride in
    let is : stride ≡ stride_of n m = search rules in
    let room : length c.deref_mut.result.now ≡ stride = search rules in
    let same : length c.first_lines.new.line ≡ length c.deref_mut.result.now = c.first_lines.auto.line in
    let e : suc (n + 1 + m) ≡ stride = omega arith in
    let both = subst (λ k. Holds k ((n + length fs) + length gs) c.in-Ok-first_lines.cells.items
    ((unit_rows (n + 1 + m) 0 n ++ given_rows n fs) ++ given_rows n gs)) e
    (c.in-Ok-first_lines.ensures (n + 1 + m) (omega arith)) in
    let front : c.in-Some-checked_add.front ≡ n + length fs = search rules in
    let number : c.in-Some-checked_add-2.count ≡ (n + length fs) + length gs = search rules in
    sound_parts n m c.in-Some-checked_add-2.count stride c.in-Ok-first_lines.cells.items c.first_lines.new.line fs gs
    is (same ∙ room) (speaks_all (n + m) fs c.requires.forms) (speaks_all (n + m) gs c.requires.more) number both

pub invariant_of-result : goal.invariant_of-result
invariant_of-result c =
    let room : length c.first_lines.new.line ≡ length c.in-Ok.line.items =
    c.first_lines.auto.line ∙ ap (λ (zs : List ℤ). length zs) c.deref_mut.ensures.value in
    let w = written_whole c.in-Ok.line.len c.in-Ok.line.items c.first_lines.new.line (search rules) room in
    rw w (made c).0

pub returns-clause-rows : goal.returns-clause-rows
returns-clause-rows c = ap (λ (rows : List Row). table_of c.args.unknowns c.args.parameters rows None) (made c).1

pub returns-clause-solutions : goal.returns-clause-solutions
returns-clause-solutions c p x size =
    let n = c.args.unknowns in
    let m = c.args.parameters in
    let fs = c.args.forms.now in
    let gs = c.args.more.now in
    subst (λ (rows : List Row). IsPoint (problem_of n (fs ++ gs)) p x ↔ IsSolution n rows p x) (sym (made c).1)
    (first_solutions n m (fs ++ gs) (speaks-append (n + m) fs gs (speaks_all (n + m) fs c.requires.forms)
    (speaks_all (n + m) gs c.requires.more)) p x size)
