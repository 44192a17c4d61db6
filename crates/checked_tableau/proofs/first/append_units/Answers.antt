use Rattle.whole_numbers.proofs.Common.{rules, ◌≡◌, ◌+◌, ◌++◌, suc, length, subst, sym, ◌∙◌, arith}
use Rattle.tableau_rows.specs.Problem.{unit_rows}
use Rattle.tableau_rows.specs.Moves.{unit_line}
use Rattle.checked_tableau.specs.Lines.{Holds}
use Rattle.checked_tableau.proofs.Beginnings.{held_unit}
use Rattle.checked_tableau.proofs.first.append_units.Goals as goal

pub loop-column-preserved : goal.loop-column-preserved
loop-column-preserved c =
    let inv = c.loop-column.invariant in
    let k = c.loop-column.column in
    let line = c.write_unit.new.row in
    let cells = c.loop-column.cells.items in
    let same : length line ≡ length c.loop-column.line = c.write_unit.auto.row in
    let now : c.extend_from_slice.new.self.items ≡ cells ++ line = search rules in (
      same ∙ inv.0,
      λ m e.
          let is : line ≡ unit_line (suc m) k = subst (λ n. line ≡ unit_line n k) (sym same ∙ e) c.write_unit.ensures in
          subst (λ zs. Holds (suc m) (k + 1) zs (unit_rows m 0 (k + 1))) (sym now)
          (held_unit m k cells line (inv.1 m (sym same ∙ e)) is),
    )

pub returns : goal.returns
returns c m e =
    let inv = c.loop-column.invariant in
    let k : c.loop-column.column ≡ c.args.unknowns = omega arith in
    subst (λ n. Holds (suc m) n c.loop-column.cells.items (unit_rows m 0 n)) k (inv.1 m (inv.0 ∙ e))
