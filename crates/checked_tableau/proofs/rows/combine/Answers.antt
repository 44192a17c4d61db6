use Rattle.whole_numbers.proofs.Common.{rules, ◌-◌, ◌+◌, ℤ, pos, get_or, List, drop, set, ◌++◌, length, sym, ◌∙◌, subst}
use Rattle.whole_numbers.proofs.Common.{arith, FitsSigned, Result, w128, to_z-of_z, take_all, length-drop}
use Rattle.wide_math.specs.declared.Wide.{Wide}
use Rattle.wide_math.specs.Checked.{product_of}
use Rattle.wide_math.specs.Gives.{Becomes}
use Rattle.tableau_rows.specs.Moves.{entries_run}
use Rattle.tableau_rows.proofs.Lines.{line_run-split, line-err, line_becomes}
use Rattle.checked_tableau.proofs.rows.combine.Goals as goal

pub returns-in-Err : goal.returns-in-Err
returns-in-Err c =
    let ps = c.args.pivot.now in
    let s = c.args.column in
    let part = c.split_at_mut-denominator in
    let den = part.result.0.now in
    let es = part.result.1.now in
    let fa : FitsSigned w128 (get_or ps (s + 1) (pos 0)) = search rules in
    let fb : FitsSigned w128 (get_or den 0 (pos 0)) = search rules in
    let failed = simp to_z-of_z at c.in-Err.ensures in
    line_run-split s ps c.args.row.now den es part.ensures.value part.ensures.front_len
    ∙ line-err (product_of (get_or den 0 (pos 0)) (get_or ps (s + 1) (pos 0)))
    (entries_run s (get_or (drop 1 ps) s (pos 0)) (get_or es s (pos 0)) (get_or ps 0 (pos 0)) es (drop 1 ps))
    c.in-Err.wide (sym failed)

pub returns : goal.returns
returns c =
    let ps = c.args.pivot.now in
    let s = c.args.column in
    let part = c.split_at_mut-denominator in
    let den = part.result.0.now in
    let es = part.result.1.now in
    let fa : FitsSigned w128 (get_or ps (s + 1) (pos 0)) = search rules in
    let fb : FitsSigned w128 (get_or den 0 (pos 0)) = search rules in
    let fp : FitsSigned w128 (get_or ps 0 (pos 0)) = search rules in
    let fz : FitsSigned w128 c.in-Ok.product = search rules in
    let times = simp to_z-of_z at c.in-Ok.ensures in
    let after = simp to_z-of_z at c.combine_entries.ensures in
    let whole = take_all (length ps - 1) (drop 1 ps) (omega (arith, length-drop 1 ps)) in
    let rest = subst (λ (ys : List ℤ). Becomes c.combine_entries.new.entries c.combine_entries.result
    (entries_run s (get_or ys s (pos 0)) (get_or es s (pos 0)) (get_or ps 0 (pos 0)) es ys)) whole after in
    let run = entries_run s (get_or (drop 1 ps) s (pos 0)) (get_or es s (pos 0)) (get_or ps 0 (pos 0)) es (drop 1 ps) in
    simp to_z-of_z
    (subst (λ (r : Result (List ℤ) Wide). Becomes (set den 0 c.in-Ok.product ++ c.combine_entries.new.entries)
    c.combine_entries.result r)
    (sym (line_run-split s ps c.args.row.now den es part.ensures.value part.ensures.front_len))
    (line_becomes (product_of (get_or den 0 (pos 0)) (get_or ps (s + 1) (pos 0))) run c.in-Ok.product den
    c.combine_entries.new.entries c.combine_entries.result
    (sym times) part.ensures.front_len rest))
