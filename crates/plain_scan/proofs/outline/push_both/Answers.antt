use Rattle.scop_syntax.proofs.Common.{◌≡◌, sym, subst, negsuc, on_ok_weaker, multiple_of_form}
use Rattle.plain_scan.specs.Between.{HasSmallNumbers}
use Rattle.plain_scan.specs.steps.Shadows.{IsRow}
use Rattle.plain_scan.proofs.AppendedRows.{row_of_equality, other_of_equality}
use Rattle.plain_scan.proofs.outline.push_both.Goals as goal

pub returns-in-Ok : goal.returns-in-Ok
returns-in-Ok c =
    let f = c.args.form.now in
    let other : c.in-Ok.other ≡ multiple_of_form (negsuc 0) f = c.in-Ok.ensures.entries in
    on_ok_weaker c.push_small-in-Ok.result
    (λ add t e rows. add t
    (subst (λ g. HasSmallNumbers g → IsRow t g) (sym other) (other_of_equality t f e))
    (c.in_ok-push_small.ensures t (row_of_equality t f e) rows))
    c.push_small-in-Ok.ensures

pub returns-in-Err-Wide : goal.returns-in-Err-Wide
returns-in-Err-Wide c t e rows = c.in_ok-push_small.ensures t (row_of_equality t c.args.form.now e) rows
