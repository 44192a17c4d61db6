use Rattle.scop_syntax.proofs.Common.{rules, ◌≡◌, ◌++◌, ◌∷◌, []}
use Rattle.affine_forms.specs.Parts.{variables_of}
use Rattle.plain_scan.specs.Hulls.{IsHullRow}
use Rattle.plain_scan.proofs.HullRows.{hull_row_more}
use Rattle.plain_scan.proofs.widest.push_widest.Goals as goal

pub returns-in_ok-push-in-Some-clause-rows : goal.returns-in_ok-push-in-Some-clause-rows
returns-in_ok-push-in-Some-clause-rows c rows =
    let depth = c.args.depth in
    let n = variables_of c.args.row.now in
    let os = c.args.outlines.now in
    let f = c.in-Some.form in
    let old = c.args.out.now.items in
    let new = c.push.new.self.items in
    let pushed : new ≡ old ++ f ∷ [] = search rules in
    let row : IsHullRow depth n os f = search rules in
    hull_row_more depth n os old new f pushed rows row
