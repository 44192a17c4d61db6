use Rattle.scop_syntax.proofs.Common.{rules, ◌≡◌, ◌++◌, ◌∷◌, [], refl, subst, sym, FitsSigned, w128, form_of}
use Rattle.affine_forms.specs.Parts.{variables_of}
use Rattle.plain_scan.specs.Hulls.{IsHullRow}
use Rattle.plain_scan.proofs.HullRows.{hull_row_more}
use Rattle.plain_scan.proofs.hull.push_weakest.Goals as goal

pub returns-in_ok-push-in-Ok-clause-rows : goal.returns-in_ok-push-in-Ok-clause-rows
returns-in_ok-push-in-Ok-clause-rows c rows =
    let row = c.args.row.now in
    let os = c.args.outlines.now in
    let depth = c.args.depth in
    let n = variables_of row in
    let form = c.in-Ok.form in
    let fits : FitsSigned w128 c.in-Some.constant = search rules in
    let is : form ≡ form_of row.coefficients c.in-Some.constant = search rules in
    let pushed : c.push.new.self.items ≡ c.args.out.now.items ++ form ∷ [] = search rules in
    hull_row_more depth n os c.args.out.now.items c.push.new.self.items form pushed rows
    (subst (IsHullRow depth n os) (sym is) (record {
      sized = refl;
      small = (c.requires.small.0, c.in-Some.ensures.small);
      holds = c.in-Some.ensures.holds;
    }))
