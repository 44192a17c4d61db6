use Rattle.std.proofs.Common.{◌≡◌, ◌∙◌, sym, ap, rules, arith, get_or, pos, FitsSigned}
use Rattle.std.specs.Int.{w128}
use Rattle.std.proofs.lemmas.Int.{to_z-of_z}
use Rattle.affine_forms.specs.Parts.{variables_of}
use Rattle.affine_forms.proofs.Steps.{plus_combination_run-step}
use Rattle.affine_forms.proofs.Values.{plus_multiple_run-variables}
use Rattle.affine_forms.proofs.form.Form.add_combination.Goals as goal

pub loop-at-preserved : goal.loop-at-preserved
loop-at-preserved c =
    let k = get_or c.args.factors.now c.loop-at.at (pos 0) in
    let g = c.index-forms-at.result in
    let fits_k : FitsSigned w128 (get_or c.args.factors.now c.loop-at.at (pos 0)) = search rules in
    let given = simp to_z-of_z at c.in-Ok.ensures in
    let is = c.index-forms-at.is in
    let sized = c.requires.forms c.loop-at.at g (omega arith) in
    let width : variables_of g ≡ variables_of c.loop-at.self =
    ap variables_of is ∙ sized ∙ sym c.loop-at.invariant.width in
    let step =
    plus_combination_run-step c.loop-at.self c.args.factors.now c.args.forms.now c.loop-at.at g
    c.add_scaled.new.self (omega arith) (omega arith) is given in
    let kept = plus_multiple_run-variables c.loop-at.self k g c.add_scaled.new.self width given in
    record {
      rest = step ∙ c.loop-at.invariant.rest;
      width = kept ∙ c.loop-at.invariant.width;
    }
