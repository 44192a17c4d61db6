use Rattle.whole_numbers.proofs.Common.{rules, ◌∙◌, ◌++◌, ◌∷◌, [], ℤ, List, map, ap, arith, FitsSigned, w128, to_z-of_z}
use Rattle.whole_numbers.proofs.Common.{take_all, Affine}
use Rattle.pip_solver.proofs.CopiedLists.{mapped_more}
use Rattle.pip_solver.proofs.point.constants.Goals as goal

pub loop-form-preserved : goal.loop-form-preserved
loop-form-preserved c =
    let fits : FitsSigned w128 c.constant.result = search rules in
    let pushed = simp to_z-of_z at c.in-Ok-push.ensures.items in
    mapped_more (λ (f : Affine). f.constant) c.args.forms.now c.loop-form.form-index c.form-item.result
    c.loop-form.all.items c.push.new.self.items (omega arith) c.form-item.is c.loop-form.invariant
    (pushed ∙ ap (λ (z : ℤ). c.loop-form.all.items ++ z ∷ []) c.constant.ensures)

pub returns : goal.returns
returns c =
    c.loop-form.invariant
    ∙ ap (λ (fs : List Affine). map (λ f. f.constant) fs)
    (take_all c.loop-form.form-index c.args.forms.now (omega arith))
