use Rattle.whole_numbers.proofs.Common.{◌∙◌, List, map, ap, arith, take_all, Affine}
use Rattle.checked_tableau.specs.Nodes.{longer_form}
use Rattle.pip_solver.proofs.CopiedLists.{mapped_more}
use Rattle.pip_solver.proofs.forms.longer_forms.Goals as goal

pub loop-form-preserved : goal.loop-form-preserved
loop-form-preserved c =
    mapped_more longer_form c.args.forms.now c.loop-form.form-index c.form-item.result c.loop-form.all.items
    c.push_longer.new.forms.items (omega arith) c.form-item.is c.loop-form.invariant c.in-Ok-push_longer.ensures

pub returns : goal.returns
returns c =
    c.loop-form.invariant
    ∙ ap (λ (fs : List Affine). map longer_form fs) (take_all c.loop-form.form-index c.args.forms.now (omega arith))
