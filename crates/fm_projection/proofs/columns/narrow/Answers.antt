use Rattle.whole_numbers.proofs.Common.{◌∙◌, List, map, ap, arith, take_all, Affine}
use Rattle.fractions.specs.Elimination.{narrowed}
use Rattle.fm_projection.proofs.RemovedEntries.{narrowed_more}
use Rattle.fm_projection.proofs.columns.narrow.Goals as goal

pub loop-form-preserved : goal.loop-form-preserved
loop-form-preserved c =
    narrowed_more c.args.variable c.args.forms.now c.loop-form.form-index c.form-item.result c.in_ok-narrow.narrow
    c.loop-form.out.items c.push.new.self.items (omega arith) c.form-item.is c.loop-form.invariant
    c.in_ok-narrow.ensures c.in_ok-push.ensures.items

pub returns : goal.returns
returns c =
    c.loop-form.invariant
    ∙ ap (λ (fs : List Affine). map (narrowed c.args.variable) fs)
    (take_all c.loop-form.form-index c.args.forms.now (omega arith))
