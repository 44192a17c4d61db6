use Rattle.scop_syntax.proofs.Common.{map}
use Rattle.scop_roles.specs.Formula.{formula_of}
use Rattle.scop_roles.specs.Forms.{form}
use Rattle.scop_units.specs.Scopes.{entries}
use Rattle.scop_units.specs.View.{scope_of}
use Rattle.scop_units.proofs.Parts.{extents_clean, forms_step}
use Rattle.scop_units.proofs.units.array_of.Goals as goal

pub form-requires : goal.form-requires
form-requires c =
    let n = entries (scope_of c.args.scope.now) in
    let clean = extents_clean n c.loop-extent.extent-index c.args.extents.now c.extent-item.result
    c.loop-extent-test.true c.extent-item.is c.loop-extent.invariant.clean in
    rw c.entries.ensures clean.0

pub loop-extent-preserved : goal.loop-extent-preserved
loop-extent-preserved c =
    let n = entries (scope_of c.args.scope.now) in
    let clean = extents_clean n c.loop-extent.extent-index c.args.extents.now c.extent-item.result
    c.loop-extent-test.true c.extent-item.is c.loop-extent.invariant.clean in
    let made = rw c.entries.ensures at c.in_ok-form.ensures.form in
    let step = forms_step n c.loop-extent.extent-index c.args.extents.now c.extent-item.result
    c.loop-extent.forms.items (map (form n) (map formula_of c.args.extents.now)) c.in_ok-form.field-0
    c.loop-extent-test.true c.extent-item.is made c.loop-extent.invariant.forms in
    record { forms = rw c.in_ok-push.ensures.items step; clean = clean.1 }
