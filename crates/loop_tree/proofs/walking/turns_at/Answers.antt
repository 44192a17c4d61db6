use Rattle.scop_syntax.proofs.Common.{◌++◌, subst, sym, FitsSigned, w64, Affine, value_of}
use Rattle.loop_tree.specs.steps.Chain.{values_at}
use Rattle.loop_tree.specs.Fits.{FormFits}
use Rattle.loop_tree.proofs.WalkSteps.{form_fits_at, turn_held_at}
use Rattle.loop_tree.proofs.walking.turns_at.Goals as goal

pub turn_at-requires-clause-fits : goal.turn_at-requires-clause-fits
turn_at-requires-clause-fits c =
    let l = c.loop-form in
    let point = values_at c.args.point.now ++ c.args.params.now in
    subst (λ (f : Affine). FormFits f point) (sym c.form-item.is)
    (form_fits_at c.args.forms.now l.form-index c.form-item.result point c.loop-form-test.true c.requires.fits)

pub turn_at-requires-clause-held : goal.turn_at-requires-clause-held
turn_at-requires-clause-held c =
    let l = c.loop-form in
    let point = values_at c.args.point.now ++ c.args.params.now in
    subst (λ (f : Affine). FitsSigned w64 (value_of f point)) (sym c.form-item.is)
    (turn_held_at c.args.forms.now l.form-index c.form-item.result point c.loop-form-test.true c.requires.held)
