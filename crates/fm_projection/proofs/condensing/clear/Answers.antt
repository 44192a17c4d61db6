use Rattle.whole_numbers.proofs.Common.{◌≡◌, ◌<◌, ◌∙◌, ℕ, false, refl, subst, ap, arith, Ok}
use Rattle.affine_forms.specs.Parts.{variables_of}
use Rattle.fractions.specs.Elimination.{coefficient_of, is_zero}
use Rattle.fm_projection.specs.Runs.{reduced_run}
use Rattle.fm_projection.specs.Condensed.{first_place}
use Rattle.fm_projection.proofs.Loops.{zero_not}
use Rattle.fm_projection.proofs.CondensedSystems.{cleared_is}
use Rattle.fm_projection.proofs.condensing.clear.Goals as goal

pub returns-in-Ok : goal.returns-in-Ok
returns-in-Ok c =
    let e = c.args.equality.now in
    let f = c.args.form.now in
    let v = c.first_place-variable.result in
    let same : variables_of f ≡ variables_of e = omega arith in
    let place : v ≡ first_place e.coefficients = c.first_place-variable.ensures ∙ ap first_place c.coefficients.ensures in
    let inside : first_place e.coefficients < variables_of e = omega (arith, place) in
    let has : is_zero (coefficient_of v f) ≡ false =
    zero_not (coefficient_of v f) (λ z. c.if-coefficient-eq0.false (rw (c.coefficient.ensures ∙ z) refl)) in
    cleared_is e f c.in-Ok.next same inside (subst (λ (i : ℕ). is_zero (coefficient_of i f) ≡ false) place has)
    (subst (λ (i : ℕ). reduced_run i e f ≡ Ok c.in-Ok.next) place c.in-Ok.ensures)
