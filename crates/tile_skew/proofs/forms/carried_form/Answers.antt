use Rattle.scop_syntax.proofs.Common.{◌≡◌, ◌+◌, rules, arith, length, subst, ap₂, Affine, IfOk, IfOk-weaker}
use Rattle.std.proofs.lemmas.List.{append_assoc}
use Rattle.tile_skew.specs.ScanSets.{carried_form}
use Rattle.tile_skew.specs.steps.Sizes.{FitsWidth}
use Rattle.tile_skew.proofs.Widths.{carried_small}
use Rattle.tile_skew.proofs.forms.carried_form.Goals as goal

pub returns-clause-form : goal.returns-clause-form
returns-clause-form c =
    let s = c.args.scattering.now in
    let l = s.layout in
    let made : IfOk c.form_from.result (λ f. f ≡ carried_form l (c.len-wave.result + 1) c.as_slice-rows.result.now) =
    search (rules, append_assoc) in
    let wave : c.len-wave.result ≡ length s.items.now.leading.items = search rules in
    subst (λ (g : Affine). IfOk c.form_from.result (λ f. f ≡ g))
    (ap₂ (λ n rs. carried_form l (n + 1) rs) wave c.as_slice-rows.ensures.value) made

pub returns-clause-small : goal.returns-clause-small
returns-clause-small c =
    let s = c.args.scattering.now in
    let items = s.items.now in
    IfOk-weaker c.form_from.result _ (FitsWidth s.layout)
    (λ g made. carried_small s.layout (length items.leading.items + 1) items.band.items g made
    (omega (arith, s.front)) s.fits) (returns-clause-form c)
