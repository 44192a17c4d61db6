use Rattle.whole_numbers.proofs.Common.{◌≡◌, ◌∙◌, sym, ap, ℤ, List, set, to_z-of_z, zeros, form_of, replicate-zeros}
use Rattle.wide_math.specs.declared.Wide.{Wide}
use Rattle.fm_projection.proofs.RemovedEntries.{same_ok}
use Rattle.fm_projection.proofs.alone.place_form.Goals as goal

pub returns : goal.returns
returns c =
    let z = c.in_ok-coefficients.ensures.items_if_clones_equal (λ y e. e) ∙ replicate-zeros c.args.variables in
    let fits = c.ranges.factor in
    let fits2 = c.ranges.constant in
    let value = simp to_z-of_z at c.deref.ensures.value in
    let line : c.deref.result.now ≡ set (zeros c.args.variables) c.args.place c.args.factor =
    value ∙ ap (λ (zs : List ℤ). set zs c.args.place c.args.factor) z in
    let formed = simp to_z-of_z at c.in-Ok.ensures.form in
    let made = same_ok {E = Wide} (form_of c.deref.result.now c.args.constant) c.in-Ok.form formed in
    sym made ∙ ap (λ (zs : List ℤ). form_of zs c.args.constant) line
