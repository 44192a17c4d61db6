use Rattle.scop_syntax.proofs.Common.{◌<◌, ◌+◌, ◌∷◌, ◌∙◌, map, drop, drop_of_length-le, ap, sym, arith, length, pos}
use Rattle.scop_syntax.proofs.Common.{drop_more}
use Rattle.tile_skew.specs.ScanSets.{have_values, number_form}
use Rattle.tile_skew.proofs.ItemSteps.{values_step, nothing_left}
use Rattle.tile_skew.proofs.sets.push_leading.Goals as goal

pub loop-at-preserved : goal.loop-at-preserved
loop-at-preserved c =
    let l = c.args.scattering.now.layout in
    let at = c.loop-at.at in
    let leading = c.args.leading.now in
    let inside : at < length leading = omega (arith, c.loop-at-test.true) in
    let rest = map (λ n. number_form l (pos n)) (drop (at + 1) leading) in
    let there = ap (map (λ n. number_form l (pos n))) (drop_more leading at 0 inside)
    ∙ ap (λ f. f ∷ rest) (sym c.in_ok-form.ensures.form) in
    values_step l c.args.first at c.in_ok-form.form _ rest c.loop-at.out.items c.push_value.new.out.items _ there
    c.in_ok-push_value.ensures c.loop-at.invariant

pub returns : goal.returns
returns c =
    let l = c.args.scattering.now.layout in
    nothing_left c.loop-at.out.items _ _
    (ap (λ ks. have_values l (c.args.first + c.loop-at.at) (map (λ k. number_form l (pos k)) ks))
    (drop_of_length-le c.args.leading.now (omega (arith, c.loop-at-test.false))))
    c.loop-at.invariant
