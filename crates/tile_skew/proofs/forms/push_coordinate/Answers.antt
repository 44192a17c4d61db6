use Rattle.scop_syntax.proofs.Common.{◌≡◌, ◌++◌, ◌∷◌, [], ◌∙◌, List, ap, ap₂, subst, pos, OnOk, Affine}
use Rattle.std.proofs.lemmas.List.{append_assoc}
use Rattle.tile_skew.specs.ScanSets.{tile_begins, tile_ends}
use Rattle.tile_skew.proofs.forms.push_coordinate.Goals as goal

pub returns : goal.returns
returns c =
    let l = c.args.scattering.now.layout in
    let size = pos c.args.scattering.now.size in
    let f = c.args.form.now in
    let old = c.args.out.now.items in
    let both = ap₂ (λ fs g. fs ++ g ∷ []) (c.in_ok-push.ensures.pushed ∙ ap (λ g. old ++ g ∷ []) c.in_ok-begins.ensures)
    c.in_ok-ends.ensures
    ∙ append_assoc old (tile_begins l size c.args.at f ∷ []) (tile_ends l size c.args.at f ∷ []) in
    subst (λ (fs : List Affine). OnOk c.push-2.result (c.push-2.new.list.items ≡ fs)) both c.push-2.ensures.pushed
