use Rattle.scop_syntax.proofs.Common.{◌≡◌, ◌+◌, ◌∙◌, rules, ap, sym, subst, arith, length, map, pos, ◌++◌, All}
use Rattle.scop_syntax.proofs.Common.{all_unmapped, length-map}
use Rattle.loop_tree.specs.TilingView.{item_of}
use Rattle.tile_skew.specs.ScanSets.{have_values, number_form, row_form, item_form}
use Rattle.tile_skew.specs.steps.Sizes.{FitsTurns, FitsItem}
use Rattle.tile_skew.proofs.ItemSteps.{items_put}
use Rattle.tile_skew.proofs.sets.push_item_values.Goals as goal

pub push_rows-requires-clause-small : goal.push_rows-requires-clause-small
push_rows-requires-clause-small c =
    let s = c.args.scattering.now in
    subst (λ rs. All (λ r. FitsTurns s.layout.turns r.form) rs) (sym c.as_slice-2.ensures.value) s.small.band

pub push_items-requires-clause-small : goal.push_items-requires-clause-small
push_items-requires-clause-small c =
    let s = c.args.scattering.now in
    let P = FitsItem s.layout.turns in
    all_unmapped P item_of _ (subst (λ is. All P (map item_of is)) (sym c.as_slice-3.ensures.value) s.small.behind)

pub returns : goal.returns
returns c =
    let l = c.args.scattering.now.layout in
    let s = c.args.scattering.now.items.now in
    let old = c.args.out.now.items in
    let a : c.len-leading.result ≡ length s.leading.items = search rules in
    let b : c.len-band.result ≡ length s.band.items = search rules in
    let j = c.len-leading.result + (1 + c.len-band.result) in
    let k = j + c.len-leading.result in
    let m = k + c.len-band.result in
    let numbers = map (λ n. number_form l (pos n)) s.leading.items in
    let rows = map (λ r. row_form l r.form) s.band.items in
    let items = map (item_form l) (map item_of s.behind.items) in
    let p = length-map s.leading.items (λ n. number_form l (pos n)) in
    let q = length-map s.band.items (λ r. row_form l r.form) in
    let from : j ≡ length s.leading.items + (1 + length s.band.items) = omega (arith, a, b) in
    items_put l j k m numbers rows items old c.push_leading.new.out.items c.push_rows.new.out.items
    c.push_items.new.out.items (omega (arith, a, p)) (omega (arith, b, q))
    (c.in_ok-push_leading.ensures
    ∙ ap (λ ns. old ++ have_values l j (map (λ n. number_form l (pos n)) ns)) c.as_slice.ensures.value)
    (c.in_ok-push_rows.ensures
    ∙ ap (λ rs. c.push_leading.new.out.items ++ have_values l k (map (λ r. row_form l r.form) rs))
    c.as_slice-2.ensures.value)
    (c.in_ok-push_items.ensures
    ∙ ap (λ is. c.push_rows.new.out.items ++ have_values l m (map (item_form l) (map item_of is)))
    c.as_slice-3.ensures.value)
    ∙ ap (λ n. old ++ have_values l n (numbers ++ (rows ++ items))) from
