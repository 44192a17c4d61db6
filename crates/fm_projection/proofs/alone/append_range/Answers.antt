use Rattle.whole_numbers.proofs.Common.{rules, ◌≡◌, ◌∙◌, ◌-◌, ◌++◌, ◌∷◌, [], ap, sym, refl, List, arith, Affine}
use Rattle.std.proofs.lemmas.List.{append-nil}
use Rattle.fm_projection.specs.Alone.{range_rows}
use Rattle.fm_projection.proofs.RangeRows.{least_row, most_row, two_more, range_more, range_end}
use Rattle.fm_projection.proofs.alone.append_range.Goals as goal

pub loop-place-init : goal.loop-place-init
loop-place-init c = ([], sym (append-nil c.args.rows.now.items), refl)

pub loop-place-preserved : goal.loop-place-preserved
loop-place-preserved c =
    let v = c.args.variables in
    let i = c.loop-place.place in
    let old = c.loop-place.rows.items in
    let inv = c.loop-place.invariant in
    let least = least_row v i in
    let most = most_row v i in
    let pushed : c.push_place-in-loop-place.new.rows.items ≡ (old ++ least ∷ []) ++ most ∷ [] = search rules in (
      inv.0 ++ least_row v i ∷ most_row v i ∷ [],
      pushed ∙ two_more c.args.rows.now.items old inv.0 least most least most inv.1 refl refl,
      range_more v i inv.0 (range_rows v c.args.first (v - c.args.first)) (omega arith) inv.2,
    )

pub returns : goal.returns
returns c =
    let v = c.args.variables in
    let inv = c.loop-place.invariant in
    let ended : v - c.loop-place.place ≡ 0 = omega arith in
    inv.1
    ∙ ap (λ (fs : List Affine). c.args.rows.now.items ++ fs)
    (range_end v c.loop-place.place inv.0 (range_rows v c.args.first (v - c.args.first)) ended inv.2)
