use Rattle.whole_numbers.proofs.Common.{rules, ◌≡◌, ◌∙◌, ◌+◌, ◌-◌, ◌++◌, ◌∷◌, [], subst, sym, List, append_assoc, arith}
use Rattle.whole_numbers.proofs.Common.{Affine}
use Rattle.fm_projection.specs.Alone.{range_rows}
use Rattle.fm_projection.proofs.RangeRows.{least_row, most_row, range_more}
use Rattle.traced_projections.proofs.alone.range.Goals as goal

pub loop-place-preserved : goal.loop-place-preserved
loop-place-preserved c =
    let v = c.args.variables in
    let i = c.loop-place.place in
    let old = c.loop-place.rows.items in
    let all = range_rows v c.args.first (v - c.args.first) in
    let pushed : c.push-in-loop-place.new.self.items ≡ (old ++ least_row v i ∷ []) ++ most_row v i ∷ [] = search rules in
    subst (λ (fs : List Affine). fs ++ range_rows v (i + 1) (v - (i + 1)) ≡ all)
    (sym (pushed ∙ append_assoc old (least_row v i ∷ []) (most_row v i ∷ [])))
    (range_more v i old all (omega arith) c.loop-place.invariant)
