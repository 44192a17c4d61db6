use Rattle.scop_syntax.proofs.Common.{rules, ◌∙◌, List, [], ◌∷◌, arith, subst, sym, Affine}
use Rattle.tile_table.specs.Lanes.{AreLanes}
use Rattle.tile_table.proofs.Joins.{four_of, lane_first, no_lanes}
use Rattle.tile_table.proofs.table.Row.lay_join.Goals as goal

pub returns-in-Some : goal.returns-in-Some
returns-in-Some c =
    let steps = c.args.steps.now in
    let turns = c.args.turns.now in
    let low = c.in-len4.len_at_least in
    let high = c.in-len4.len_below in
    let forms = four_of c.as_slice.result.now c.place-item.result c.first-item.result c.second-item.result
    c.third-item.result (omega (arith, low)) (omega (arith, high)) c.place-item.is c.first-item.is c.second-item.is
    c.third-item.is in
    record {
      cells = subst (λ (fs : List Affine). AreLanes fs steps turns
          (c.of.result ∷ c.of-in-Some.result ∷ c.of-in-Some-2.result ∷ c.of-in-Some-3.result ∷ []))
          (sym forms ∙ c.as_slice.ensures.value)
          (lane_first c.place-item.result _ steps turns c.of.result _ c.of.ensures
          (lane_first c.first-item.result _ steps turns c.of-in-Some.result _ c.of-in-Some.ensures
          (lane_first c.second-item.result _ steps turns c.of-in-Some-2.result _ c.of-in-Some-2.ensures
          (lane_first c.third-item.result _ steps turns c.of-in-Some-3.result _ c.of-in-Some-3.ensures
          (no_lanes steps turns [])))));
      stores = search rules;
      joins = c.in-Some.ensures;
    }
