use Rattle.scop_syntax.proofs.Common.{◌∷◌, [], ◌<◌, false, length, pos, refl, subst, sym}
use Rattle.whole_numbers.proofs.Common.{subst₂}
use Rattle.schedule_rows.specs.Items.{band}
use Rattle.tile_skew.proofs.TilingAgreement.{items_found}
use Rattle.tile_skew.proofs.TilingOrder.{AreOrdered}
use Rattle.planner_callers.proofs.runs.plans_of_one_row.Goals as goal

pub returns : goal.returns
returns c = λ loops deps size r d x y positive sized schedule among relates less.
    let blocks = band (record { row = r; parallel = false } ∷ []) ∷ [] in
    let n = length loops in
    let z = sized d among in
    subst₂ (AreOrdered (pos size) x y)
    (items_found blocks n x.number (subst (λ k. k < n) (sym relates.source) z.source))
    (items_found blocks n y.number (subst (λ k. k < n) (sym relates.target) z.target))
    (c.tiled_dependences_are_in_order.ensures 0 loops deps blocks size 0 1 positive sized schedule d [] x y among refl
    relates (λ _. less))
