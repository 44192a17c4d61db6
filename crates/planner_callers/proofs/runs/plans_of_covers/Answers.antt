use Rattle.scop_syntax.proofs.Common.{◌∷◌, [], ap, false, inl, inr, instance, length, pos, sym}
use Rattle.whole_numbers.proofs.Common.{subst₂}
use Rattle.iteration_domains.specs.Model.{model_of}
use Rattle.schedule_rows.specs.Items.{band}
use Rattle.tile_skew.proofs.TilingAgreement.{items_found}
use Rattle.tile_skew.proofs.TilingOrder.{AreOrdered}
use Rattle.planner_callers.proofs.runs.plans_of_covers.Goals as goal

pub returns : goal.returns
returns c = λ program marked deps size i j r p positive none first second free sized holds schedule.
    let blocks = band (record { row = r; parallel = false } ∷ []) ∷ [] in
    let n = length (model_of program).statements in
    elim (subst₂ (AreOrdered (pos size) (instance p.earlier) (instance p.later))
    (items_found blocks n p.earlier.number first) (items_found blocks n p.later.number second)
    (c.tiled_schedules_are_good_plans.ensures program marked deps blocks [] size (sym (ap length none)) positive sized
    holds schedule i j p free)) [
      | inl rises ↦ inl rises
      | inr one ↦ inr one.0
    ]
