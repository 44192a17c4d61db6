-- The plan of a schedule, as the code makes it: item by item.
use Rattle.std.specs.Prelude.{◌≡◌, ℕ, suc, nat_le, Bool, false, List, [], ◌∷◌, ◌++◌, IfOk, Result}
use Rattle.std.specs.Prelude.{if◌then◌else◌}
use Rattle.whole_numbers.specs.Affine.{Affine}
use Rattle.schedule_rows.specs.Items.{Block}
use Rattle.schedule_rows.specs.Outcomes.{IsSchedule}
use Rattle.schedule_rows.specs.Schedule.{Item, row, scalar, Scheduled, items_of, loops_in}
use Rattle.schedule_rows.specs.declared.item.Band.{Band}
use Rattle.plan_check.specs.Plans.{Plan, PlanRow, rows, numbers, Suits, IsUp}
use Rattle.plan_check.specs.PlanView.{plan_of}
use Rattle.plan_check.specs.declared.plan.PlanItems.{PlanItems}
use Rattle.plan_certificate.specs.SchedulePlan.{forms_of, plan_of_blocks}

-- item k comes no later than the last of the first band
abbrev pub in_first : List Band → ℕ → Bool
in_first [] k = false
in_first (b ∷ bs) k = nat_le k b.last

-- no plan
abbrev pub no_items : Plan
no_items = record { leading = []; band = []; behind = [] }

-- a plan with a row more, in the first band or behind it
abbrev pub with_row : Bool → Bool → List Affine → Plan → Plan
with_row in_band parallel forms p =
    if in_band then record p { band = p.band ++ record { forms = forms; parallel = parallel } ∷ [] }
    else record p { behind = p.behind ++ rows forms ∷ [] }

-- with a scalar more: in front where the band has no row
abbrev pub numbers_by : List PlanRow → List ℕ → Plan → Plan
numbers_by [] ns p = record p { leading = p.leading ++ ns ∷ [] }
numbers_by (r ∷ rs) ns p = record p { behind = p.behind ++ numbers ns ∷ [] }

abbrev pub with_numbers : List ℕ → Plan → Plan
with_numbers ns p = numbers_by p.band ns p

-- with an item more
abbrev pub with_item : Bool → Bool → Item → Plan → Plan
with_item in_band parallel (row r) p = with_row in_band parallel (forms_of r) p
with_item in_band parallel (scalar ns) p = with_numbers ns p

-- with the items from this one on
abbrev pub with_items : List Band → ℕ → List Item → List Bool → Plan → Plan
with_items bands at [] marks p = p
with_items bands at (i ∷ is) [] p = p
with_items bands at (i ∷ is) (m ∷ ms) p =
    with_items bands (suc at) is ms (with_item (in_first bands at) m i p)

-- what the goals of a plan ask of it
pub record Fits (loops : List ℕ) (blocks : List Block) (p : Plan) : Type 0 where
  pub plan_is : p ≡ plan_of_blocks blocks
  pub suits : Suits loops p
  pub up : IsUp p

-- a schedule has these blocks, its items are theirs, and so is its plan
pub record IsPlanned {E : Type 0} (s : Scheduled) (result : Result PlanItems E) : Type 0 where
  pub blocks : List Block
  pub run : IsSchedule s.model.parameters (loops_in s.model) s.deps blocks
  pub items : s.items ≡ items_of blocks
  pub plan : IfOk result (λ p. Fits (loops_in s.model) blocks (plan_of p))
