-- The plan that the code's items stand for.
use Rattle.std.specs.Prelude.{map}
use Rattle.plan_check.specs.Plans.{Plan, PlanRow, PlanItem, rows, numbers}
use Rattle.plan_check.specs.declared.plan.BandRow.{BandRow}
use Rattle.plan_check.specs.declared.plan.LaterItem.TheVariants as item
use Rattle.plan_check.specs.declared.plan.PlanItems.{PlanItems}

abbrev pub row_of : BandRow → PlanRow
row_of r = record { forms = r.forms.items; parallel = r.parallel }

abbrev pub item_of : item.the_data → PlanItem
item_of (item.Row forms) = rows forms.items
item_of (item.Scalar ns) = numbers ns.items

abbrev pub plan_of : PlanItems → Plan
plan_of p =
    record {
      leading = map (λ v. v.items) p.leading.items;
      band = map row_of p.band.items;
      behind = map item_of p.behind.items;
    }
