-- One item more, and at the end the plan of the blocks.
use Rattle.scop_syntax.proofs.Common.{◌≡◌, ◌∙◌, ◌<◌, ◌≤◌, sym, subst, ap, arith, length, get_or, length-map, get_or-map}
use Rattle.schedule_rows.specs.Schedule.{item_of, loops_in}
use Rattle.plan_check.specs.Plans.{IsUp, Suits}
use Rattle.plan_check.specs.PlanView.{plan_of}
use Rattle.plan_certificate.specs.SchedulePlan.{plan_of_blocks}
use Rattle.plan_certificate.proofs.ItemLemmas.{items_next, items_end}
use Rattle.plan_certificate.proofs.SizedPlans.{plan_fits}
use Rattle.plan_certificate.proofs.schedule_items.plan_items.Goals as goal

pub loop-at-preserved : goal.loop-at-preserved
loop-at-preserved c =
    let schedule = c.args.schedule.now in
    let own = c.items-items.result.now in
    let shown = c.items-items.ensures.items in
    let at = c.loop-at.at in
    let item = item_of c.index-items-at.result in
    let inside : at < length own = omega (arith, c.loop-at-test.true) in
    let less : at < length schedule.items = omega (arith, inside, length-map own item_of, ap length shown) in
    let is = sym (ap (λ items. get_or items at item) shown)
    ∙ (get_or-map item_of own at c.index-items-at.result item inside ∙ ap item_of (sym c.index-items-at.is)) in
    items_next schedule.bands c.bands-bands.result.now schedule.items schedule.parallel at item
    c.is_parallel-parallel.result c.in_first-in_band.result (plan_of c.loop-at.plan) (plan_of c.push_item.new.plan) _
    less is c.is_parallel-parallel.ensures.parallel c.bands-bands.ensures c.in_first-in_band.ensures c.in-Ok.ensures
    c.loop-at.invariant

pub returns : goal.returns
returns c =
    let schedule = c.args.schedule.now in
    let own = c.items-items.result.now in
    let is = c.items-items.ensures.schedule in
    let loops = loops_in schedule.model in
    let past : length schedule.items ≤ c.loop-at.at =
    omega (arith, c.loop-at-test.false, length-map own item_of, ap length c.items-items.ensures.items) in
    let same : plan_of c.loop-at.plan ≡ plan_of_blocks is.blocks =
    items_end schedule.items schedule.parallel schedule.bands is.blocks c.loop-at.at (plan_of c.loop-at.plan) is.items
    is.bands is.parallel past c.loop-at.invariant in
    let fits = plan_fits loops is.blocks
    (c.schedules_have_small_items.ensures schedule.model.parameters loops schedule.deps is.blocks is.run) in
    record {
      blocks = is.blocks;
      run = is.run;
      items = is.items;
      plan = record {
        plan_is = same;
        suits = subst (Suits loops) (sym same) fits.0;
        up = subst IsUp (sym same) fits.1;
      };
    }
