-- One line more, and at the end the text of the blocks, whose numbers fit their types.
use Rattle.scop_syntax.proofs.Common.{◌∙◌, ◌+◌, ◌++◌, ◌<◌, ◌≤◌, sym, subst, ap, arith, length, drop, get_or, length-map}
use Rattle.scop_syntax.proofs.Common.{all_next, all_taken, get_or-map}
use Rattle.schedule_rows.specs.Schedule.{item_of}
use Rattle.report_text.specs.ScheduleText.{IsNarrowItem}
use Rattle.report_text.specs.steps.ScheduleLines.{item_text, items_text}
use Rattle.report_text.proofs.AppendedTexts.{next_appended}
use Rattle.report_text.proofs.ScheduleLemmas.{lines_next, schedule_lines}
use Rattle.report_text.proofs.item_lines.schedule_text.Goals as goal

pub loop-at-preserved : goal.loop-at-preserved
loop-at-preserved c =
    let schedule = c.args.schedule.now in
    let own = c.items-items.result.now in
    let shown = c.items-items.ensures.items in
    let at = c.loop-at.at in
    let item = item_of c.index-items-at.result in
    let inside : at < length own = omega (arith, c.loop-at-test.true) in
    let less : at < length schedule.items = omega (arith, inside, length-map own item_of, ap length shown) in
    let is = sym (ap (λ items. get_or items at item) shown)
    ∙ (get_or-map item_of own at c.index-items-at.result item inside ∙ ap item_of (sym c.index-items-at.is)) in
    let next = lines_next schedule.items schedule.parallel schedule.bands c.bands-bands.result.now at c.loop-at.count
    c.entered-count.result item c.is_parallel-parallel.result less is c.is_parallel-parallel.ensures.parallel
    c.bands-bands.ensures c.entered-count.ensures.count in
    record {
      within = subst (λ bands. c.entered-count.result ≤ length bands) c.bands-bands.ensures
          c.entered-count.ensures.within;
      whole = next_appended c.loop-at.text.items c.push_item.new.out.items
          (item_text (at + 1) c.entered-count.result c.is_parallel-parallel.result item)
          (items_text (at + 1) c.entered-count.result schedule.bands (drop (at + 1) schedule.items)
          (drop (at + 1) schedule.parallel)) _ c.in-Ok.ensures.text
          (ap (λ t. c.loop-at.text.items ++ t) next ∙ c.loop-at.invariant.whole);
      narrow = all_next IsNarrowItem schedule.items at item (sym is) less c.loop-at.invariant.narrow
          c.in-Ok.ensures.narrow;
    }

pub returns : goal.returns
returns c =
    let schedule = c.args.schedule.now in
    let own = c.items-items.result.now in
    let shown = c.items-items.ensures.items in
    let is = c.items-items.ensures.schedule in
    let past : length schedule.items ≤ c.loop-at.at =
    omega (arith, c.loop-at-test.false, length-map own item_of, ap length shown) in
    record {
      text = record {
        blocks = is.blocks;
        run = is.run;
        text_is = schedule_lines schedule.items schedule.parallel schedule.bands is.blocks c.loop-at.text.items
            c.loop-at.at c.loop-at.count is.items is.bands is.parallel past c.loop-at.invariant.whole;
      };
      narrow = all_taken IsNarrowItem schedule.items c.loop-at.at past c.loop-at.invariant.narrow;
    }
