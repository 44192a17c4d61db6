use Rattle.schedule_rows.proofs.ItemSizes.{schedule_sized}
use Rattle.schedule_rows.proofs.run_laws.schedules_have_small_items.Goals as goal

pub returns : goal.returns
returns c m loops deps blocks s = schedule_sized m loops deps blocks s
