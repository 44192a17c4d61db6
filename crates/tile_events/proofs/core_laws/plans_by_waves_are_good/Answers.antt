use Rattle.tile_events.proofs.Covers.{good_waves, waves_good}
use Rattle.tile_events.proofs.core_laws.plans_by_waves_are_good.Goals as goal

pub returns-clause-ordered : goal.returns-clause-ordered
returns-clause-ordered c = good_waves

pub returns-clause-good : goal.returns-clause-good
returns-clause-good c = waves_good
