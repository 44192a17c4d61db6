use Rattle.tile_events.proofs.Clocks.{step_seen, none_made}
use Rattle.tile_events.proofs.Table.{misses_count}
use Rattle.tile_events.proofs.table_laws.clocks_tell.Goals as goal

pub returns-clause-steps : goal.returns-clause-steps
returns-clause-steps g c p most worker parts clock s t id v w h after =
    step_seen parts clock p s.words t.words s.views t.views id v w h.timed after.timed

pub returns-clause-misses : goal.returns-clause-misses
returns-clause-misses g c = misses_count

pub returns-clause-opening : goal.returns-clause-opening
returns-clause-opening g c p most worker parts clock s h = none_made parts clock p s.words s.views h.timed
