use Rattle.tile_events.proofs.Releases.{chain_done, counters_tell, gate_filled}
use Rattle.tile_events.proofs.release_laws.opened_tiles_have_waited.Goals as goal

pub returns-clause-released : goal.returns-clause-released
returns-clause-released c p e s deal edges few sound = counters_tell p e deal edges s sound few

pub returns-clause-conflicts : goal.returns-clause-conflicts
returns-clause-conflicts c p e s i j deal edges covered sound before less touch begun =
    let d = covered i j before less touch in chain_done p e deal edges s sound d.0 i j less d.1 begun

pub returns-clause-filled : goal.returns-clause-filled
returns-clause-filled c p e s u deal edges few sound less over = gate_filled p e deal edges s sound u less few over
