use Rattle.tile_runs.proofs.Cores.{later_then}
use Rattle.tile_runs.proofs.alone.do_tile.Goals as goal

pub returns-clause-later : goal.returns-clause-later
returns-clause-later c =
    let first = c.args.core.now in
    let opened = c.open_next.new.core in
    let done = c.do_instances.new.core in
    let released = c.release_all.new.core in
    later_then first released c.act.new.core
    (later_then first done released
    (later_then first opened done c.open_next.ensures.later c.do_instances.ensures.later)
    c.release_all.ensures.later)
    c.act.ensures.later
