use Rattle.tile_list.proofs.Counts.{tiles_counted, waves_counted}
use Rattle.tile_list.proofs.laws.tiles_are_counted.Goals as goal

pub returns-clause-tiles : goal.returns-clause-tiles
returns-clause-tiles c = tiles_counted

pub returns-clause-waves : goal.returns-clause-waves
returns-clause-waves c = waves_counted
