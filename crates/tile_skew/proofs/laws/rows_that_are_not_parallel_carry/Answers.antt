use Rattle.tile_skew.proofs.AlikeSets.{band_there, band_many}
use Rattle.tile_skew.proofs.laws.rows_that_are_not_parallel_carry.Goals as goal

pub returns-clause-rows : goal.returns-clause-rows
returns-clause-rows c blocks k i m e = band_there blocks k i m e

pub returns-clause-count : goal.returns-clause-count
returns-clause-count c blocks k = band_many blocks k
