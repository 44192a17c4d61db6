use Rattle.tile_list.proofs.Starts.{last_start, next_start, stands_there}
use Rattle.tile_list.proofs.laws.tiles_stand_one_behind_another.Goals as goal

pub returns-clause-next : goal.returns-clause-next
returns-clause-next c = next_start

pub returns-clause-last : goal.returns-clause-last
returns-clause-last c = last_start

pub returns-clause-at : goal.returns-clause-at
returns-clause-at c = stands_there
