use Rattle.tile_list.proofs.Numbers.{lesser_number, numbers_rise, same_numbers}
use Rattle.tile_list.proofs.laws.numbers_tell_waves.Goals as goal

pub returns-clause-same : goal.returns-clause-same
returns-clause-same c = same_numbers

pub returns-clause-less : goal.returns-clause-less
returns-clause-less c = lesser_number

pub returns-clause-rise : goal.returns-clause-rise
returns-clause-rise c = numbers_rise
