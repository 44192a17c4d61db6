use Rattle.data_lines.proofs.SoundLemmas.{cells_agree, cells_or_seed, seeds_agree, values_agree}
use Rattle.data_lines.proofs.laws.lines_say_one_thing.Goals as goal

pub returns-clause-value : goal.returns-clause-value
returns-clause-value c = values_agree

pub returns-clause-cells : goal.returns-clause-cells
returns-clause-cells c = cells_agree

pub returns-clause-seed : goal.returns-clause-seed
returns-clause-seed c = seeds_agree

pub returns-clause-either : goal.returns-clause-either
returns-clause-either c = cells_or_seed
