use Rattle.whole_numbers.proofs.Floors.{floor_unique, ceiling_is, ceiling_unique}
use Rattle.whole_numbers.proofs.division_laws.rounded_quotients_are_floor_and_ceiling.Goals as goal

pub returns-clause-one_floor : goal.returns-clause-one_floor
returns-clause-one_floor c = floor_unique

pub returns-clause-ceiling : goal.returns-clause-ceiling
returns-clause-ceiling c = ceiling_is

pub returns-clause-one_ceiling : goal.returns-clause-one_ceiling
returns-clause-one_ceiling c = ceiling_unique
