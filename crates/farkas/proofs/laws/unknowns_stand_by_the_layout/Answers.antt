use Rattle.farkas.proofs.UnknownPlaces.{layout_one, layout_before, layout_behind, shows}
use Rattle.farkas.proofs.laws.unknowns_stand_by_the_layout.Goals as goal

pub returns-clause-one : goal.returns-clause-one
returns-clause-one c = layout_one

pub returns-clause-source_first : goal.returns-clause-source_first
returns-clause-source_first c = layout_before

pub returns-clause-target_first : goal.returns-clause-target_first
returns-clause-target_first c = layout_behind

pub returns-clause-unknowns : goal.returns-clause-unknowns
returns-clause-unknowns c = shows
