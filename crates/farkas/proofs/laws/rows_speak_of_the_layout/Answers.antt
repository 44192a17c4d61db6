use Rattle.farkas.proofs.UnknownPlaces.{row_length, legal_says, bounded_says}
use Rattle.farkas.proofs.laws.rows_speak_of_the_layout.Goals as goal

pub returns-clause-columns : goal.returns-clause-columns
returns-clause-columns c = row_length

pub returns-clause-legality : goal.returns-clause-legality
returns-clause-legality c = legal_says

pub returns-clause-bounding : goal.returns-clause-bounding
returns-clause-bounding c = bounded_says
