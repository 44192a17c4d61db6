use Rattle.whole_numbers.proofs.Euclid.{euclid_unique}
use Rattle.whole_numbers.proofs.division_laws.euclidean_division_is_unique.Goals as goal

pub returns-clause-unique : goal.returns-clause-unique
returns-clause-unique c = euclid_unique
