use Rattle.fractions.proofs.Combination.{farkas_of_system}
use Rattle.fractions.proofs.farkas_laws.farkas_makes_a_form_not_negative_on_a_system.Goals as goal

pub returns : goal.returns
returns c = farkas_of_system
