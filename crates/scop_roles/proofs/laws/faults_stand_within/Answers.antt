use Rattle.scop_roles.proofs.Places.{faults_within, place_faults_within, place_from, place_below}
use Rattle.scop_roles.proofs.laws.faults_stand_within.Goals as goal

pub returns-clause-faults : goal.returns-clause-faults
returns-clause-faults c look at t n r = faults_within look at t n r

pub returns-clause-place_faults : goal.returns-clause-place_faults
returns-clause-place_faults c look at t n = place_faults_within look at t n

pub returns-clause-from : goal.returns-clause-from
returns-clause-from c look at t = place_from look at t

pub returns-clause-below : goal.returns-clause-below
returns-clause-below c look at t = place_below look at t
