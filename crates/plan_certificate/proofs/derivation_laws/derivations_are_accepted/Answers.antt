use Rattle.plan_certificate.proofs.AcceptedRuns.{accepted, lines_written}
use Rattle.plan_certificate.proofs.derivation_laws.derivations_are_accepted.Goals as goal

pub returns-clause-derived : goal.returns-clause-derived
returns-clause-derived c = λ n rows steps sized e. accepted n rows steps e

pub returns-clause-written : goal.returns-clause-written
returns-clause-written c = λ n rows steps e. lines_written n rows steps e
