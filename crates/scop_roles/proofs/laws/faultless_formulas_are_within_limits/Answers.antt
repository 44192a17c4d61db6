use Rattle.scop_roles.proofs.Affines.{affine_limits, value_limits, place_limits, condition_limits, reads_counted}
use Rattle.scop_roles.proofs.laws.faultless_formulas_are_within_limits.Goals as goal

pub returns-clause-affine : goal.returns-clause-affine
returns-clause-affine c n f h = affine_limits n f h

pub returns-clause-value : goal.returns-clause-value
returns-clause-value c ranks n f s h = value_limits ranks n f s h

pub returns-clause-place : goal.returns-clause-place
returns-clause-place c ranks n f s a h r = place_limits ranks n f s a h r

pub returns-clause-some : goal.returns-clause-some
returns-clause-some c n f h = (condition_limits n f h).0

pub returns-clause-condition : goal.returns-clause-condition
returns-clause-condition c n f h = (condition_limits n f h).1

pub returns-clause-reads : goal.returns-clause-reads
returns-clause-reads c n f h = reads_counted n f h
