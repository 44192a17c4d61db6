use Rattle.wide_math.proofs.Steps.{checked-ok, checked-err}
use Rattle.wide_math.proofs.exactness.checked_operations_are_exact.Goals as goal

pub returns-clause-result : goal.returns-clause-result
returns-clause-result c = checked-ok

pub returns-clause-error : goal.returns-clause-error
returns-clause-error c = checked-err
