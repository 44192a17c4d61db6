use Rattle.schedule_rows.proofs.Pairs.{equal_to, equal_from}
use Rattle.schedule_rows.proofs.pair_laws.equal_rows_restrict.Goals as goal

pub returns-clause-to : goal.returns-clause-to
returns-clause-to c m d r params x y s h = equal_to m d r params x y s h

pub returns-clause-from : goal.returns-clause-from
returns-clause-from c m d r params x y s h e = equal_from m d r params x y s h e
