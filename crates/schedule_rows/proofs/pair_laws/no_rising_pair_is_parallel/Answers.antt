use Rattle.schedule_rows.proofs.Pairs.{parallel_exact}
use Rattle.schedule_rows.proofs.pair_laws.no_rising_pair_is_parallel.Goals as goal

pub returns : goal.returns
returns c m d r s h = parallel_exact m d r s h
