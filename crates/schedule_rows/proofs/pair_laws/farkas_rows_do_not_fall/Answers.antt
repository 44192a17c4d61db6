use Rattle.schedule_rows.proofs.Pairs.{legal_kept}
use Rattle.schedule_rows.proofs.pair_laws.farkas_rows_do_not_fall.Goals as goal

pub returns : goal.returns
returns c m d r s h = legal_kept m d r s h
