use Rattle.schedule_rows.proofs.Pairs.{bounded_distance}
use Rattle.schedule_rows.proofs.pair_laws.farkas_rows_bound_distances.Goals as goal

pub returns : goal.returns
returns c d r params x y s f h = bounded_distance d r params x y s f h
