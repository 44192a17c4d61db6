use Rattle.fm_projection.proofs.FractionPoints.{all_left, projected_left}
use Rattle.fm_projection.proofs.projection_laws.eliminations_are_exact_one_after_another.Goals as goal

pub returns-clause-gone : goal.returns-clause-gone
returns-clause-gone c = all_left

pub returns-clause-projected : goal.returns-clause-projected
returns-clause-projected c = projected_left
