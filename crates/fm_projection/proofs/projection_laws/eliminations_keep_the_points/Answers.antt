use Rattle.fm_projection.proofs.WholePoints.{follow}
use Rattle.fm_projection.proofs.FractionPoints.{front_of}
use Rattle.fm_projection.proofs.Ranges.{last_value}
use Rattle.fm_projection.proofs.projection_laws.eliminations_keep_the_points.Goals as goal

pub returns-clause-one : goal.returns-clause-one
returns-clause-one c = follow

pub returns-clause-front : goal.returns-clause-front
returns-clause-front c = front_of

pub returns-clause-last : goal.returns-clause-last
returns-clause-last c = last_value
