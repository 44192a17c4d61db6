use Rattle.fm_projection.proofs.CondensedSystems.{condensed_over, condensed_points}
use Rattle.fm_projection.proofs.projection_laws.condensed_systems_have_the_same_points.Goals as goal

pub returns-clause-points : goal.returns-clause-points
returns-clause-points c = condensed_points

pub returns-clause-fractions : goal.returns-clause-fractions
returns-clause-fractions c = λ s d point positive. condensed_over d point positive s
