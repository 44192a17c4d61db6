use Rattle.quast_trees.proofs.LivePaths.{blocked_not}
use Rattle.quast_trees.proofs.laws.blocked_paths_have_no_point.Goals as goal

pub returns : goal.returns
returns c p point qs blocked goes = blocked_not p.turns point qs blocked goes
