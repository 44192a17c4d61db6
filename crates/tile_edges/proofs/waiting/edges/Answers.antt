use Rattle.scop_syntax.proofs.Common.{◌≤◌, length, rules}
use Rattle.tile_edges.proofs.waiting.edges.Goals as goal

pub returns-else-len-gt-MOST_EDGES-clause-edges : goal.returns-else-len-gt-MOST_EDGES-clause-edges
returns-else-len-gt-MOST_EDGES-clause-edges c =
    let few : length c.in-Ok.edges.targets.items ≤ 4194304 = search rules in c.in-Ok.ensures.few few
