-- Tiled, the trees of an expanded plan are those of a flow plan; else those of the kept order.
use Rattle.scop_syntax.proofs.Common.{ap}
use Rattle.loop_tree.specs.TilingView.{tiling_of}
use Rattle.loop_tree.specs.View.{trees_in}
use Rattle.plan_search.specs.Planned.{is_tiled}
use Rattle.plan_search.proofs.FlowLemmas.{flow_where_tiled, kept_where_not}
use Rattle.plan_search.proofs.plans.Planned.is_tiled.Goals as goal

pub returns-in-Kept-clause-kept : goal.returns-in-Kept-clause-kept
returns-in-Kept-clause-kept c _ tile budget report program made =
    let p = c.args.self.now in
    kept_where_not tile budget report program (tiling_of p.tiling) p.lines.items (trees_in p.tree)
    (ap (λ t. is_tiled (tiling_of t)) c.in-Kept.is) made.planned

pub returns-in-Tiled-clause-tiled : goal.returns-in-Tiled-clause-tiled
returns-in-Tiled-clause-tiled c _ tile budget report program made =
    let p = c.args.self.now in
    flow_where_tiled tile budget report program (tiling_of p.tiling) p.lines.items (trees_in p.tree)
    (ap (λ t. is_tiled (tiling_of t)) c.in-Tiled.is) made.planned
