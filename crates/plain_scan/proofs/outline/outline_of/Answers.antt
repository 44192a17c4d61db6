use Rattle.scop_syntax.proofs.Common.{rules, ◌≡◌, ◌∙◌, ap}
use Rattle.traced_projections.specs.Tracing.{constraints_of, traced}
use Rattle.traced_projections.proofs.Runs.{traced_same}
use Rattle.plain_scan.proofs.outline.outline_of.Goals as goal

pub outline_by-requires-clause-start : goal.outline_by-requires-clause-start
outline_by-requires-clause-start c =
    let s = c.args.set.now.system in
    let is : c.in-Ok.traced ≡ traced s = search rules in
    ap constraints_of is ∙ traced_same s
