use Rattle.whole_numbers.proofs.Common.{rules}
use Rattle.integer_sets.specs.Constraints.{IsSized, variables_in}
use Rattle.fm_projection.specs.Alone.{LeavesAlone}
use Rattle.traced_projections.proofs.Runs.{exact_follows}
use Rattle.traced_projections.proofs.projections.exact_alone.Goals as goal

pub returns-in-Ok-clause-points : goal.returns-in-Ok-clause-points
returns-in-Ok-clause-points c =
    let s = c.args.system.now in
    let sized : IsSized (variables_in s) s.equalities s.rows = search rules in
    let run : LeavesAlone s c.last_alone.result = search rules in
    exact_follows s c.last_alone.result sized run
