use Rattle.scop_syntax.proofs.Common.{◌∙◌}
use Rattle.tile_core.specs.Plans.{place_of}
use Rattle.tile_core.proofs.CopiedCells.{as_many_reads}
use Rattle.tile_core.proofs.plan.Plan.reads.Goals as goal

pub returns-clause-count : goal.returns-clause-count
returns-clause-count c =
    let plan = c.args.self.now in
    c.reads.ensures
    ∙ (c.row.ensures.tells.reads ∙ as_many_reads plan c.requires.plan (place_of plan c.args.instance.now))
