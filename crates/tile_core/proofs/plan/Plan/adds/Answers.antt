use Rattle.scop_syntax.proofs.Common.{◌∙◌}
use Rattle.tile_core.specs.Plans.{place_of}
use Rattle.tile_core.proofs.CopiedCells.{adds_alike}
use Rattle.tile_core.proofs.plan.Plan.adds.Goals as goal

pub returns : goal.returns
returns c =
    let plan = c.args.self.now in
    c.row.ensures.tells.adds ∙ adds_alike plan c.requires.plan (place_of plan c.args.instance.now)
