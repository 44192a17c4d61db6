use Rattle.scop_syntax.proofs.Common.{rules, ◌+◌, ◌<◌}
use Rattle.tile_core.proofs.Successors.{sum_fits}
use Rattle.tile_core.proofs.plan.Plan.size.Goals as goal

pub overflow_add-result : goal.overflow_add-result
overflow_add-result c =
    let fits : c.instances.result + c.successors.result < 18446744073709551616 =
    sum_fits c.args.self.now c.requires.plan c.args.tile c.instances.result c.successors.result c.requires.tile
    c.instances.ensures c.successors.ensures c.instances.type_inv in
    search rules
