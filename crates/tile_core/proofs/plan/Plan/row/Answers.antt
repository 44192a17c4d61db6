use Rattle.scop_syntax.proofs.Common.{instance_of}
use Rattle.tile_core.proofs.plan.Plan.row.Goals as goal

pub row-requires : goal.row-requires
row-requires c =
    c.rows_tell_instances.ensures.there c.args.self.now (instance_of c.args.instance.now) c.requires.plan
    c.requires.walked

pub returns-clause-tells : goal.returns-clause-tells
returns-clause-tells c =
    c.rows_tell_instances.ensures.tells c.args.self.now (instance_of c.args.instance.now) c.row.result.now
    c.requires.plan c.requires.walked c.row.ensures
