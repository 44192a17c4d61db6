use Rattle.scop_syntax.proofs.Common.{◌∙◌, ◌≡◌, length, sym, instance_of, there_is}
use Rattle.tile_core.specs.Plans.{place_of, plain_shape}
use Rattle.tile_core.proofs.CopiedCells.{as_many_reads}
use Rattle.tile_core.proofs.plan.Plan.value.Goals as goal
use Rattle.tile_core.proofs.plan.Plan.value.Goals.{After-rows_tell_instances}

many : (c : After-rows_tell_instances) → length c.args.reads.now
    ≡ length ((plain_shape c.args.self.now).read (place_of c.args.self.now c.args.instance.now))
many c =
    c.requires.reads
    ∙ sym (as_many_reads c.args.self.now c.requires.plan (place_of c.args.self.now c.args.instance.now))

pub value-requires-clause-statement : goal.value-requires-clause-statement
value-requires-clause-statement c =
    c.rows_tell_instances.ensures.there c.args.self.now (instance_of c.args.instance.now) c.requires.plan
    c.requires.walked

pub value-requires-clause-code : goal.value-requires-clause-code
value-requires-clause-code c = λ row at.
    let tells = c.rows_tell_instances.ensures.tells c.args.self.now (instance_of c.args.instance.now) row
    c.requires.plan c.requires.walked at in
    (tells.made, many (goal.at.value-requires-clause-code c).After-rows_tell_instances ∙ sym tells.reads)

pub returns-clause-value : goal.returns-clause-value
returns-clause-value c =
    let plan = c.args.self.now in
    let i = c.args.instance.now in
    let x = instance_of i in
    let found = there_is plan.table.now.rows.items i.statement
    (c.rows_tell_instances.ensures.there plan x c.requires.plan c.requires.walked) in
    let tells = c.rows_tell_instances.ensures.tells plan x found.0 c.requires.plan c.requires.walked found.1 in
    c.value.ensures.value found.0 found.1
    ∙ tells.value c.args.reads.now
    (many (goal.at.returns-clause-value c).After-rows_tell_instances ∙ sym tells.reads)
