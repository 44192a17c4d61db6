-- With a tiled plan each instance has a copy of its own; a kept order has none.
use Rattle.scop_syntax.proofs.Common.{rules, program_of}
use Rattle.polypar.proofs.CourseLemmas.{with_copies, without_copies}
use Rattle.polypar.proofs.expansion.course_by_flow.Goals as goal

pub returns-then-is_tiled : goal.returns-then-is_tiled
returns-then-is_tiled c = λ params asked none places.
    let options = c.args.options in
    let program = program_of c.args.kernel.now in
    with_copies options program params c.args.told.now c.args.sources c.in_ok-plan.plan asked none c.requires.told
    places c.in_ok-plan.ensures (search rules) (c.is_tiled.ensures.tiled (search rules) options.tile options.budget
    options.report program c.in_ok-plan.ensures)

pub returns : goal.returns
returns c = λ params asked none places.
    let options = c.args.options in
    let program = program_of c.args.kernel.now in
    without_copies options program params c.args.told.now c.args.sources c.in_ok-plan.plan asked none
    c.requires.told places c.in_ok-plan.ensures (search rules) (c.is_tiled.ensures.kept (search rules) options.tile
    options.budget options.report program c.in_ok-plan.ensures)
