use Rattle.scop_syntax.proofs.Common.{◌≤◌, arith, length}
use Rattle.tile_core.specs.Plans.{shape_of}
use Rattle.tile_runs.proofs.FinalCells.{cells_left}
use Rattle.tile_runs.proofs.threads.run_on_threads.Goals as goal

pub returns-in-Ok-clause-arrays : goal.returns-in-Ok-clause-arrays
returns-in-Ok-clause-arrays g c = λ contents shape holds.
    let told = c.in-Ok.ensures in
    let new = c.run_plan.new.cells.items in
    let long = told.cells.long in
    let all = c.requires.cells in
    let most : (shape_of c.args.plan).cells ≤ length new = omega (arith, long, all) in (
      long,
      cells_left c.cells_have_numbers_of_their_own.ensures.below c.args.plan contents new shape most
          (told.results contents shape holds),
    )
