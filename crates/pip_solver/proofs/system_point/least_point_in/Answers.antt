use Rattle.pip_solver.proofs.Decisions.{posed_sized}
use Rattle.pip_solver.proofs.Systems.{unposed_minimizes, minimizes, minimum_of}
use Rattle.pip_solver.proofs.system_point.least_point_in.Goals as goal

pub least_point-requires-clause-rows : goal.least_point-requires-clause-rows
least_point-requires-clause-rows c =
    let told = c.in-Ok.ensures in
    posed_sized c.args.system.now c.in-Ok.problem.unknowns c.in-Ok.problem.rows.items told.1 told.0.rows told.0.unknowns

pub returns-in-Err-clause-run : goal.returns-in-Err-clause-run
returns-in-Err-clause-run c = unposed_minimizes c.args.system.now c.args.budget c.in-Err.stop c.in-Err.ensures

pub returns-in-Ok-clause-run : goal.returns-in-Ok-clause-run
returns-in-Ok-clause-run c =
    let told = c.in-Ok.ensures in
    minimizes c.args.system.now c.args.budget c.in-Ok.problem c.least_point.result told.0 c.least_point.ensures.run

pub returns-in-Ok-clause-minimum : goal.returns-in-Ok-clause-minimum
returns-in-Ok-clause-minimum c =
    minimum_of c.args.system.now c.in-Ok.problem c.least_point.result c.requires c.in-Ok.ensures
    c.least_point.ensures.least c.least_point.ensures.none
