use Rattle.scop_syntax.proofs.Common.{List, subst, sym, ℕ}
use Rattle.tile_runs.specs.Running.{AreExecuted}
use Rattle.tile_runs.proofs.FinalCells.{alone_executed}
use Rattle.tile_runs.proofs.workers.OneWorkerWorkers.run.Goals as goal

pub returns-clause-arrays : goal.returns-clause-arrays
returns-clause-arrays c =
    let law = c.plans_execute_the_kernel.ensures in
    subst (λ (xs : List ℕ). AreExecuted c.args.plan c.args.cells.now.items xs) (sym c.into_cells.ensures)
    (alone_executed law.end law.kept law.copies law.row c.cells_have_numbers_of_their_own.ensures.below c.args.plan
    c.args.cells.now.items c.in_ok-core.core c.do_all.new.core c.requires.plan c.in_ok-core.ensures.plan
    c.in_ok-core.ensures.run c.do_all.ensures.later c.do_all.ensures.alone c.requires.cells)
