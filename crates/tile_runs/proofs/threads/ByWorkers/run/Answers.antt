use Rattle.tile_runs.proofs.threads.ByWorkers.run.Goals as goal

pub returns-clause-arrays : goal.returns-clause-arrays
returns-clause-arrays g c =
    ((c.requires.ready c.args.alloc c.args.plan _ c.args.workers c.requires.plan c.requires.cells c.requires.rest c.requires.some
    c.requires.few).1 c.run.result _ c.run.ensures).0

pub returns-clause-unchanged : goal.returns-clause-unchanged
returns-clause-unchanged g c =
    ((c.requires.ready c.args.alloc c.args.plan _ c.args.workers c.requires.plan c.requires.cells c.requires.rest c.requires.some
    c.requires.few).1 c.run.result _ c.run.ensures).1
