use Rattle.scop_syntax.proofs.Common.{subst, sym}
use Rattle.tile_core.specs.Stretches.{CanPass}
use Rattle.tile_core.specs.declared.worker.Worker.{Worker}
use Rattle.tile_runner.proofs.ahead.do_stretch.Goals as goal

pub pass_by-requires-clause-passes : goal.pass_by-requires-clause-passes
pass_by-requires-clause-passes c =
    subst (λ (w : Worker). CanPass c.args.words.now.plan w.stage w.spot.stretch c.args.count)
    (sym c.do_along.ensures.same) c.requires.ahead.passes
