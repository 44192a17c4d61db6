use Rattle.scop_syntax.proofs.Common.{◌≡◌}
use Rattle.tile_core.specs.declared.worker.Stage.TheVariants.{Holding}
use Rattle.tile_core.specs.Passes.{IsPass}
use Rattle.tile_runner.proofs.worker.open_held.Given as goal

abbrev pub invariant-loop : goal.invariant-loop
invariant-loop g l =
    (goal.iterator-loop g).can_next l.iterator'
    × (goal.iterator-loop g).is_finite l.iterator' × IsPass l.words l.pass × (l.pass.worker.stage ≡ Holding l.tile)
