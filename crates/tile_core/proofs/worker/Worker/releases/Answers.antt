use Rattle.scop_syntax.proofs.Common.{refl, subst, sym}
use Rattle.tile_events.specs.Sound.{Holds}
use Rattle.tile_core.specs.Workers.{staged}
use Rattle.tile_core.proofs.worker.Worker.releases.Goals as goal

pub instances-instances-requires-clause-tile : goal.instances-instances-requires-clause-tile
instances-instances-requires-clause-tile c =
    c.requires.worker.tile c.in-Working.tile
    (subst (λ s. Holds (staged s c.args.self.now.reads.items) c.in-Working.tile) (sym c.in-Working.is) refl)

pub size-requires-clause-tile : goal.size-requires-clause-tile
size-requires-clause-tile c =
    c.requires.worker.tile c.in-Working.tile
    (subst (λ s. Holds (staged s c.args.self.now.reads.items) c.in-Working.tile) (sym c.in-Working.is) refl)
