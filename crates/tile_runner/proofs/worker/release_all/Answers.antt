use Rattle.tile_core.specs.Passes.{walk_in}
use Rattle.tile_runner.proofs.Passes.{works_within}
use Rattle.tile_runner.proofs.worker.release_all.Goals as goal

pub successors-end-requires-clause-tile : goal.successors-end-requires-clause-tile
successors-end-requires-clause-tile c =
    works_within c.args.words.now c.args.pass.now c.args.tile ((walk_in c.args.words.now).size c.args.tile)
    c.requires.pass c.requires.stage
