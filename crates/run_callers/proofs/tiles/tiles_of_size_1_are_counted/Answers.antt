use Rattle.scop_syntax.proofs.Common.{[]}
use Rattle.loop_tree.specs.Tiling.{tiled}
use Rattle.run_callers.proofs.tiles.tiles_of_size_1_are_counted.Goals as goal

pub returns-clause-tiles : goal.returns-clause-tiles
returns-clause-tiles c = λ ts statements list is.
    c.tiles_are_counted.ensures.tiles ts [] (tiled 1 statements) list is

pub returns-clause-waves : goal.returns-clause-waves
returns-clause-waves c = λ ts statements list is.
    c.tiles_are_counted.ensures.waves ts [] (tiled 1 statements) list is
