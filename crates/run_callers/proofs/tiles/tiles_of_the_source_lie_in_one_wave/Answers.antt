use Rattle.scop_syntax.proofs.Common.{refl}
use Rattle.loop_tree.specs.Tiling.{kept}
use Rattle.run_callers.proofs.tiles.tiles_of_the_source_lie_in_one_wave.Goals as goal

pub returns : goal.returns
returns c = λ firsts numbers waves t u m n x y first second one other.
    c.numbers_tell_waves.ensures.same kept firsts numbers waves t u m n x y first second one other refl
