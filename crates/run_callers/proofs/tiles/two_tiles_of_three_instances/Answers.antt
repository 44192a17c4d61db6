use Rattle.scop_syntax.proofs.Common.{[], ◌∷◌, arith, sym}
use Rattle.loop_tree.specs.Tiling.{tiled}
use Rattle.run_callers.proofs.tiles.two_tiles_of_three_instances.Goals as goal

pub returns-clause-next : goal.returns-clause-next
returns-clause-next c = λ x y z.
    c.tiles_stand_one_behind_another.ensures.next ((x ∷ []) ∷ (y ∷ z ∷ []) ∷ []) 1 (omega arith)

pub returns-clause-last : goal.returns-clause-last
returns-clause-last c = λ statements xs x y z are.
    sym (c.tiles_stand_one_behind_another.ensures.last (tiled 1 statements) xs ((x ∷ []) ∷ (y ∷ z ∷ []) ∷ []) are)

pub returns-clause-at : goal.returns-clause-at
returns-clause-at c = λ statements xs x y z are.
    c.tiles_stand_one_behind_another.ensures.at (tiled 1 statements) xs ((x ∷ []) ∷ (y ∷ z ∷ []) ∷ []) are 1 0
    (omega arith) (omega arith)
