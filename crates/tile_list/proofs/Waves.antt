-- The numbers of waves, one tile after another.
use Rattle.scop_syntax.proofs.Common.{ℕ, List, [], ◌∷◌, ◌++◌, Instance}
use Rattle.loop_tree.specs.Tiling.{Tiling}
use Rattle.tile_list.specs.Tiles.{AreNextWaves, AreWaves, IsNextWave}

next_more : (tiling : Tiling) (w : Instance) (m : ℕ) (xs : List Instance) (ms : List ℕ) (x : Instance) (n : ℕ)
    (y : Instance) (k : ℕ) → AreNextWaves tiling w m (xs ++ x ∷ []) (ms ++ n ∷ []) → IsNextWave tiling x n y k
    → AreNextWaves tiling w m ((xs ++ x ∷ []) ++ y ∷ []) ((ms ++ n ∷ []) ++ k ∷ [])
next_more tiling w m [] [] x n y k h next = (h.0, (next, tt))
next_more tiling w m [] (l ∷ []) x n y k h next = absurd h.1
next_more tiling w m [] (l ∷ o ∷ ms) x n y k h next = absurd h.1
next_more tiling w m (v ∷ []) [] x n y k h next = absurd h.1
next_more tiling w m (v ∷ u ∷ xs) [] x n y k h next = absurd h.1
next_more tiling w m (v ∷ xs) (l ∷ ms) x n y k h next = (h.0, next_more tiling v l xs ms x n y k h.1 next)

-- a tile more
pub wave_more : (tiling : Tiling) (xs : List Instance) (ms : List ℕ) (x : Instance) (n : ℕ) (y : Instance) (k : ℕ)
    → AreWaves tiling (xs ++ x ∷ []) (ms ++ n ∷ []) → IsNextWave tiling x n y k
    → AreWaves tiling ((xs ++ x ∷ []) ++ y ∷ []) ((ms ++ n ∷ []) ++ k ∷ [])
wave_more tiling [] [] x n y k h next = (h.0, (next, tt))
wave_more tiling [] (l ∷ []) x n y k h next = absurd h.1
wave_more tiling [] (l ∷ o ∷ ms) x n y k h next = absurd h.1
wave_more tiling (v ∷ []) [] x n y k h next = absurd h.1
wave_more tiling (v ∷ u ∷ xs) [] x n y k h next = absurd h.1
wave_more tiling (v ∷ xs) (l ∷ ms) x n y k h next = (h.0, next_more tiling v l xs ms x n y k h.1 next)
