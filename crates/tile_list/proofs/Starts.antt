-- Where parts begin.
use Rattle.scop_syntax.proofs.Common.{◌≡◌, ◌∙◌, ℕ, zero, suc, ◌+◌, ◌<◌, List, [], ◌∷◌, ◌++◌, length, take, ap, subst}
use Rattle.scop_syntax.proofs.Common.{arith, slice_get, slice_index_or, take-length, get_behind, Instance}
use Rattle.std.proofs.lemmas.List.{length-append}
use Rattle.whole_numbers.proofs.Entries.{get_front}
use Rattle.loop_tree.specs.Tiling.{Tiling}
use Rattle.tile_list.specs.Tiles.{AreTiles, joined, start_of}

pub next_start : (parts : List (List Instance)) (t : ℕ) → t < length parts
    → start_of parts (suc t) ≡ start_of parts t + length (slice_index_or parts t [])
next_start [] t below = absurd (omega (arith, below))
next_start (p ∷ ps) zero below = let l = length-append p [] in omega (arith, l)
next_start (p ∷ ps) (suc t) below =
    let a = length-append p (joined (take (suc t) ps)) in
    let b = length-append p (joined (take t ps)) in
    let next = next_start ps t (omega (arith, below)) in
    omega (arith, a, b, next)

pub last_start : (tiling : Tiling) (xs : List Instance) (parts : List (List Instance)) → AreTiles tiling xs parts
    → start_of parts (length parts) ≡ length xs
last_start tiling xs parts h =
    ap (λ (ps : List (List Instance)). length (joined ps)) (take-length parts)
    ∙ ap (λ (ys : List Instance). length ys) h.all

there : (parts : List (List Instance)) (t k : ℕ) → t < length parts → k < length (slice_index_or parts t [])
    → slice_get (joined parts) (start_of parts t + k) ≡ slice_get (slice_index_or parts t []) k
there [] t k below few = absurd (omega (arith, below))
there (p ∷ ps) zero k below few =
    let e : 0 + k ≡ k = omega arith in
    ap (slice_get (p ++ joined ps)) e ∙ get_front p (joined ps) k few
there (p ∷ ps) (suc t) k below few =
    let l = length-append p (joined (take t ps)) in
    let at : start_of (p ∷ ps) (suc t) + k ≡ length p + (start_of ps t + k) = omega (arith, l) in
    ap (slice_get (p ++ joined ps)) at
    ∙ (get_behind p (joined ps) (start_of ps t + k) ∙ there ps t k (omega (arith, below)) few)

pub stands_there : (tiling : Tiling) (xs : List Instance) (parts : List (List Instance)) → AreTiles tiling xs parts
    → (t k : ℕ) → t < length parts → k < length (slice_index_or parts t [])
    → slice_get xs (start_of parts t + k) ≡ slice_get (slice_index_or parts t []) k
stands_there tiling xs parts h t k below few =
    subst (λ (ys : List Instance). slice_get ys (start_of parts t + k) ≡ slice_get (slice_index_or parts t []) k) h.all
    (there parts t k below few)
