-- The code's tiles stand for parts, one after another.
use Rattle.scop_syntax.proofs.Common.{◌≡◌, ◌∙◌, ℕ, zero, suc, ◌<◌, ◌≤◌, List, [], ◌∷◌, ◌++◌, length, refl, subst, sym}
use Rattle.scop_syntax.proofs.Common.{arith, ℤ, Some, inl, inr, ◌⊎◌, slice_get, slice_index_or, get_or-append_seam}
use Rattle.scop_syntax.proofs.Common.{take-append_seam, get_or_append_left, take-append-le, Instance}
use Rattle.std.proofs.lemmas.List.{length-append}
use Rattle.loop_tree.specs.Tree.{Trees}
use Rattle.tile_list.specs.Tiles.{joined, start_of}
use Rattle.tile_list.specs.TilesView.{IsTile}
use Rattle.tile_list.specs.steps.Cutting.{AreTilesOf}
use Rattle.tile_list.specs.declared.list.Tile.{Tile}

-- an element of a list with one more at its end
pub at_end : {A : Type 0} (xs : List A) (z : A) (t : ℕ) (w : A) → slice_get (xs ++ z ∷ []) t ≡ Some w
    → ((t < length xs) × (slice_get xs t ≡ Some w)) ⊎ ((t ≡ length xs) × (w ≡ z))
at_end [] z zero w e = inr (refl, cc)
at_end [] z (suc t) w e = absurd cc
at_end (x ∷ xs) z zero w e = inl (omega arith, e)
at_end (x ∷ xs) z (suc t) w e = elim (at_end xs z t w e) [
  | inl h ↦ (let l = h.0 in inl (omega (arith, l), h.1))
  | inr h ↦ (let l = h.0 in inr (omega (arith, l), h.1))
]

-- no tiles are those of no parts
pub no_tiles : (ts : Trees) (params : List ℤ) → AreTilesOf ts params [] []
no_tiles ts params = record { count = refl; are = λ t tile e. absurd (none t e) }
  where
    none : (t : ℕ) {tile : Tile} → slice_get [] t ≡ Some tile → ⊥
    none zero e = cc
    none (suc t) e = cc

-- a tile more
pub tile_more : (ts : Trees) (params : List ℤ) (parts : List (List Instance)) (tiles : List Tile)
    (p : List Instance) (tile : Tile) → AreTilesOf ts params parts tiles
    → IsTile ts params (length (joined parts)) p tile → AreTilesOf ts params (parts ++ p ∷ []) (tiles ++ tile ∷ [])
tile_more ts params parts tiles p tile old new =
    record {
      count = let a = length-append tiles (tile ∷ []) in
          let b = length-append parts (p ∷ []) in
          let e = old.count in
          omega (arith, a, b, e);
      are = λ t u e. elim (at_end tiles tile t u e) [
        | inl h ↦ earlier t u h.0 h.1
        | inr h ↦ last t u h.0 h.1
      ];
    }
  where
    earlier : (t : ℕ) (u : Tile) → t < length tiles → slice_get tiles t ≡ Some u
        → IsTile ts params (start_of (parts ++ p ∷ []) t) (slice_index_or (parts ++ p ∷ []) t []) u
    earlier t u below e =
        let count = old.count in
        let within : t < length parts = omega (arith, count, below) in
        let up_to : t ≤ length parts = omega (arith, within) in
        subst (λ (qs : List (List Instance)). IsTile ts params (length (joined qs))
        (slice_index_or (parts ++ p ∷ []) t []) u)
        (sym (take-append-le t parts (p ∷ []) up_to))
        (subst (λ (q : List Instance). IsTile ts params (start_of parts t) q u)
        (sym (get_or_append_left parts (p ∷ []) [] t within)) (old.are t u e))

    last : (t : ℕ) (u : Tile) → t ≡ length tiles → u ≡ tile
        → IsTile ts params (start_of (parts ++ p ∷ []) t) (slice_index_or (parts ++ p ∷ []) t []) u
    last t u e same =
        subst (λ (k : ℕ). IsTile ts params (start_of (parts ++ p ∷ []) k) (slice_index_or (parts ++ p ∷ []) k []) u)
        (sym (e ∙ old.count))
        (subst (λ (v : Tile). IsTile ts params (start_of (parts ++ p ∷ []) (length parts))
        (slice_index_or (parts ++ p ∷ []) (length parts) []) v) (sym same)
        (subst (λ (qs : List (List Instance)). IsTile ts params (length (joined qs))
        (slice_index_or (parts ++ p ∷ []) (length parts) []) tile) (sym (take-append_seam parts (p ∷ [])))
        (subst (λ (q : List Instance). IsTile ts params (length (joined parts)) q tile)
        (sym (get_or-append_seam parts p [] [])) new)))
