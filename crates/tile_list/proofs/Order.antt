-- The order of tiles: by wave, then by coordinates.
use Rattle.scop_syntax.proofs.Common.{◌≡◌, ◌∙◌, List, [], ◌∷◌, ◌++◌, inl, inr, refl, subst, sym, ◌⊎◌, LexLess}
use Rattle.scop_syntax.proofs.Common.{LexLess-irrefl, LexLess-trans, In, Sorted, Instance}
use Rattle.loop_tree.specs.Tiling.{Tiling, tile_of, wave_of}
use Rattle.tile_list.specs.Tiles.{InOneTile, TileBefore}

pub one-refl : (tiling : Tiling) (x : Instance) → InOneTile tiling x x
one-refl tiling x = record { wave = refl; tile = refl }

pub one-sym : (tiling : Tiling) (x y : Instance) → InOneTile tiling x y → InOneTile tiling y x
one-sym tiling x y h = record { wave = sym h.wave; tile = sym h.tile }

pub one-trans : (tiling : Tiling) (x y z : Instance) → InOneTile tiling x y → InOneTile tiling y z
    → InOneTile tiling x z
one-trans tiling x y z h k = record { wave = h.wave ∙ k.wave; tile = h.tile ∙ k.tile }

pub before_then_one : (tiling : Tiling) (x y z : Instance) → TileBefore tiling x y → InOneTile tiling y z
    → TileBefore tiling x z
before_then_one tiling x y z h k =
    let u = wave_of tiling x in
    let s = tile_of tiling x in
    subst (λ v. LexLess u v ⊎ ((u ≡ v) × LexLess s (tile_of tiling z))) k.wave
    (subst (λ t. LexLess u (wave_of tiling y) ⊎ ((u ≡ wave_of tiling y) × LexLess s t)) k.tile h)

pub one_then_before : (tiling : Tiling) (x y z : Instance) → InOneTile tiling x y → TileBefore tiling y z
    → TileBefore tiling x z
one_then_before tiling x y z k h =
    let v = wave_of tiling z in
    let t = tile_of tiling z in
    subst (λ u. LexLess u v ⊎ ((u ≡ v) × LexLess (tile_of tiling x) t)) (sym k.wave)
    (subst (λ s. LexLess (wave_of tiling y) v ⊎ ((wave_of tiling y ≡ v) × LexLess s t)) (sym k.tile) h)

pub before-trans : (tiling : Tiling) (x y z : Instance) → TileBefore tiling x y → TileBefore tiling y z
    → TileBefore tiling x z
before-trans tiling x y z (inl a) (inl b) =
    inl (LexLess-trans (wave_of tiling x) (wave_of tiling y) (wave_of tiling z) a b)
before-trans tiling x y z (inl a) (inr b) = inl (subst (LexLess (wave_of tiling x)) b.0 a)
before-trans tiling x y z (inr a) (inl b) = inl (subst (λ w. LexLess w (wave_of tiling z)) (sym a.0) b)
before-trans tiling x y z (inr a) (inr b) =
    inr (a.0 ∙ b.0, LexLess-trans (tile_of tiling x) (tile_of tiling y) (tile_of tiling z) a.1 b.1)

-- no tile comes before itself
pub before-irrefl : (tiling : Tiling) (x y : Instance) → InOneTile tiling x y → TileBefore tiling x y → ⊥
before-irrefl tiling x y k (inl a) =
    LexLess-irrefl (wave_of tiling y) (subst (λ w. LexLess w (wave_of tiling y)) k.wave a)
before-irrefl tiling x y k (inr a) =
    LexLess-irrefl (tile_of tiling y) (subst (λ w. LexLess w (tile_of tiling y)) k.tile a.1)

-- what stands in order behind others
pub sorted_behind : {A : Type 0} (R : A → A → Type 0) (front : List A) (x y : A) (xs : List A)
    → Sorted R (front ++ x ∷ xs) → In y xs → R x y
sorted_behind R [] x y xs s i = s.0 y i
sorted_behind R (z ∷ front) x y xs s i = sorted_behind R front x y xs s.1 i
