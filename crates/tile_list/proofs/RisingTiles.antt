-- Instances in a plan's order rise by tile.
use Rattle.scop_syntax.proofs.Common.{◌≡◌, ℕ, ◌-◌, ℤ, pos, List, [], ◌∷◌, ◌++◌, length, inl, inr, refl, ◌⊎◌, zeros, In}
use Rattle.scop_syntax.proofs.Common.{Sorted, Program, Instance}
use Rattle.whole_numbers.proofs.Lexicographic.{LexLess-append}
use Rattle.loop_tree.specs.Plans.{AreInOrder, Precedes}
use Rattle.loop_tree.specs.Tiling.{Items, Tiling, kept, tiled, item_values, items_at, tile_of, wave_of}
use Rattle.tile_list.specs.Tiles.{HaveOneLength, InOneTile, RiseByTile, TileBefore}

-- of two in order the first lies in the second's tile or in one before
tile_by_order : (size : ℕ) (statements : List Items) (x y : Instance)
    → length (wave_of (tiled size statements) x) ≡ length (wave_of (tiled size statements) y)
    → length (tile_of (tiled size statements) x) ≡ length (tile_of (tiled size statements) y)
    → Precedes size statements x y
    → InOneTile (tiled size statements) x y ⊎ TileBefore (tiled size statements) x y
tile_by_order size statements x y waves tiles less =
    let plan = tiled size statements in
    let rest : Instance → List ℤ = λ z.
    item_values (items_at statements z.number) z.turns
    ++ (z.turns ++ (zeros (5 - length z.turns) ++ pos z.number ∷ [])) in
    elim (LexLess-append (wave_of plan x) (wave_of plan y) (tile_of plan x ++ rest x) (tile_of plan y ++ rest y) waves
    less) [
      | inl l ↦ inr (inl l)
      | inr r ↦ elim (LexLess-append (tile_of plan x) (tile_of plan y) (rest x) (rest y) tiles r.1) [
        | inl l ↦ inr (inr (r.0, l))
        | inr s ↦ inl (record { wave = r.0; tile = s.0 })
      ]
    ]

sorted_by : {A : Type 0} (R S : A → A → Type 0) (xs : List A)
    → ((x y : A) → In x xs → In y xs → R x y → S x y) → Sorted R xs → Sorted S xs
sorted_by R S [] h s = tt
sorted_by R S (x ∷ xs) h s = (
  λ y i. h x y (inl refl) (inr i) (s.0 y i),
  sorted_by R S xs (λ u v i j. h u v (inr i) (inr j)) s.1,
)

-- a kept order has one tile
all_sorted : {A : Type 0} (R : A → A → Type 0) (xs : List A) → ((x y : A) → R x y) → Sorted R xs
all_sorted R [] h = tt
all_sorted R (x ∷ xs) h = (λ y i. h x y, all_sorted R xs h)

pub rising : (program : Program) (params : List ℤ) (tiling : Tiling) (xs : List Instance)
    → AreInOrder program params tiling xs → HaveOneLength tiling xs → RiseByTile tiling xs
rising program params kept xs order even =
    all_sorted (λ x y. InOneTile kept x y ⊎ TileBefore kept x y) xs
    (λ x y. inl (record { wave = refl; tile = refl }))
rising program params (tiled size statements) xs order even =
    let plan = tiled size statements in
    sorted_by (Precedes size statements) (λ x y. InOneTile plan x y ⊎ TileBefore plan x y) xs
    (λ x y i j less. let e = even x y i j in tile_by_order size statements x y e.0 e.1 less) order.0
