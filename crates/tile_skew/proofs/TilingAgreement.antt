-- A schedule's tiling has the items and values of its blocks.
use Rattle.scop_syntax.proofs.Common.{◌≡◌, ℕ, zero, suc, ◌+◌, ◌<◌, ℤ, pos, List, [], ◌∷◌, ◌++◌, refl, ◌∙◌, ap, ap₂}
use Rattle.scop_syntax.proofs.Common.{arith, length, map, ◌-◌, slice_index_or, map-append, value_of, zeros, Instance}
use Rattle.loop_tree.specs.Tiling.{Items, item_value, item_values, coordinates, wave_sum, items_at}
use Rattle.schedule_rows.specs.Items.{Marked, Block, scalar, band, phi, values, band_values}
use Rattle.tile_skew.specs.Tilings.{rows_at, row_items, block_items, statement_items, statements_from}

-- a number in front of equal lists
front : (z : ℤ) (xs ys : List ℤ) → xs ≡ ys → z ∷ xs ≡ z ∷ ys
front z xs ys e = ap (λ (l : List ℤ). z ∷ l) e

rows_values : (ms : List Marked) (x : Instance)
    → map (λ r. value_of r.form x.turns) (rows_at ms x.number) ≡ band_values ms x
rows_values [] x = refl
rows_values (m ∷ ms) x =
    front (phi m.row x) (map (λ r. value_of r.form x.turns) (rows_at ms x.number)) (band_values ms x)
    (rows_values ms x)

row_items_values : (ms : List Marked) (x : Instance)
    → map (item_value x.turns) (row_items ms x.number) ≡ band_values ms x
row_items_values [] x = refl
row_items_values (m ∷ ms) x =
    front (phi m.row x) (map (item_value x.turns) (row_items ms x.number)) (band_values ms x) (row_items_values ms x)

items_values : (bs : List Block) (x : Instance) → map (item_value x.turns) (block_items bs x.number) ≡ values bs x
items_values [] x = refl
items_values (scalar numbers ∷ bs) x =
    front _ (map (item_value x.turns) (block_items bs x.number)) (values bs x) (items_values bs x)
items_values (band ms ∷ bs) x =
    map-append (item_value x.turns) (row_items ms x.number) (block_items bs x.number)
    ∙ ap₂ (λ (xs ys : List ℤ). xs ++ ys) (row_items_values ms x) (items_values bs x)

-- the values of all items
pub values_agree : (bs : List Block) (x : Instance) → item_values (statement_items bs x.number) x.turns ≡ values bs x
values_agree [] x = refl
values_agree (scalar numbers ∷ bs) x =
    front _ (item_values (statement_items bs x.number) x.turns) (values bs x) (values_agree bs x)
values_agree (band ms ∷ bs) x =
    ap₂ (λ (xs ys : List ℤ). xs ++ ys) (rows_values ms x) (items_values bs x)

-- the items of statement k of a tiling
found : (bs : List Block) (j n i : ℕ) → i < n
    → slice_index_or (statements_from bs j n) i (record { leading = []; band = []; behind = [] })
    ≡ statement_items bs (j + i)
found bs j zero i h = absurd (omega arith)
found bs j (suc n) zero h = let e : j ≡ j + 0 = omega arith in ap (statement_items bs) e
found bs j (suc n) (suc i) h =
    let e : suc j + i ≡ j + suc i = omega arith in
    found bs (suc j) n i (omega arith) ∙ ap (statement_items bs) e

pub items_found : (bs : List Block) (n k : ℕ) → k < n → items_at (statements_from bs 0 n) k ≡ statement_items bs k
items_found bs n k h = let e : 0 + k ≡ k = omega arith in found bs 0 n k h ∙ ap (statement_items bs) e

-- the wave, the tile and the order of an instance by the items of its statement
abbrev pub wave_by : ℤ → Instance → Items → List ℤ
wave_by size x s = map pos s.leading ++ wave_sum size s.band x.turns ∷ []

abbrev pub tile_by : ℤ → Instance → Items → List ℤ
tile_by size x s = map pos s.leading ++ coordinates size s.band x.turns

abbrev pub last_part : Instance → List ℤ
last_part x = x.turns ++ (zeros (5 - length x.turns) ++ pos x.number ∷ [])

abbrev pub order_by : ℤ → Instance → Items → List ℤ
order_by size x s = wave_by size x s ++ (tile_by size x s ++ (item_values s x.turns ++ last_part x))
