-- The scan sets of a schedule are alike: one number of dimensions, one mark; rows of the first band with their marks.
use Rattle.scop_syntax.proofs.Common.{◌≡◌, ℕ, zero, suc, ◌+◌, ◌≤◌, ℤ, List, [], ◌∷◌, refl, sym, ◌∙◌, ap, subst, arith}
use Rattle.scop_syntax.proofs.Common.{length, inl, inr, not, max, slice_get, Some, In, in_map_from}
use Rattle.std.proofs.lemmas.List.{length-append}
use Rattle.integer_sets.specs.Scanned.{Scanned}
use Rattle.iteration_domains.specs.Model.{Modelled, KernelModel}
use Rattle.loop_tree.specs.Tiling.{TileRow}
use Rattle.schedule_rows.specs.Items.{Marked, Block, scalar, band}
use Rattle.tile_skew.specs.Tilings.{form_at, rows_at, row_items, block_items, leading_at, first_band_at, behind_at}
use Rattle.tile_skew.specs.Tilings.{statement_items, first_band}
use Rattle.tile_skew.specs.ScanSets.{front_of, parallel_place, most_iterators, scan_set, scan_sets}
use Rattle.tile_skew.proofs.PlaceOrder.{leading_lengths, band_lengths}

row_items_lengths : (ms : List Marked) (j k : ℕ) → length (row_items ms j) ≡ length (row_items ms k)
row_items_lengths [] j k = refl
row_items_lengths (m ∷ ms) j k = ap suc (row_items_lengths ms j k)

items_lengths : (bs : List Block) (j k : ℕ) → length (block_items bs j) ≡ length (block_items bs k)
items_lengths [] j k = refl
items_lengths (scalar numbers ∷ bs) j k = ap suc (items_lengths bs j k)
items_lengths (band ms ∷ bs) j k =
    let a = length-append (row_items ms j) (block_items bs j) in
    let b = length-append (row_items ms k) (block_items bs k) in
    let first = row_items_lengths ms j k in
    let rest = items_lengths bs j k in
    omega (arith, a, b, first, rest)

behind_lengths : (bs : List Block) (j k : ℕ) → length (behind_at bs j) ≡ length (behind_at bs k)
behind_lengths [] j k = refl
behind_lengths (scalar numbers ∷ bs) j k = behind_lengths bs j k
behind_lengths (band ms ∷ bs) j k = items_lengths bs j k

-- as many dimensions stand before the iterators of any two statements
fronts_alike : (bs : List Block) (j k : ℕ) → front_of (statement_items bs j) ≡ front_of (statement_items bs k)
fronts_alike bs j k =
    let a = leading_lengths bs j k in
    let b = band_lengths bs j k in
    let d = behind_lengths bs j k in
    omega (arith, a, b, d)

marks_alike : (k : ℕ) (rs ts : List TileRow) → length rs ≡ length ts → parallel_place k rs ≡ parallel_place k ts
marks_alike k [] [] e = refl
marks_alike k [] (t ∷ ts) e = absurd (omega (arith, e))
marks_alike k (r ∷ rs) [] e = absurd (omega (arith, e))
marks_alike k (r ∷ rs) (t ∷ ts) e = refl

places_alike : (bs : List Block) (j k : ℕ)
    → parallel_place (length (leading_at bs j) + 1) (first_band_at bs j)
    ≡ parallel_place (length (leading_at bs k) + 1) (first_band_at bs k)
places_alike bs j k =
    ap (λ n. parallel_place (n + 1) (first_band_at bs j)) (leading_lengths bs j k)
    ∙ marks_alike (length (leading_at bs k) + 1) (first_band_at bs j) (first_band_at bs k) (band_lengths bs j k)

left_of_two : (a b : ℕ) → a ≤ max a b
left_of_two zero b = omega arith
left_of_two (suc a) zero = omega arith
left_of_two (suc a) (suc b) = let r = left_of_two a b in omega arith

right_of_two : (a b : ℕ) → b ≤ max a b
right_of_two zero b = omega arith
right_of_two (suc a) zero = omega arith
right_of_two (suc a) (suc b) = let r = right_of_two a b in omega arith

-- no statement has more iterators than the greatest number
pub within_most : (ss : List Modelled) (s : Modelled) → In s ss → s.domain.dimensions ≤ most_iterators ss
within_most [] s i = absurd i
within_most (m ∷ ms) s (inl e) =
    subst (λ (z : Modelled). z.domain.dimensions ≤ most_iterators (m ∷ ms)) (sym e)
    (left_of_two m.domain.dimensions (most_iterators ms))
within_most (m ∷ ms) s (inr i) =
    let r = within_most ms s i in
    let b = right_of_two m.domain.dimensions (most_iterators ms) in
    omega (arith, r, b)

-- the dimensions and the mark of a scan set of a model are those of any other
sets_alike : (size : ℤ) (bs : List Block) (model : KernelModel) (s t : Modelled) → In s model.statements
    → In t model.statements
    → let n = most_iterators model.statements in
    ((scan_set size n s (statement_items bs s.number)).system.dimensions
    ≡ (scan_set size n t (statement_items bs t.number)).system.dimensions)
    × ((scan_set size n s (statement_items bs s.number)).parallel
    ≡ (scan_set size n t (statement_items bs t.number)).parallel)
sets_alike size bs model s t i j =
    let f = fronts_alike bs s.number t.number in
    let a = within_most model.statements s i in
    let b = within_most model.statements t j in
    (omega (arith, f, a, b), places_alike bs s.number t.number)

pub scanned_alike : (size : ℤ) (bs : List Block) (model : KernelModel) (x y : Scanned)
    → In x (scan_sets size bs model) → In y (scan_sets size bs model)
    → (x.system.dimensions ≡ y.system.dimensions) × (x.parallel ≡ y.parallel)
scanned_alike size bs model x y i j =
    let n = most_iterators model.statements in
    let Set : Modelled → Scanned = λ m. scan_set size n m (statement_items bs m.number) in
    let s = in_map_from Set x model.statements i in
    let t = in_map_from Set y model.statements j in
    let both = sets_alike size bs model s.0 t.0 s.1 t.1 in (
      ap (λ (z : Scanned). z.system.dimensions) s.2
          ∙ (both.0 ∙ sym (ap (λ (z : Scanned). z.system.dimensions) t.2)),
      ap (λ (z : Scanned). z.parallel) s.2 ∙ (both.1 ∙ sym (ap (λ (z : Scanned). z.parallel) t.2)),
    )

-- a row of the first band at statement k
rows_there : (ms : List Marked) (k i : ℕ) (m : Marked) → slice_get ms i ≡ Some m
    → slice_get (rows_at ms k) i ≡ Some (record { form = form_at m.row k; carries = not m.parallel })
rows_there [] k i m e = absurd cc
rows_there (n ∷ ms) k zero m e = cc
rows_there (n ∷ ms) k (suc i) m e = rows_there ms k i m e

pub band_there : (bs : List Block) (k i : ℕ) (m : Marked) → slice_get (first_band bs) i ≡ Some m
    → slice_get (first_band_at bs k) i ≡ Some (record { form = form_at m.row k; carries = not m.parallel })
band_there [] k i m e = absurd cc
band_there (scalar numbers ∷ bs) k i m e = band_there bs k i m e
band_there (band ms ∷ bs) k i m e = rows_there ms k i m e

pub rows_many : (ms : List Marked) (k : ℕ) → length (rows_at ms k) ≡ length ms
rows_many [] k = refl
rows_many (m ∷ ms) k = ap suc (rows_many ms k)

pub band_many : (bs : List Block) (k : ℕ) → length (first_band_at bs k) ≡ length (first_band bs)
band_many [] k = refl
band_many (scalar numbers ∷ bs) k = band_many bs k
band_many (band ms ∷ bs) k = rows_many ms k
