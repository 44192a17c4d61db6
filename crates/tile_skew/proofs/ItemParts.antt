-- A schedule's items fall into the leading scalars, the rows of the first band and the items behind it.
use Rattle.scop_syntax.proofs.Common.{◌≡◌, ℕ, suc, ◌+◌, ◌-◌, ◌<◌, ◌≤◌, Bool, List, [], ◌∷◌, ◌++◌, refl, sym, ◌∙◌, ap}
use Rattle.scop_syntax.proofs.Common.{ap₂, subst, arith, length, map, take, drop, All, not, length-map, map-append}
use Rattle.scop_syntax.proofs.Common.{drop_at, All-nil, All-cons, All-append}
use Rattle.std.proofs.lemmas.List.{length-append}
use Rattle.stmt_graph.specs.Graph.{number_in}
use Rattle.loop_tree.specs.Tiling.{TileRow, Items}
use Rattle.loop_tree.specs.Tiling as tiling
use Rattle.schedule_rows.specs.Items.{Marked, Block, scalar, band}
use Rattle.schedule_rows.specs.Schedule.{Item, row, items_of, bands_from, marks_of}
use Rattle.schedule_rows.specs.Schedule as plain
use Rattle.schedule_rows.specs.Sized.{IsSizedRow, AreSizedRows, AreSized}
use Rattle.schedule_rows.specs.declared.item.Band.{Band}
use Rattle.tile_skew.specs.Tilings.{form_at, rows_at, row_items, block_items, leading_at, first_band_at, behind_at}
use Rattle.tile_skew.specs.Tilings.{statement_items}
use Rattle.tile_skew.specs.steps.Listed.{leading_in, rows_in, item_at, AreBounds, IsInside, HasStatement}

-- a statement's items of these parts
abbrev pub items_from : List ℕ → List TileRow → List tiling.Item → Items
items_from ls rs os = record { leading = ls; band = rs; behind = os }

-- how many scalars lead, and how many items stand up to the end of the first band
abbrev pub first_of : List Block → ℕ
first_of [] = 0
first_of (scalar numbers ∷ bs) = suc (first_of bs)
first_of (band ms ∷ bs) = 0

abbrev pub end_of : List Block → ℕ
end_of [] = 0
end_of (scalar numbers ∷ bs) = suc (end_of bs)
end_of (band ms ∷ bs) = length ms

abbrev pub band_size : List Block → ℕ
band_size [] = 0
band_size (scalar numbers ∷ bs) = band_size bs
band_size (band ms ∷ bs) = length ms

pub ends_at : (bs : List Block) → end_of bs ≡ first_of bs + band_size bs
ends_at [] = refl
ends_at (scalar numbers ∷ bs) = let e = ends_at bs in omega arith
ends_at (band ms ∷ bs) = omega arith

items_length : (ms : List Marked) (bs : List Block)
    → length (map (λ m. row m.row) ms ++ items_of bs) ≡ length ms + length (items_of bs)
items_length ms bs =
    length-append (map (λ (m : Marked). row m.row) ms) (items_of bs)
    ∙ ap (λ (k : ℕ). k + length (items_of bs)) (length-map ms (λ (m : Marked). row m.row))

pub ends_within : (bs : List Block) → end_of bs ≤ length (items_of bs)
ends_within [] = omega arith
ends_within (scalar numbers ∷ bs) = let e = ends_within bs in omega arith
ends_within (band ms ∷ bs) = let e = items_length ms bs in omega arith

-- the bounds of the first band are those places
pub bounds_are : (loops : List ℕ) (bs : List Block) (j count first behind : ℕ) → AreSized loops bs
    → count ≡ j + length (items_of bs) → AreBounds (bands_from j bs) count first behind
    → (first ≡ j + first_of bs) × (behind ≡ j + end_of bs)
bounds_are loops [] j count first behind h e b = (b.0 ∙ e, b.1 ∙ e)
bounds_are loops (scalar numbers ∷ bs) j count first behind h e b =
    let r = bounds_are loops bs (suc j) count first behind h.1 (e ∙ omega arith) b in
    (r.0 ∙ omega arith, r.1 ∙ omega arith)
bounds_are loops (band [] ∷ bs) j count first behind h e b = absurd h.0
bounds_are loops (band (m ∷ ms) ∷ bs) j count first behind h e b = (b.0 ∙ omega arith, b.1 ∙ omega arith)

pub band_inside : (loops : List ℕ) (bs : List Block) (j count : ℕ) → AreSized loops bs
    → count ≡ j + length (items_of bs) → IsInside (bands_from j bs) count
band_inside loops [] j count h e = tt
band_inside loops (scalar numbers ∷ bs) j count h e = band_inside loops bs (suc j) count h.1 (e ∙ omega arith)
band_inside loops (band [] ∷ bs) j count h e = absurd h.0
band_inside loops (band (m ∷ ms) ∷ bs) j count h e = let l = items_length (m ∷ ms) bs in omega (arith, e)

-- the leading scalars
pub leading_are : (loops : List ℕ) (bs : List Block) (k : ℕ) → AreSized loops bs
    → leading_in (items_of bs) k ≡ leading_at bs k
leading_are loops [] k h = refl
leading_are loops (scalar numbers ∷ bs) k h =
    ap (λ (ns : List ℕ). number_in numbers k ∷ ns) (leading_are loops bs k h.1)
leading_are loops (band [] ∷ bs) k h = absurd h.0
leading_are loops (band (m ∷ ms) ∷ bs) k h = refl

-- the first band
band_rows_are : (ms : List Marked) (items : List Item) (marks : List Bool) (k : ℕ)
    → rows_in (take (length ms) (map (λ m. row m.row) ms ++ items)) (map (λ m. m.parallel) ms ++ marks) k
    ≡ rows_at ms k
band_rows_are [] items marks k = refl
band_rows_are (m ∷ ms) items marks k =
    ap (λ (rs : List TileRow). record { form = form_at m.row k; carries = not m.parallel } ∷ rs)
    (band_rows_are ms items marks k)

pub rows_are : (bs : List Block) (k : ℕ)
    → rows_in (take (band_size bs) (drop (first_of bs) (items_of bs))) (drop (first_of bs) (marks_of bs)) k
    ≡ first_band_at bs k
rows_are [] k = refl
rows_are (scalar numbers ∷ bs) k = rows_are bs k
rows_are (band ms ∷ bs) k = band_rows_are ms (items_of bs) (marks_of bs) k

-- the items behind it
row_items_are : (ms : List Marked) (k : ℕ) → map (item_at k) (map (λ m. row m.row) ms) ≡ row_items ms k
row_items_are [] k = refl
row_items_are (m ∷ ms) k = ap (λ is. item_at k (row m.row) ∷ is) (row_items_are ms k)

items_are : (bs : List Block) (k : ℕ) → map (item_at k) (items_of bs) ≡ block_items bs k
items_are [] k = refl
items_are (scalar numbers ∷ bs) k = ap (λ is. item_at k (plain.scalar numbers) ∷ is) (items_are bs k)
items_are (band ms ∷ bs) k =
    map-append (item_at k) (map (λ (m : Marked). row m.row) ms) (items_of bs)
    ∙ ap₂ (λ us vs. us ++ vs) (row_items_are ms k) (items_are bs k)

pub behind_are : (bs : List Block) (k : ℕ) → map (item_at k) (drop (end_of bs) (items_of bs)) ≡ behind_at bs k
behind_are [] k = refl
behind_are (scalar numbers ∷ bs) k = behind_are bs k
behind_are (band ms ∷ bs) k =
    ap (map (item_at k)) (drop_at (map (λ (m : Marked). row m.row) ms) (items_of bs) (length ms)
    (length-map ms (λ (m : Marked). row m.row)))
    ∙ items_are bs k

-- each item has a number for each statement
rows_have : (loops : List ℕ) (ms : List Marked) (k : ℕ) → k < length loops → AreSizedRows loops ms
    → All (HasStatement k) (map (λ m. row m.row) ms)
rows_have loops [] k h a = All-nil (HasStatement k)
rows_have loops (m ∷ ms) k h a =
    let r : IsSizedRow loops m.row = a.0 in
    let many = r.statements in
    let here : k < length m.row.parts = omega arith in
    All-cons (HasStatement k) (row m.row) (map (λ (n : Marked). row n.row) ms) (here, r.coefficients k, r.shift k)
    (rows_have loops ms k h a.1)

pub items_have : (loops : List ℕ) (bs : List Block) (k : ℕ) → k < length loops → AreSized loops bs
    → All (HasStatement k) (items_of bs)
items_have loops [] k h a = All-nil (HasStatement k)
items_have loops (scalar numbers ∷ bs) k h a =
    let many = a.0 in
    let here : k < length numbers = omega (arith, many) in
    All-cons (HasStatement k) (plain.scalar numbers) (items_of bs) here (items_have loops bs k h a.1)
items_have loops (band [] ∷ bs) k h a = absurd a.0
items_have loops (band (m ∷ ms) ∷ bs) k h a =
    All-append (HasStatement k) (map (λ (n : Marked). row n.row) (m ∷ ms)) (items_of bs)
    (rows_have loops (m ∷ ms) k h a.0) (items_have loops bs k h a.1)

-- what is read off the items, the marks and the bands are the statement's items
pub told_items : (loops : List ℕ) (bs : List Block) (k first behind count : ℕ) (items : List Item) (marks : List Bool)
    (bands : List Band) (ls : List ℕ) (rs : List TileRow) (os : List tiling.Item) → AreSized loops bs
    → items ≡ items_of bs → marks ≡ marks_of bs → bands ≡ bands_from 0 bs → count ≡ length items
    → AreBounds bands count first behind → ls ≡ leading_in items k
    → rs ≡ rows_in (take (behind - first) (drop first items)) (drop first marks) k
    → os ≡ map (item_at k) (drop behind items)
    → items_from ls rs os ≡ statement_items bs k
told_items loops bs k first behind count items marks bands ls rs os sized i m b c bounds l r o =
    let start : 0 + length (items_of bs) ≡ length (items_of bs) = omega arith in
    let p = bounds_are loops bs 0 count first behind sized (c ∙ (ap length i ∙ sym start))
    (subst (λ zs. AreBounds zs count first behind) b bounds) in
    let e = ends_at bs in
    let first_is : first ≡ first_of bs = p.0 ∙ omega arith in
    let behind_is : behind ≡ end_of bs = p.1 ∙ omega arith in
    let many : behind - first ≡ band_size bs = omega (arith, e, first_is, behind_is) in
    let leads : ls ≡ leading_at bs k = l ∙ (ap (λ zs. leading_in zs k) i ∙ leading_are loops bs k sized) in
    let rows : rs ≡ first_band_at bs k = r
    ∙ (ap (λ n. rows_in (take n (drop first items)) (drop first marks) k) many
    ∙ (ap (λ n. rows_in (take (band_size bs) (drop n items)) (drop n marks) k) first_is
    ∙ (ap₂ (λ zs ps. rows_in (take (band_size bs) (drop (first_of bs) zs)) (drop (first_of bs) ps) k) i m
    ∙ rows_are bs k))) in
    let others : os ≡ behind_at bs k = o
    ∙ (ap₂ (λ n zs. map (item_at k) (drop n zs)) behind_is i ∙ behind_are bs k) in
    ap₂ (λ us vs. items_from us vs os) leads rows
    ∙ ap (λ ws. items_from (leading_at bs k) (first_band_at bs k) ws) others
