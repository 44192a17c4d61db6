-- The items of a schedule's statements fit: a coefficient for each loop, and small numbers.
use Rattle.scop_syntax.proofs.Common.{◌≡◌, ℕ, List, [], ◌∷◌, arith, subst, Affine, All, All-nil, All-cons, All-append}
use Rattle.stmt_graph.specs.Graph.{number_in}
use Rattle.loop_tree.specs.Tiling.{TileRow, row, scalar as number}
use Rattle.schedule_rows.specs.Items.{Row, Marked, Block, scalar, band, part_of}
use Rattle.schedule_rows.specs.Posed.{loops_of}
use Rattle.schedule_rows.specs.Sized.{IsSizedRow, AreSizedRows, AreSized}
use Rattle.tile_skew.specs.steps.Sizes.{FitItems, FitsItem, FitsTurns}
use Rattle.tile_skew.specs.Tilings.{form_at, rows_at, row_items, block_items, statement_items}
use Rattle.tile_skew.proofs.Widths.{size-few, small_number}

form_fits : (loops : List ℕ) (r : Row) (k : ℕ) → IsSizedRow loops r → FitsTurns (loops_of loops k) (form_at r k)
form_fits loops r k h =
    let few = size-few (part_of r k).coefficients (h.coefficients k) in
    let one = small_number (part_of r k).shift (h.shift k) in
    let many = h.sized k in
    (many, omega (arith, few, one, many))

rows_fit : (loops : List ℕ) (ms : List Marked) (k : ℕ) → AreSizedRows loops ms
    → All (λ r. FitsTurns (loops_of loops k) r.form) (rows_at ms k)
rows_fit loops [] k h = All-nil (λ (r : TileRow). FitsTurns (loops_of loops k) r.form)
rows_fit loops (m ∷ ms) k h =
    All-cons (λ (r : TileRow). FitsTurns (loops_of loops k) r.form) _ (rows_at ms k) (form_fits loops m.row k h.0)
    (rows_fit loops ms k h.1)

item_fits : (n : ℕ) (f : Affine) → FitsTurns n f → FitsItem n (row f)
item_fits n f h = λ g e. let same : f ≡ g = cc in subst (FitsTurns n) same h

row_items_fit : (loops : List ℕ) (ms : List Marked) (k : ℕ) → AreSizedRows loops ms
    → All (FitsItem (loops_of loops k)) (row_items ms k)
row_items_fit loops [] k h = All-nil (FitsItem (loops_of loops k))
row_items_fit loops (m ∷ ms) k h =
    All-cons (FitsItem (loops_of loops k)) (row (form_at m.row k)) (row_items ms k)
    (item_fits (loops_of loops k) (form_at m.row k) (form_fits loops m.row k h.0)) (row_items_fit loops ms k h.1)

block_items_fit : (loops : List ℕ) (bs : List Block) (k : ℕ) → AreSized loops bs
    → All (FitsItem (loops_of loops k)) (block_items bs k)
block_items_fit loops [] k h = All-nil (FitsItem (loops_of loops k))
block_items_fit loops (scalar numbers ∷ bs) k h =
    All-cons (FitsItem (loops_of loops k)) (number (number_in numbers k)) (block_items bs k)
    (λ f e. absurd cc)
    (block_items_fit loops bs k h.1)
block_items_fit loops (band [] ∷ bs) k h = absurd h.0
block_items_fit loops (band (m ∷ ms) ∷ bs) k h =
    All-append (FitsItem (loops_of loops k)) (row_items (m ∷ ms) k) (block_items bs k)
    (row_items_fit loops (m ∷ ms) k h.0) (block_items_fit loops bs k h.1)

pub items_fit : (loops : List ℕ) (bs : List Block) (k : ℕ) → AreSized loops bs
    → FitItems (loops_of loops k) (statement_items bs k)
items_fit loops [] k h = record {
  band = All-nil (λ (r : TileRow). FitsTurns (loops_of loops k) r.form);
  behind = All-nil (FitsItem (loops_of loops k));
}
items_fit loops (scalar numbers ∷ bs) k h =
    let rest = items_fit loops bs k h.1 in record { band = rest.band; behind = rest.behind }
items_fit loops (band [] ∷ bs) k h = absurd h.0
items_fit loops (band (m ∷ ms) ∷ bs) k h =
    record { band = rows_fit loops (m ∷ ms) k h.0; behind = block_items_fit loops bs k h.1 }
