-- Items, bands and marks of blocks, block by block.
use Rattle.scop_syntax.proofs.Common.{◌≡◌, ℕ, suc, ◌+◌, List, [], ◌∷◌, ◌++◌, refl, sym, ◌∙◌, ap, arith, length, map}
use Rattle.scop_syntax.proofs.Common.{append_assoc, Bool, length-map}
use Rattle.std.proofs.lemmas.List.{append-nil, length-append}
use Rattle.schedule_rows.specs.Items.{Marked, Block, scalar, band}
use Rattle.schedule_rows.specs.Schedule as plain
use Rattle.schedule_rows.specs.Schedule.{Item, items_of, bands_from, marks_of}
use Rattle.schedule_rows.specs.declared.item.Band.{Band}

abbrev pub rows_as_items : List Marked → List Item
rows_as_items ms = map (λ m. plain.row m.row) ms

abbrev pub marks_in : List Marked → List Bool
marks_in ms = map (λ m. m.parallel) ms

-- each item has a mark
pub as_many : (bs : List Block) → length (items_of bs) ≡ length (marks_of bs)
as_many [] = refl
as_many (scalar numbers ∷ bs) = ap suc (as_many bs)
as_many (band ms ∷ bs) =
    let a = length-append (rows_as_items ms) (items_of bs) in
    let b = length-append (marks_in ms) (marks_of bs) in
    let c = length-map ms (λ m. plain.row m.row) in
    let d = length-map ms (λ m. m.parallel) in
    let e = as_many bs in
    omega arith

pub items_more : (b : Block) (bs : List Block) → items_of (b ∷ bs) ≡ items_of (b ∷ []) ++ items_of bs
items_more (scalar numbers) bs = refl
items_more (band ms) bs = ap (λ (z : List Item). z ++ items_of bs) (sym (append-nil (rows_as_items ms)))

pub marks_more : (b : Block) (bs : List Block) → marks_of (b ∷ bs) ≡ marks_of (b ∷ []) ++ marks_of bs
marks_more (scalar numbers) bs = refl
marks_more (band ms) bs = ap (λ (z : List Bool). z ++ marks_of bs) (sym (append-nil (marks_in ms)))

pub items_append : (bs cs : List Block) → items_of (bs ++ cs) ≡ items_of bs ++ items_of cs
items_append [] cs = refl
items_append (scalar numbers ∷ bs) cs = ap (λ (z : List Item). plain.scalar numbers ∷ z) (items_append bs cs)
items_append (band ms ∷ bs) cs =
    ap (λ (z : List Item). rows_as_items ms ++ z) (items_append bs cs)
    ∙ sym (append_assoc (rows_as_items ms) (items_of bs) (items_of cs))

-- how many items a block has
pub block_size : (b : Block) (k : ℕ) (bs : List Block)
    → bands_from k (b ∷ bs) ≡ bands_from k (b ∷ []) ++ bands_from (k + length (items_of (b ∷ []))) bs
block_size (scalar numbers) k bs = ap (λ (n : ℕ). bands_from n bs) (omega arith)
block_size (band []) k bs = ap (λ (n : ℕ). bands_from n bs) (omega arith)
block_size (band (m ∷ ms)) k bs =
    let a = length-append (rows_as_items ms) [] in
    let c = length-map ms (λ z. plain.row z.row) in
    ap (λ (n : ℕ). record { first = k; last = k + length ms } ∷ bands_from n bs) (omega arith)

-- one block more is listed
pub items_next : (done all : List Item) (b : Block) (bs : List Block) → done ++ items_of (b ∷ bs) ≡ all
    → (done ++ items_of (b ∷ [])) ++ items_of bs ≡ all
items_next done all b bs h =
    append_assoc done (items_of (b ∷ [])) (items_of bs) ∙ (ap (λ (z : List Item). done ++ z) (sym (items_more b bs)) ∙
    h)

pub marks_next : (done all : List Bool) (b : Block) (bs : List Block) → done ++ marks_of (b ∷ bs) ≡ all
    → (done ++ marks_of (b ∷ [])) ++ marks_of bs ≡ all
marks_next done all b bs h =
    append_assoc done (marks_of (b ∷ [])) (marks_of bs) ∙ (ap (λ (z : List Bool). done ++ z) (sym (marks_more b bs)) ∙
    h)

pub bands_next : (done all : List Band) (b : Block) (bs : List Block) (k n : ℕ) → n ≡ k + length (items_of (b ∷ []))
    → done ++ bands_from k (b ∷ bs) ≡ all
    → (done ++ bands_from k (b ∷ [])) ++ bands_from n bs ≡ all
bands_next done all b bs k n e h =
    append_assoc done (bands_from k (b ∷ [])) (bands_from n bs)
    ∙ (ap (λ (z : List Band). done ++ z)
    (ap (λ (i : ℕ). bands_from k (b ∷ []) ++ bands_from i bs) e ∙ sym (block_size b k bs)) ∙ h)
