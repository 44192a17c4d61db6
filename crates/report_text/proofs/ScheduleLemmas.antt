-- The lines of a schedule, item by item, and block by block.
use Rattle.scop_syntax.proofs.Common.{◌≡◌, ◌∙◌, sym, ap, refl, ℕ, zero, suc, ◌+◌, ◌<◌, ◌≤◌, Bool, true, false, List, []}
use Rattle.scop_syntax.proofs.Common.{◌∷◌, ◌++◌, map, length, drop, get_or, add-one, drop-cons, append_assoc}
use Rattle.scop_syntax.proofs.Common.{append-nil, arith, if◌then◌else◌, drop_of_length-le, ℤ, Some, slice_get, codes}
use Rattle.scop_syntax.proofs.Common.{signed_decimal, ne_eqb, eq-eqb}
use Rattle.schedule_rows.specs.Items.{Marked, Block, scalar, band}
use Rattle.schedule_rows.specs.Schedule as plain
use Rattle.schedule_rows.specs.Schedule.{Item, items_of, bands_from, marks_of}
use Rattle.schedule_rows.specs.declared.item.Band.{Band}
use Rattle.schedule_rows.specs.declared.item.Part.{Part}
use Rattle.report_text.specs.ScheduleText.{rows_text, blocks_text, row_line, schedule_text, before, numbers_from}
use Rattle.report_text.specs.ScheduleText.{statement_text, statements_from, component_text, components_from}
use Rattle.report_text.specs.steps.ScheduleLines.{begins, entered, item_text, items_text, part_view}

-- the number at a place, and those behind it
pub numbers_next : (zs : List ℤ) (at : ℕ) (d : ℤ) → at < length zs
    → (before at (codes " ") ++ signed_decimal (get_or zs at d)) ++ numbers_from (at + 1) (drop (at + 1) zs)
    ≡ numbers_from at (drop at zs)
numbers_next zs at d less = rw (add-one, drop-cons zs at d less) refl

-- the statement's part at a place, and those behind it
pub statements_next : (parts : List Part) (at : ℕ) (d : Part) → at < length parts
    → statement_text at (part_view (get_or parts at d))
    ++ statements_from (at + 1) (map part_view (drop (at + 1) parts))
    ≡ statements_from at (map part_view (drop at parts))
statements_next parts at d less = rw (add-one, drop-cons parts at d less) refl

-- the component at a place, and those behind it
pub components_next : (numbers : List ℕ) (at d : ℕ) → at < length numbers
    → component_text at (get_or numbers at d) ++ components_from (at + 1) (drop (at + 1) numbers)
    ≡ components_from at (drop at numbers)
components_next numbers at d less = rw (add-one, drop-cons numbers at d less) refl

-- the mark at a place, and those behind it
marks_next : (marks : List Bool) (at : ℕ) (mark : Bool) → slice_get marks at ≡ Some mark
    → drop at marks ≡ mark ∷ drop (suc at) marks
marks_next [] at mark is = cc
marks_next (m ∷ ms) zero mark is = cc
marks_next (m ∷ ms) (suc at) mark is = marks_next ms at mark is

-- the item at a place, and those behind it
pub items_next : (items : List Item) (marks : List Bool) (bands : List Band) (at count : ℕ) (item : Item) (mark : Bool)
    → at < length items → get_or items at item ≡ item → slice_get marks at ≡ Some mark
    → item_text (suc at) (entered bands count at) mark item
    ++ items_text (suc at) (entered bands count at) bands (drop (suc at) items) (drop (suc at) marks)
    ≡ items_text at count bands (drop at items) (drop at marks)
items_next items marks bands at count item mark less is marked =
    sym (ap (λ ms. items_text at count bands (drop at items) ms) (marks_next marks at mark marked)
    ∙ ap (λ is. items_text at count bands is (mark ∷ drop (suc at) marks))
    (drop-cons items at item less ∙ ap (λ i. i ∷ drop (suc at) items) is))

-- the same, as the code counts
pub lines_next : (items : List Item) (marks : List Bool) (bands own : List Band) (at count now : ℕ) (item : Item)
    (mark : Bool) → at < length items → get_or items at item ≡ item → slice_get marks at ≡ Some mark
    → own ≡ bands → now ≡ entered own count at
    → item_text (at + 1) now mark item ++ items_text (at + 1) now bands (drop (at + 1) items) (drop (at + 1) marks)
    ≡ items_text at count bands (drop at items) (drop at marks)
lines_next items marks bands own at count now item mark less is marked same counted =
    let Lines : ℕ → List ℕ = λ k. item_text (suc at) k mark item
    ++ items_text (suc at) k bands (drop (suc at) items) (drop (suc at) marks) in
    rw add-one (ap Lines (counted ∙ ap (λ bs. entered bs count at) same)
    ∙ items_next items marks bands at count item mark less is marked)

-- behind the last item there is no line
pub lines_end : (items : List Item) (marks : List Bool) (bands : List Band) (at count : ℕ) → length items ≤ at
    → items_text at count bands (drop at items) marks ≡ []
lines_end items marks bands at count past =
    ap (λ is. items_text at count bands is marks) (drop_of_length-le items past)

-- ---- block by block

-- no band of blocks begins before their first item
begins_later : (k at : ℕ) (blocks : List Block) → at < k → begins (bands_from k blocks) at ≡ false
begins_later k at [] less = refl
begins_later k at (scalar numbers ∷ bs) less = begins_later (suc k) at bs (omega (arith, less))
begins_later k at (band [] ∷ bs) less = begins_later k at bs less
begins_later k at (band (m ∷ ms) ∷ bs) less = ne_eqb k at (λ same. omega (arith, less, same))

-- where no band begins at an item, none is entered
stays : (bands : List Band) (count at : ℕ) → begins (drop count bands) at ≡ false → entered bands count at ≡ count
stays bands count at none = ap (λ b. if b then suc count else count) none

-- the lines of rows of an open band
rows_lines : (bands : List Band) (count : ℕ) (ms : List Marked) (at : ℕ) (is : List Item) (ps : List Bool)
    → ((k : ℕ) → k < at + length ms → begins (drop count bands) k ≡ false)
    → items_text at count bands (map (λ m. plain.row m.row) ms ++ is) (map (λ m. m.parallel) ms ++ ps)
    ≡ rows_text (suc at) count ms ++ items_text (at + length ms) count bands is ps
rows_lines bands count [] at is ps later = ap (λ k. items_text k count bands is ps) (omega arith)
rows_lines bands count (m ∷ ms) at is ps later =
    let line = row_line (suc at) count m.parallel m.row in
    let same = stays bands count at (later at (omega arith)) in
    let rest = rows_lines bands count ms (suc at) is ps (λ k less. later k (omega (arith, less))) in
    let Lines : ℕ → List ℕ = λ c. row_line (suc at) c m.parallel m.row
    ++ items_text (suc at) c bands (map (λ m. plain.row m.row) ms ++ is) (map (λ m. m.parallel) ms ++ ps) in
    ap Lines same ∙ (ap (λ t. line ++ t) (rest
    ∙ ap (λ k. rows_text (suc (suc at)) count ms ++ items_text k count bands is ps) (omega arith))
    ∙ sym (append_assoc line (rows_text (suc (suc at)) count ms) (items_text (at + suc (length ms)) count bands is ps)))

-- the lines of the items of blocks are those of the blocks
pub blocks_lines : (blocks : List Block) (at count : ℕ) (bands : List Band) → drop count bands ≡ bands_from at blocks
    → items_text at count bands (items_of blocks) (marks_of blocks) ≡ blocks_text (suc at) (suc count) blocks
blocks_lines [] at count bands is = refl
blocks_lines (scalar numbers ∷ bs) at count bands is =
    let none = ap (λ b. begins b at) is ∙ begins_later (suc at) at bs (omega arith) in
    let same = stays bands count at none in
    let line = item_text (suc at) count false (plain.scalar numbers) in
    ap (λ c. line ++ items_text (suc at) c bands (items_of bs) (marks_of bs)) same
    ∙ ap (λ t. line ++ t) (blocks_lines bs (suc at) count bands is)
blocks_lines (band [] ∷ bs) at count bands is = blocks_lines bs at count bands is
blocks_lines (band (m ∷ ms) ∷ bs) at count bands is =
    let first : begins (drop count bands) at ≡ true = ap (λ b. begins b at) is ∙ eq-eqb at at refl in
    let same : entered bands count at ≡ suc count = ap (λ b. if b then suc count else count) first in
    let behind : drop (suc count) bands ≡ bands_from (suc (at + length ms)) bs = dropped bands count is in
    let rest = rows_lines bands (suc count) ms (suc at) (items_of bs) (marks_of bs)
    (λ k less. ap (λ b. begins b k) behind ∙ begins_later (suc (at + length ms)) k bs (omega (arith, less))) in
    let line = row_line (suc at) (suc count) m.parallel m.row in
    let next = blocks_lines bs (suc (at + length ms)) (suc count) bands behind in
    let rows = rows_text (suc (suc at)) (suc count) ms in
    ap (λ c. row_line (suc at) c m.parallel m.row ++ items_text (suc at) c bands
    (map (λ m. plain.row m.row) ms ++ items_of bs) (map (λ m. m.parallel) ms ++ marks_of bs)) same
    ∙ (ap (λ t. line ++ t) (rest
    ∙ (ap (λ k. rows ++ items_text k (suc count) bands (items_of bs) (marks_of bs)) (omega arith)
    ∙ ap (λ t. rows ++ t) next))
    ∙ (sym (append_assoc line rows (blocks_text (suc (suc (at + length ms))) (suc (suc count)) bs))
    ∙ ap (λ k. (line ++ rows) ++ blocks_text (suc k) (suc (suc count)) bs) {x = suc (at + length ms)} (omega arith)))
  where
    dropped : (bands : List Band) (count : ℕ) → drop count bands ≡ bands_from at (band (m ∷ ms) ∷ bs)
        → drop (suc count) bands ≡ bands_from (suc (at + length ms)) bs
    dropped [] zero is = cc
    dropped [] (suc count) is = cc
    dropped (b ∷ bands) zero is = ap (drop 1) is
    dropped (b ∷ bands) (suc count) is = dropped bands count is

-- the lines of all items of blocks are the text of the schedule
pub schedule_lines : (items : List Item) (marks : List Bool) (bands : List Band) (blocks : List Block) (text : List ℕ)
    (at count : ℕ) → items ≡ items_of blocks → bands ≡ bands_from 0 blocks → marks ≡ marks_of blocks
    → length items ≤ at
    → text ++ items_text at count bands (drop at items) (drop at marks) ≡ items_text 0 0 bands items marks
    → text ≡ schedule_text blocks
schedule_lines items marks bands blocks text at count items_are bands_are marks_are past whole =
    sym (append-nil text) ∙ (sym (ap (λ t. text ++ t) (lines_end items (drop at marks) bands at count past))
    ∙ (whole ∙ (ap (λ bs. items_text 0 0 bs items marks) bands_are
    ∙ (ap (λ is. items_text 0 0 (bands_from 0 blocks) is marks) items_are
    ∙ (ap (λ ms. items_text 0 0 (bands_from 0 blocks) (items_of blocks) ms) marks_are
    ∙ blocks_lines blocks 0 0 (bands_from 0 blocks) refl)))))
