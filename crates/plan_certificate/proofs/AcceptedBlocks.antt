-- The items of a schedule can be printed.
use Rattle.scop_syntax.proofs.Common.{◌≡◌, ap₂, refl, ℕ, suc, ◌^◌, ℤ, pos, ◌≤ℤ◌, ◌<ℤ◌, List, [], ◌∷◌, ◌++◌, length}
use Rattle.scop_syntax.proofs.Common.{map, All, arith, slice_index_or, flat_map, ints, All-nil, All-cons}
use Rattle.scop_syntax.proofs.Common.{All-head, All-tail, All-weaker, all_front, all_back}
use Rattle.schedule_rows.specs.Unknowns.{Part, part_numbers}
use Rattle.schedule_rows.specs.Items.{Row, Marked, Block, scalar, band, band_rows, part_of, rows_in}
use Rattle.schedule_rows.specs.Schedule as plain
use Rattle.schedule_rows.specs.Schedule.{Item, items_of}
use Rattle.schedule_rows.specs.Sized.{AreSized, AreSizedRows, IsSizedRow, IsSmall}
use Rattle.report_text.specs.ScheduleText.{IsNarrowItem, IsNarrowRow}
use Rattle.plan_certificate.proofs.AcceptedItems.{ArePrinted, ArePrintedRows}
use Rattle.plan_certificate.proofs.AcceptedRanks.{IsUpRow}
use Rattle.plan_certificate.proofs.AcceptedTexts.{IsPrinted, IsPrintedPart, IsPrintedRow}

-- what holds at each place holds of all
all_at : {A : Type 0} (P : A → Type 0) (xs : List A) (e : A) → ((k : ℕ) → P (slice_index_or xs k e)) → All P xs
all_at P [] e h = All-nil P
all_at P (x ∷ xs) e h = All-cons P x xs (h 0) (all_at P xs e (λ k. h (suc k)))

both : {A : Type 0} (P Q : A → Type 0) (xs : List A) → All P xs → All Q xs → All (λ x. P x × Q x) xs
both P Q xs h k = λ i x less. (h i x less, k i x less)

lengths_are : (ps : List Part) (loops : List ℕ) (e : Part) → length ps ≡ length loops
    → ((s : ℕ) → length (slice_index_or ps s e).coefficients ≡ slice_index_or loops s 0)
    → map (λ p. length p.coefficients) ps ≡ loops
lengths_are [] [] e h k = refl
lengths_are [] (n ∷ loops) e h k = absurd (omega (arith, h))
lengths_are (p ∷ ps) [] e h k = absurd (omega (arith, h))
lengths_are (p ∷ ps) (n ∷ loops) e h k =
    ap₂ (λ (x : ℕ) (xs : List ℕ). x ∷ xs) (k 0) (lengths_are ps loops e (omega (arith, h)) (λ s. k (suc s)))

row_lengths : (loops : List ℕ) (r : Row) → IsSizedRow loops r → map (λ p. length p.coefficients) r.parts ≡ loops
row_lengths loops r is =
    lengths_are r.parts loops (record { coefficients = []; shift = pos 0 }) is.statements is.sized

small_printed : (z : ℤ) → IsSmall z → IsPrinted z
small_printed z h = let a = h.0 in let b = h.1 in (a, omega (arith, ints))

row_printed : (loops : List ℕ) (r : Row) → IsSizedRow loops r → IsUpRow r → IsNarrowRow r → IsPrintedRow loops r
row_printed loops r is up narrow =
    let behind = all_back (λ c. pos 0 ≤ℤ c) r.u (r.w ∷ flat_map part_numbers r.parts) up in
    record {
      u = both (λ z. pos 0 ≤ℤ z) (λ z. z <ℤ pos (2 ^ 127)) r.u
          (all_front (λ c. pos 0 ≤ℤ c) r.u (r.w ∷ flat_map part_numbers r.parts) up) narrow.0;
      w = (All-head (λ c. pos 0 ≤ℤ c) r.w (flat_map part_numbers r.parts) behind, narrow.1);
      parts = all_at IsPrintedPart r.parts (record { coefficients = []; shift = pos 0 })
          (λ s. (
            All-weaker IsSmall IsPrinted small_printed (part_of r s).coefficients (is.coefficients s),
            small_printed (part_of r s).shift (is.shift s),
          ));
      lengths = row_lengths loops r is;
    }

abbrev as_items : List Marked → List Item
as_items ms = map (λ m. plain.row m.row) ms

rows_printed : (loops : List ℕ) (ms : List Marked) (more : List Row) (behind : List Item) → AreSizedRows loops ms
    → All IsUpRow (band_rows ms ++ more) → All IsNarrowItem (as_items ms ++ behind) → ArePrintedRows loops ms
rows_printed loops [] more behind is up narrow = tt
rows_printed loops (m ∷ ms) more behind is up narrow = (
  row_printed loops m.row is.0 (All-head IsUpRow m.row (band_rows ms ++ more) up)
      (All-head IsNarrowItem (plain.row m.row) (as_items ms ++ behind) narrow),
  rows_printed loops ms more behind is.1 (All-tail IsUpRow m.row (band_rows ms ++ more) up)
      (All-tail IsNarrowItem (plain.row m.row) (as_items ms ++ behind) narrow),
)

-- each item of a schedule can be printed
pub blocks_printed : (loops : List ℕ) (bs : List Block) → AreSized loops bs → All IsUpRow (rows_in bs)
    → All IsNarrowItem (items_of bs) → ArePrinted loops bs
blocks_printed loops [] is up narrow = tt
blocks_printed loops (scalar ns ∷ bs) is up narrow = (
  (is.0, All-head IsNarrowItem (plain.scalar ns) (items_of bs) narrow),
  blocks_printed loops bs is.1 up (All-tail IsNarrowItem (plain.scalar ns) (items_of bs) narrow),
)
blocks_printed loops (band [] ∷ bs) is up narrow = absurd is.0
blocks_printed loops (band (m ∷ ms) ∷ bs) is up narrow = (
  rows_printed loops (m ∷ ms) (rows_in bs) (items_of bs) is.0 up narrow,
  blocks_printed loops bs is.1 (all_back IsUpRow (band_rows (m ∷ ms)) (rows_in bs) up)
      (all_back IsNarrowItem (as_items (m ∷ ms)) (items_of bs) narrow),
)
