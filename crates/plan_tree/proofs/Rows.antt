-- The rows of a schedule's first band have small numbers, and so have their values where turns are small.
use Rattle.scop_syntax.proofs.Common.{ℕ, ◌+◌, ◌*◌, ◌^◌, ◌<◌, ◌≤◌, ℤ, pos, negsuc, List, [], ◌∷◌, length, refl, subst}
use Rattle.scop_syntax.proofs.Common.{sym, arith, mul-le-mul, ◌≤ℤ◌, ◌<ℤ◌, All, FitsSigned, not, unsigned_abs, w64, ints}
use Rattle.scop_syntax.proofs.Common.{length-map, All-nil, All-cons, All-head, All-tail, value_of, AreAtMost, IsForm}
use Rattle.scop_syntax.proofs.Common.{statements_of, Program, Instance, size, value_size}
use Rattle.iteration_domains.specs.Model.{model_of, modelled}
use Rattle.loop_tree.specs.Tiling.{Items, TileRow, items_at}
use Rattle.loop_tree.proofs.SourceSizes.{entries_size}
use Rattle.tile_skew.specs.Items.{Block, Marked, band, scalar, part_of}
use Rattle.tile_skew.specs.Sized.{AreSized, AreSizedRows, IsSizedRow, IsSmall}
use Rattle.tile_skew.specs.Tilings.{first_band_at, form_at, rows_at, statements_from}
use Rattle.tile_skew.proofs.TilingAgreement.{items_found}
use Rattle.planned_trees.proofs.WalkedVisits.{IsWalked}

small_number : (x : ℤ) → pos 0 ≤ℤ x → x ≤ℤ pos 4096 → unsigned_abs x ≤ 4096
small_number (pos n) low high = omega (arith, ints)
small_number (negsuc n) low high = absurd (omega (arith, ints))

small_numbers : (xs : List ℤ) → All IsSmall xs → AreAtMost 4096 xs
small_numbers [] all = tt
small_numbers (x ∷ xs) all =
    let h = All-head IsSmall x xs all in
    (small_number x h.0 h.1, small_numbers xs (All-tail IsSmall x xs all))

small_turns : (xs : List ℤ) → All (λ t. (pos 0 ≤ℤ t) × (t <ℤ pos (2 ^ 46))) xs → AreAtMost (2 ^ 46) xs
small_turns [] all = tt
small_turns (x ∷ xs) all =
    let P : ℤ → Type 0 = λ t. (pos 0 ≤ℤ t) × (t <ℤ pos (2 ^ 46)) in
    let h = All-head P x xs all in
    (small_turn x h.0 h.1, small_turns xs (All-tail P x xs all))
  where
    small_turn : (x : ℤ) → pos 0 ≤ℤ x → x <ℤ pos (2 ^ 46) → unsigned_abs x ≤ 2 ^ 46
    small_turn (pos n) low high = omega (arith, ints)
    small_turn (negsuc n) low high = absurd (omega (arith, ints))

within_fits : (v : ℤ) → unsigned_abs v ≤ 4096 * (5 * 2 ^ 46) + 4096 → FitsSigned w64 v
within_fits (pos n) h = omega (arith, ints)
within_fits (negsuc n) h = omega (arith, ints)

-- the value of a row at few small turns
row_fits : (loops : List ℕ) (m : Marked) (k : ℕ) (xs : List ℤ) → IsSizedRow loops m.row → length xs ≤ 5
    → All (λ t. (pos 0 ≤ℤ t) × (t <ℤ pos (2 ^ 46))) xs → FitsSigned w64 (value_of (form_at m.row k) xs)
row_fits loops m k xs sized few small =
    let cs = (part_of m.row k).coefficients in
    let shift = sized.shift k in
    let form : IsForm (length cs) 4096 4096 (form_at m.row k) = record {
      entries = refl;
      coefficients = small_numbers cs (sized.coefficients k);
      constant = small_number (part_of m.row k).shift shift.0 shift.1;
    } in
    let value = value_size (length cs) 4096 4096 (form_at m.row k) xs form in
    let entries = entries_size (2 ^ 46) xs (small_turns xs small) in
    let same : 2 ^ 46 ≤ 2 ^ 46 = omega arith in
    let most : length xs * 2 ^ 46 ≤ 5 * 2 ^ 46 = mul-le-mul few same in
    let all : size xs ≤ 5 * 2 ^ 46 = omega (arith, entries, most) in
    let factor : 4096 ≤ 4096 = omega arith in
    let product : 4096 * size xs ≤ 4096 * (5 * 2 ^ 46) = mul-le-mul factor all in
    within_fits (value_of (form_at m.row k) xs) (omega (arith, value, product))

rows_fit : (loops : List ℕ) (ms : List Marked) (k : ℕ) (xs : List ℤ) → AreSizedRows loops ms → length xs ≤ 5
    → All (λ t. (pos 0 ≤ℤ t) × (t <ℤ pos (2 ^ 46))) xs
    → All (λ r. FitsSigned w64 (value_of r.form xs)) (rows_at ms k)
rows_fit loops [] k xs sized few small = All-nil (λ (r : TileRow). FitsSigned w64 (value_of r.form xs))
rows_fit loops (m ∷ ms) k xs sized few small =
    All-cons (λ (r : TileRow). FitsSigned w64 (value_of r.form xs))
    (record { form = form_at m.row k; carries = not m.parallel }) (rows_at ms k)
    (row_fits loops m k xs sized.0 few small) (rows_fit loops ms k xs sized.1 few small)

band_fits : (loops : List ℕ) (blocks : List Block) (k : ℕ) (xs : List ℤ) → AreSized loops blocks → length xs ≤ 5
    → All (λ t. (pos 0 ≤ℤ t) × (t <ℤ pos (2 ^ 46))) xs
    → All (λ r. FitsSigned w64 (value_of r.form xs)) (first_band_at blocks k)
band_fits loops [] k xs sized few small = All-nil (λ (r : TileRow). FitsSigned w64 (value_of r.form xs))
band_fits loops (scalar numbers ∷ bs) k xs sized few small = band_fits loops bs k xs sized.1 few small
band_fits loops (band [] ∷ bs) k xs sized few small = absurd sized.0
band_fits loops (band (m ∷ ms) ∷ bs) k xs sized few small = rows_fit loops (m ∷ ms) k xs sized.0 few small

-- those of the tiling's rows at an instance of the walk
pub tiled_rows_fit : (program : Program) (loops : List ℕ) (blocks : List Block) (x : Instance)
    → AreSized loops blocks → IsWalked program x
    → All (λ r. FitsSigned w64 (value_of r.form x.turns))
    (items_at (statements_from blocks 0 (length (model_of program).statements)) x.number).band
tiled_rows_fit program loops blocks x sized is =
    let number = is.number in
    let many = length-map (statements_of program) (modelled (length program.parameters)) in
    let within : x.number < length (model_of program).statements = omega (arith, number, many) in
    subst (λ (s : Items). All (λ r. FitsSigned w64 (value_of r.form x.turns)) s.band)
    (sym (items_found blocks (length (model_of program).statements) x.number within))
    (band_fits loops blocks x.number x.turns sized is.few is.small)
