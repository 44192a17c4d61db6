-- The plan of a schedule's blocks has a form for each statement, and no number below 0.
use Rattle.scop_syntax.proofs.Common.{◌≡◌, ◌∙◌, ap, refl, ℕ, suc, List, [], ◌∷◌, map, length, arith, ℤ, pos, ◌≤ℤ◌, All}
use Rattle.scop_syntax.proofs.Common.{slice_index_or, All-nil, All-cons, All-head, All-tail, All-append}
use Rattle.affine_forms.specs.Parts.{variables_of}
use Rattle.schedule_rows.specs.Unknowns.{Part}
use Rattle.schedule_rows.specs.Items.{Row, Marked, Block, scalar, band}
use Rattle.schedule_rows.specs.Sized.{IsSmall, IsSizedRow, AreSizedRows, IsSizedBlock, AreSized}
use Rattle.plan_check.specs.Plans.{AreFor, AreUp, IsFor, IsFormUp, IsItemUp, IsUp, PlanItem, PlanRow, Suits}
use Rattle.plan_check.specs.Plans.{rows, numbers}
use Rattle.plan_certificate.specs.SchedulePlan.{form_of_part, forms_of, later_items, plan_of_blocks, plan_row}

abbrev none : Part
none = record { coefficients = []; shift = pos 0 }

-- as many coefficients as loops
parts_for : (loops : List ℕ) (ps : List Part) → length ps ≡ length loops
    → ((s : ℕ) → length (slice_index_or ps s none).coefficients ≡ slice_index_or loops s 0)
    → map variables_of (map form_of_part ps) ≡ loops
parts_for [] [] same each = refl
parts_for [] (p ∷ ps) same each = cc
parts_for (n ∷ loops) [] same each = cc
parts_for (n ∷ loops) (p ∷ ps) same each =
    ap (λ (z : ℕ). z ∷ map variables_of (map form_of_part ps)) (each 0)
    ∙ ap (λ (z : List ℕ). n ∷ z) (parts_for loops ps (omega (arith, same)) (λ s. each (suc s)))

-- small numbers are not below 0
not_below : (xs : List ℤ) → All IsSmall xs → All (λ z. pos 0 ≤ℤ z) xs
not_below [] small = All-nil (λ z. pos 0 ≤ℤ z)
not_below (x ∷ xs) small =
    All-cons (λ z. pos 0 ≤ℤ z) x xs (All-head IsSmall x xs small).0 (not_below xs (All-tail IsSmall x xs small))

parts_up : (ps : List Part) → ((s : ℕ) → All IsSmall (slice_index_or ps s none).coefficients)
    → ((s : ℕ) → IsSmall (slice_index_or ps s none).shift) → AreUp (map form_of_part ps)
parts_up [] small shifts = All-nil IsFormUp
parts_up (p ∷ ps) small shifts =
    All-cons IsFormUp (form_of_part p) (map form_of_part ps)
    (record { coefficients = not_below p.coefficients (small 0); constant = (shifts 0).0 })
    (parts_up ps (λ s. small (suc s)) (λ s. shifts (suc s)))

row_for : (loops : List ℕ) (r : Row) → IsSizedRow loops r → AreFor loops (forms_of r)
row_for loops r sized = parts_for loops r.parts sized.statements sized.sized

row_up : (loops : List ℕ) (r : Row) → IsSizedRow loops r → AreUp (forms_of r)
row_up loops r sized = parts_up r.parts sized.coefficients sized.shift

abbrev IsRowFor : List ℕ → PlanRow → Type 0
IsRowFor loops r = AreFor loops r.forms

abbrev IsRowUp : PlanRow → Type 0
IsRowUp r = AreUp r.forms

-- the rows of the first band
band_for : (loops : List ℕ) (ms : List Marked) → AreSizedRows loops ms
    → All (IsRowFor loops) (map plan_row ms) × All IsRowUp (map plan_row ms)
band_for loops [] sized = (All-nil (IsRowFor loops), All-nil IsRowUp)
band_for loops (m ∷ ms) sized =
    let rest = band_for loops ms sized.1 in (
      All-cons (IsRowFor loops) (plan_row m) (map plan_row ms) (row_for loops m.row sized.0) rest.0,
      All-cons IsRowUp (plan_row m) (map plan_row ms) (row_up loops m.row sized.0) rest.1,
    )

abbrev as_later : List Marked → List PlanItem
as_later ms = map (λ m. rows (forms_of m.row)) ms

-- rows behind it
rows_for : (loops : List ℕ) (ms : List Marked) → AreSizedRows loops ms
    → All (IsFor loops) (as_later ms) × All IsItemUp (as_later ms)
rows_for loops [] sized = (All-nil (IsFor loops), All-nil IsItemUp)
rows_for loops (m ∷ ms) sized =
    let rest = rows_for loops ms sized.1 in (
      All-cons (IsFor loops) (rows (forms_of m.row)) (as_later ms) (row_for loops m.row sized.0) rest.0,
      All-cons IsItemUp (rows (forms_of m.row)) (as_later ms) (row_up loops m.row sized.0) rest.1,
    )

band_sized : (loops : List ℕ) (ms : List Marked) → IsSizedBlock loops (band ms) → AreSizedRows loops ms
band_sized loops [] sized = absurd sized
band_sized loops (m ∷ ms) sized = sized

-- all items behind it
later_for : (loops : List ℕ) (bs : List Block) → AreSized loops bs
    → All (IsFor loops) (later_items bs) × All IsItemUp (later_items bs)
later_for loops [] sized = (All-nil (IsFor loops), All-nil IsItemUp)
later_for loops (scalar ns ∷ bs) sized =
    let rest = later_for loops bs sized.1 in (
      All-cons (IsFor loops) (numbers ns) (later_items bs) tt rest.0,
      All-cons IsItemUp (numbers ns) (later_items bs) tt rest.1,
    )
later_for loops (band ms ∷ bs) sized =
    let own = rows_for loops ms (band_sized loops ms sized.0) in
    let rest = later_for loops bs sized.1 in (
      All-append (IsFor loops) (as_later ms) (later_items bs) own.0 rest.0,
      All-append IsItemUp (as_later ms) (later_items bs) own.1 rest.1,
    )

-- the plan of blocks
pub plan_fits : (loops : List ℕ) (bs : List Block) → AreSized loops bs
    → Suits loops (plan_of_blocks bs) × IsUp (plan_of_blocks bs)
plan_fits loops [] sized = (
  record { band = All-nil (IsRowFor loops); behind = All-nil (IsFor loops) },
  record { band = All-nil IsRowUp; behind = All-nil IsItemUp },
)
plan_fits loops (scalar ns ∷ bs) sized =
    let rest = plan_fits loops bs sized.1 in (
      record { band = rest.0.band; behind = rest.0.behind },
      record { band = rest.1.band; behind = rest.1.behind },
    )
plan_fits loops (band [] ∷ bs) sized = absurd sized.0
plan_fits loops (band (m ∷ ms) ∷ bs) sized =
    let own = band_for loops (m ∷ ms) sized.0 in
    let rest = later_for loops bs sized.1 in (
      record { band = own.0; behind = rest.0 },
      record { band = own.1; behind = rest.1 },
    )
