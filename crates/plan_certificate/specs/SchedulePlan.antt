-- The plan that a schedule is: the scalars before its first row, the rows of its first band, and the items behind that.
use Rattle.std.specs.Prelude.{ℕ, List, [], ◌∷◌, ◌++◌, map}
use Rattle.whole_numbers.specs.Affine.{Affine, form_of}
use Rattle.schedule_rows.specs.Unknowns.{Part}
use Rattle.schedule_rows.specs.Items.{Row, Marked, Block, scalar, band}
use Rattle.plan_check.specs.Plans.{Plan, PlanRow, PlanItem, rows, numbers}

-- a statement's part as a form over its loops, those of a row, and a row with its mark
abbrev pub form_of_part : Part → Affine
form_of_part p = form_of p.coefficients p.shift

abbrev pub forms_of : Row → List Affine
forms_of r = map form_of_part r.parts

abbrev pub plan_row : Marked → PlanRow
plan_row m = record { forms = forms_of m.row; parallel = m.parallel }

-- the items behind the first band
abbrev pub later_items : List Block → List PlanItem
later_items [] = []
later_items (scalar ns ∷ bs) = numbers ns ∷ later_items bs
later_items (band ms ∷ bs) = map (λ m. rows (forms_of m.row)) ms ++ later_items bs

-- a plan with a scalar in front
abbrev pub behind_scalar : List (List ℕ) → Plan → Plan
behind_scalar ns p = record p { leading = ns ++ p.leading }

-- the plan of a schedule's blocks
abbrev pub plan_of_blocks : List Block → Plan
plan_of_blocks [] = record { leading = []; band = []; behind = [] }
plan_of_blocks (scalar ns ∷ bs) = behind_scalar (ns ∷ []) (plan_of_blocks bs)
plan_of_blocks (band [] ∷ bs) = plan_of_blocks bs
plan_of_blocks (band (m ∷ ms) ∷ bs) =
    record { leading = []; band = map plan_row (m ∷ ms); behind = later_items bs }
