-- A plan as plain data: items of all statements at once, and the tiling that they are.
use Rattle.std.specs.Prelude.{◌≡◌, ℕ, zero, suc, Bool, not, pos, List, [], ◌∷◌, ◌≤ℤ◌, slice_index_or, map, All, ⊤}
use Rattle.whole_numbers.specs.Affine.{Affine, form_of}
use Rattle.affine_forms.specs.Parts.{variables_of}
use Rattle.loop_tree.specs.Tiling.{TileRow, Item, row, scalar, Items, Tiling, tiled}

-- a row: of each statement a form over the turns of the loops round it, and whether it is marked parallel
pub record PlanRow : Type 0 where
  pub forms : List Affine
  pub parallel : Bool

-- an item behind the first band: a row's forms, or a number for each statement
pub data PlanItem : Type 0 where
  rows : List Affine → PlanItem
  numbers : List ℕ → PlanItem

-- the scalars before the first row, the rows of the first band, the items behind it
pub record Plan : Type 0 where
  pub leading : List (List ℕ)
  pub band : List PlanRow
  pub behind : List PlanItem

-- the number and the form of statement k
abbrev pub number_of : List ℕ → ℕ → ℕ
number_of ns k = slice_index_or ns k 0

abbrev pub form_for : List Affine → ℕ → Affine
form_for forms k = slice_index_or forms k (form_of [] (pos 0))

-- statement k's items
abbrev pub leading_at : List (List ℕ) → ℕ → List ℕ
leading_at [] k = []
leading_at (ns ∷ rest) k = number_of ns k ∷ leading_at rest k

abbrev pub band_at : List PlanRow → ℕ → List TileRow
band_at [] k = []
band_at (r ∷ rs) k = record { form = form_for r.forms k; carries = not r.parallel } ∷ band_at rs k

abbrev pub behind_at : List PlanItem → ℕ → List Item
behind_at [] k = []
behind_at (rows forms ∷ rest) k = row (form_for forms k) ∷ behind_at rest k
behind_at (numbers ns ∷ rest) k = scalar (number_of ns k) ∷ behind_at rest k

abbrev pub items_for : Plan → ℕ → Items
items_for p k = record { leading = leading_at p.leading k; band = band_at p.band k; behind = behind_at p.behind k }

-- those of n statements, from statement k on
abbrev pub items_from : Plan → ℕ → ℕ → List Items
items_from p k zero = []
items_from p k (suc n) = items_for p k ∷ items_from p (suc k) n

-- the plan's tiling for n statements, by tiles of a size
abbrev pub tiling_of : ℕ → ℕ → Plan → Tiling
tiling_of size n p = tiled size (items_from p 0 n)

-- a row has a form for each statement, and this a coefficient for each loop round it
abbrev pub AreFor : List ℕ → List Affine → Type 0
AreFor loops forms = map variables_of forms ≡ loops

abbrev pub IsFor : List ℕ → PlanItem → Type 0
IsFor loops (rows forms) = AreFor loops forms
IsFor loops (numbers ns) = ⊤

-- so have all rows of a plan
pub record Suits (loops : List ℕ) (p : Plan) : Type 0 where
  pub band : All (λ r. AreFor loops r.forms) p.band
  pub behind : All (IsFor loops) p.behind

-- no number of a form is negative
pub record IsFormUp (f : Affine) : Type 0 where
  pub coefficients : All (λ z. pos 0 ≤ℤ z) f.coefficients
  pub constant : pos 0 ≤ℤ f.constant

abbrev pub AreUp : List Affine → Type 0
AreUp forms = All IsFormUp forms

abbrev pub IsItemUp : PlanItem → Type 0
IsItemUp (rows forms) = AreUp forms
IsItemUp (numbers ns) = ⊤

-- no number of a plan's rows is negative
pub record IsUp (p : Plan) : Type 0 where
  pub band : All (λ r. AreUp r.forms) p.band
  pub behind : All IsItemUp p.behind
