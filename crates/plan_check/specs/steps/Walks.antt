-- What the code's steps over the goals of a plan ask for and find.
use Rattle.std.specs.Prelude.{◌≡◌, ℕ, ◌<◌, List, [], ◌∷◌, ◌++◌, drop, length, Option, Some, None}
use Rattle.whole_numbers.specs.Affine.{Affine, complement}
use Rattle.affine_forms.specs.Parts.{variables_of}
use Rattle.integer_sets.specs.Constraints.{variables_in}
use Rattle.iteration_domains.specs.Dependence.{Dependence}
use Rattle.plan_check.specs.Plans.{IsFormUp, Plan, form_for}
use Rattle.plan_check.specs.Goals.{above, difference}
use Rattle.plan_check.specs.declared.walk.Found.{Found}
use Rattle.plan_check.specs.declared.walk.Taken.{Taken}
use Rattle.plan_check.specs.GoalList.{goals_at, goals_left, CanGo}

-- and so does a row of it
pub record FitsRow (m : ℕ) (d : Dependence) (forms : List Affine) : Type 0 where
  pub first : d.source.statement < length forms
  pub second : d.target.statement < length forms
  pub first_up : IsFormUp (form_for forms d.source.statement)
  pub second_up : IsFormUp (form_for forms d.target.statement)
  pub equal_sized : variables_of (difference m d forms) ≡ variables_in d.system
  pub falling_sized : variables_of (complement (difference m d forms)) ≡ variables_in d.system
  pub rising_sized : variables_of (above (difference m d forms)) ≡ variables_in d.system

-- a dependence with other rows, and with rows behind its own
abbrev pub with_rows : Dependence → List Affine → Dependence
with_rows d rs = record d { system = record d.system { rows = rs } }

abbrev pub rows_behind : Dependence → List Affine → Dependence
rows_behind d rs = with_rows d (d.system.rows ++ rs)

-- the first of some goals of a dependence was found, if there is one, and what is left behind it
abbrev pub Finds : ℕ → Plan → List Dependence → Option Found → Type 0
Finds m p goals None = goals ≡ []
Finds m p goals (Some f) =
    (goals ≡ f.goal ∷ goals_at m p f.walk.dep f.walk.place) × CanGo m p f.walk.dep

-- the first of some goals of dependences was found, if there is one, and what is left behind it
abbrev pub FindsNext : ℕ → Plan → List Dependence → List Dependence → Option Taken → Type 0
FindsNext m p deps goals None = goals ≡ []
FindsNext m p deps goals (Some t) =
    (goals ≡ t.found.goal ∷ goals_left m p (Some t.found.walk) (drop t.taken deps)) × CanGo m p t.found.walk.dep
