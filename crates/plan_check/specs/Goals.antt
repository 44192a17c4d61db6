-- The goals of a dependence under a plan: systems none of which may have a whole point.
use Rattle.std.specs.Prelude.{ℕ, zero, suc, ◌+◌, nat_lt, if◌then◌else◌, ℤ, pos, negsuc}
use Rattle.std.specs.Prelude.{◌+ℤ◌, ◌-ℤ◌, List, [], ◌∷◌, ◌++◌, map, set}
use Rattle.std.specs.List.{flat_map}
use Rattle.whole_numbers.specs.Affine.{Affine, form_of, complement, multiple_of_form}
use Rattle.whole_numbers.specs.Lists.{multiples, zeros}
use Rattle.integer_sets.specs.Constraints.{IsSized, variables_in}
use Rattle.integer_sets.specs.Points.{Satisfies}
use Rattle.scop_syntax.specs.Limits.{most_parameter}
use Rattle.iteration_domains.specs.Dependence.{Dependence}
use Rattle.iteration_domains.specs.Restrictions.{equality_behind, row_behind}
use Rattle.iteration_domains.specs.Model.{KernelModel}
use Rattle.conflict_deps.specs.Conflicts.{conflicts_of}
use Rattle.plan_check.specs.Plans.{PlanRow, PlanItem, rows, numbers, Plan, number_of, form_for}

-- the second form less the first, over the turns of both and m parameters
abbrev pub apart : ℕ → Affine → Affine → Affine
apart m f g = form_of (multiples (negsuc 0) f.coefficients ++ (g.coefficients ++ zeros m)) (g.constant -ℤ f.constant)

-- how much later a row comes at the target than at the source: phi_T - phi_S
abbrev pub difference : ℕ → Dependence → List Affine → Affine
difference m d forms = apart m (form_for forms d.source.statement) (form_for forms d.target.statement)

-- it is at least 1
abbrev pub above : Affine → Affine
above f = form_of f.coefficients (f.constant +ℤ negsuc 0)

-- no parameter is above the greatest: that less p, of n variables, for k parameters from variable j on
abbrev pub upper_rows : ℕ → ℕ → ℕ → List Affine
upper_rows n j zero = []
upper_rows n j (suc k) = form_of (set (zeros n) j (negsuc 0)) (pos most_parameter) ∷ upper_rows n (suc j) k

-- a dependence at parameters in range
abbrev pub bounded : ℕ → Dependence → Dependence
bounded m d =
    record d {
      system = record d.system {
        rows = d.system.rows ++ upper_rows (d.system.dimensions + m) d.system.dimensions m;
      };
    }

-- a row of the first band may not fall, and if it is marked parallel not rise
abbrev pub row_goals : ℕ → Dependence → PlanRow → List Dependence
row_goals m d r =
    row_behind d (complement (difference m d r.forms))
    ∷ (if r.parallel then row_behind d (above (difference m d r.forms)) ∷ [] else [])

-- a later row may not fall where all before it are equal, a later number neither; at the end nothing may be left
abbrev pub later_goals : ℕ → Dependence → List PlanItem → List Dependence
later_goals m d [] = d ∷ []
later_goals m d (rows forms ∷ items) =
    row_behind d (complement (difference m d forms))
    ∷ later_goals m (equality_behind d (difference m d forms)) items
later_goals m d (numbers ns ∷ items) =
    if nat_lt (number_of ns d.source.statement) (number_of ns d.target.statement) then []
    else if nat_lt (number_of ns d.target.statement) (number_of ns d.source.statement)
    then d ∷ later_goals m d items
    else later_goals m d items

-- where all rows of a band are equal
abbrev pub restricted : ℕ → Dependence → List PlanRow → Dependence
restricted m d [] = d
restricted m d (r ∷ rs) = restricted m (equality_behind d (difference m d r.forms)) rs

-- of the first band's rows, then of all behind them
abbrev pub band_goals : ℕ → Dependence → Plan → List Dependence
band_goals m d p = flat_map (row_goals m d) p.band ++ later_goals m (restricted m d p.band) p.behind

-- the leading numbers are compared at their first difference
abbrev pub leading_goals : Dependence → List (List ℕ) → List Dependence → List Dependence
leading_goals d [] goals = goals
leading_goals d (ns ∷ rest) goals =
    if nat_lt (number_of ns d.source.statement) (number_of ns d.target.statement) then []
    else if nat_lt (number_of ns d.target.statement) (number_of ns d.source.statement) then d ∷ []
    else leading_goals d rest goals

-- the goals of a dependence, and of all of a model's conflicts, in order
abbrev pub goals_of : ℕ → Plan → Dependence → List Dependence
goals_of m p d = leading_goals (bounded m d) p.leading (band_goals m (bounded m d) p)

abbrev pub goals_in : KernelModel → Plan → List Dependence
goals_in model p = flat_map (goals_of model.parameters p) (conflicts_of model)

-- no whole point satisfies the goal
abbrev pub HasNoPoint : Dependence → Type 0
HasNoPoint d = (point : List ℤ) → Satisfies d.system point → ⊥

-- how many loops stand round each statement
abbrev pub loops_in : KernelModel → List ℕ
loops_in model = map (λ s. s.domain.dimensions) model.statements

-- an equality is two rows: the form, and its opposite
abbrev pub both_ways : List Affine → List Affine
both_ways [] = []
both_ways (e ∷ es) = e ∷ multiple_of_form (negsuc 0) e ∷ both_ways es

-- the rows of a goal, numbered from 1: its equalities, each as two rows, then its other rows
abbrev pub rows_of_goal : Dependence → List Affine
rows_of_goal d = both_ways d.system.equalities ++ d.system.rows

-- all forms of a goal are over its variables
abbrev pub IsSizedGoal : Dependence → Type 0
IsSizedGoal d = IsSized (variables_in d.system) d.system.equalities d.system.rows
