-- All goals of a plan, and those that are left where they are taken one by one.
use Rattle.std.specs.Prelude.{◌≡◌, ℕ, ◌+◌, ◌<◌, List, [], ◌∷◌, ◌++◌, All, drop, length, Option, Some, None}
use Rattle.std.specs.Prelude.{slice_index_or, ⊤}
use Rattle.std.specs.List.{flat_map}
use Rattle.iteration_domains.specs.Dependence.{Dependence}
use Rattle.plan_check.specs.Plans.{IsUp, Plan, Suits}
use Rattle.plan_check.specs.PlanView.{plan_of}
use Rattle.plan_check.specs.Goals.{goals_of, later_goals, restricted, row_goals}
use Rattle.plan_check.specs.declared.walk.Place.{Place}
use Rattle.plan_check.specs.declared.walk.Place.TheVariants as place
use Rattle.plan_check.specs.declared.walk.Rest.{Rest}
use Rattle.plan_check.specs.declared.walk.Walk.{Walk}

-- those of the band's rows from a place on, and of all behind them
abbrev pub band_goals_at : ℕ → Plan → Dependence → ℕ → List Dependence
band_goals_at m p d k = flat_map (row_goals m d) (drop k p.band) ++ later_goals m (restricted m d p.band) p.behind

-- the goals of a dependence from a place on
abbrev pub goals_at : ℕ → Plan → Dependence → Place → List Dependence
goals_at m p d (place.Band k) = band_goals_at m p d k
goals_at m p d (place.Rising k) = drop 1 (band_goals_at m p d k)
goals_at m p d (place.Behind k) = later_goals m d (drop k p.behind)
goals_at m p d place.Alone = d ∷ []
goals_at m p d place.Over = []

-- what is left of one dependence, then all of others
abbrev pub goals_left : ℕ → Plan → Option Walk → List Dependence → List Dependence
goals_left m p None deps = flat_map (goals_of m p) deps
goals_left m p (Some w) deps = goals_at m p w.dep w.place ++ flat_map (goals_of m p) deps

-- a plan suits a dependence with m parameters between statements that have so many loops
pub record CanGo (m : ℕ) (p : Plan) (d : Dependence) : Type 0 where
  pub loops : List ℕ
  pub suits : Suits loops p
  pub up : IsUp p
  pub first : d.source.statement < length loops
  pub second : d.target.statement < length loops
  pub source : slice_index_or loops d.source.statement 0 ≡ d.source.loops
  pub target : slice_index_or loops d.target.statement 0 ≡ d.target.loops
  pub dimensions : d.system.dimensions ≡ d.source.loops + d.target.loops
  pub parameters : d.system.parameters ≡ m

abbrev pub CanWalk : ℕ → Plan → Option Walk → Type 0
CanWalk m p None = ⊤
CanWalk m p (Some w) = CanGo m p w.dep

-- what the code keeps
pub record AreGoals (r : Rest) (walk : Option Walk) : Type 0 where
  pub walk_can : CanWalk r.parameters (plan_of r.plan) walk
  pub deps_can : All (CanGo r.parameters (plan_of r.plan)) r.deps.items

-- all goals of a plan, and those that are left
pub record Listed : Type 0 where
  pub all : List Dependence
  pub left : List Dependence

-- the goals of a plan, where one dependence is in hand or none
abbrev pub listed : Rest → Option Walk → Listed
listed r walk =
    record {
      all = flat_map (goals_of r.parameters (plan_of r.plan)) r.deps.items;
      left = goals_left r.parameters (plan_of r.plan) walk (drop r.taken r.deps.items);
    }

-- all of them are left
pub record AreAll (goals : List Dependence) (l : Listed) : Type 0 where
  pub all : l.all ≡ goals
  pub left : l.left ≡ goals
