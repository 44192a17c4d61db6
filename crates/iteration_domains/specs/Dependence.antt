-- A dependence as plain data.
use Rattle.std.specs.Prelude.{◌≡◌, ℕ, ◌+◌, ◌-◌, ◌≤◌}
use Rattle.integer_sets.specs.Constraints.{Constraints}
use Rattle.iteration_domains.specs.declared.dep.DepEnd.{DepEnd}

-- its ends, its depth, and the system over the source's turns, the target's, quotients that are bound behind them, and
-- the parameters
pub record Dependence : Type 0 where
  pub source : DepEnd
  pub target : DepEnd
  pub depth : ℕ
  pub system : Constraints

-- two ends at one statement have one number of loops
abbrev pub IsOne : DepEnd → DepEnd → Type 0
IsOne source target = source.statement ≡ target.statement → source.loops ≡ target.loops

-- how many quotients are bound behind the turns of two ends
abbrev pub binds_between : DepEnd → DepEnd → Constraints → ℕ
binds_between source target system = system.dimensions - (source.loops + target.loops)

-- those of a dependence
abbrev pub binds_in : Dependence → ℕ
binds_in dep = binds_between dep.source dep.target dep.system

-- the system has a dimension for each turn of the source and of the target; those behind them are bound quotients
pub record IsDependence (dep : Dependence) : Type 0 where
  pub turns : dep.source.loops + dep.target.loops ≤ dep.system.dimensions
  pub one : IsOne dep.source dep.target

-- the dependence of these parts
abbrev pub dependence : DepEnd → DepEnd → ℕ → Constraints → Dependence
dependence source target depth system =
    record { source = source; target = target; depth = depth; system = system }
