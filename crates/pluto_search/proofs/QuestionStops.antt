-- What a stop of a question tells.
use Rattle.scop_syntax.proofs.Common.{ℕ, List, Err, inl, inr, sym, subst}
use Rattle.integer_sets.specs.Constraints.{Constraints}
use Rattle.iteration_domains.specs.Dependence.{Dependence}
use Rattle.pip_solver.specs.declared.stop.Stop.TheVariants as solver
use Rattle.pluto_systems.specs.FmStop.TheVariants as fm
use Rattle.pluto_systems.specs.Stuck.TheVariants as stuck
use Rattle.schedule_rows.specs.Next.{State}
use Rattle.pluto_search.specs.declared.kept.Kept.TheVariants as kept
use Rattle.pluto_search.specs.declared.state.Search.{Search}
use Rattle.pip_solver.specs.Minimum.{Minimizes}
use Rattle.pluto_search.specs.Questions.{StopsRows, StopsMinimum, AsksFirst, Answered, AnswersAt, StopsAt}
use Rattle.pluto_search.specs.Searching.{Keeps}
use Rattle.pluto_search.specs.steps.Steps.{KeepsAt}
use Rattle.pluto_search.specs.steps.StepParts.{IsLarge}
use Rattle.schedule_rows.specs.Outcomes.{large, Next}
use Rattle.pluto_search.specs.steps.Stopping.{kept_by_solver, kept_by_rows, IsStop}

pub minimum_stops : (budget : ℕ) (s : Constraints) (stop : solver.the_data) → Minimizes (Err stop) budget s
    → IsStop (StopsMinimum budget s) (kept_by_solver stop)
minimum_stops budget s (solver.Wide posed moves) h = (tt, h)
minimum_stops budget s (solver.Spent posed moves) h = (tt, h)
minimum_stops budget s solver.NoMemory h = tt

pub rows_stop : (budget : ℕ) (d : Dependence) (stop : stuck.the_data) → StopsRows budget d stop
    → IsStop (StopsRows budget d) (kept_by_rows stop)
rows_stop budget d (stuck.Solver (solver.Wide posed moves)) h = (tt, h)
rows_stop budget d (stuck.Solver (solver.Spent posed moves)) h = (tt, h)
rows_stop budget d (stuck.Solver solver.NoMemory) h = absurd h
rows_stop budget d (stuck.Elimination (fm.Wide w)) h = (tt, h)
rows_stop budget d (stuck.Elimination (fm.Crowded pairs)) h = (tt, h)
rows_stop budget d (stuck.Elimination (fm.Large number)) h = absurd h
rows_stop budget d (stuck.Elimination fm.NoMemory) h = absurd h
rows_stop budget d stuck.NoMemory h = tt

-- another question that stops so too
pub stop_of : (P Q : stuck.the_data → Type 0) (k : kept.the_data) → ((stop : stuck.the_data) → P stop → Q stop)
    → IsStop P k → IsStop Q k
stop_of P Q (kept.Stuck stop) f h = (h.0, f stop h.1)
stop_of P Q (kept.NoRow posed) f h = absurd h
stop_of P Q (kept.NoOrder component) f h = absurd h
stop_of P Q kept.NoMemory f h = tt
stop_of P Q (kept.Large row) f h = absurd h

-- a question that is asked at a state
pub stop_at : (g : Search) (s : State) (k : kept.the_data)
    → IsStop (StopsAt g.parameters g.loops.now g.budget s) k → KeepsAt g s k
stop_at g s (kept.Stuck stop) h = h
stop_at g s (kept.NoRow posed) h = absurd h
stop_at g s (kept.NoOrder component) h = absurd h
stop_at g s kept.NoMemory h = tt
stop_at g s (kept.Large row) h = absurd h

-- at the first
pub stop_first : (g : Search) (deps : List Dependence) (k : kept.the_data) → IsStop (AsksFirst g.budget deps) k
    → Keeps g.parameters g.loops.now deps g.budget k
stop_first g deps (kept.Stuck stop) h = (h.0, inl h.1)
stop_first g deps (kept.NoRow posed) h = absurd h
stop_first g deps (kept.NoOrder component) h = absurd h
stop_first g deps kept.NoMemory h = tt
stop_first g deps (kept.Large row) h = absurd h

-- what keeps the order behind a state that is reached
pub keeps : (g : Search) (deps : List Dependence) (s : State) (k : kept.the_data)
    → Answered g.parameters g.loops.now g.budget deps s → KeepsAt g s k
    → Keeps g.parameters g.loops.now deps g.budget k
keeps g deps s (kept.Stuck stop) r h = (h.0, inr (s, r, h.1))
keeps g deps s (kept.NoRow posed) r h = (s, r, h.0, h.1, h.2)
keeps g deps s (kept.NoOrder component) r h =
    record { last = s; answered = r; own = h.0; next = h.1 }
keeps g deps s kept.NoMemory r h = tt
keeps g deps s (kept.Large row) r h = record { last = s; answered = r; own = h.0; next = h.1 }

-- a row that is too large
pub large_keeps : (g : Search) (s : State) (n : ℕ) (k : kept.the_data) → IsLarge n k
    → AnswersAt g.parameters g.loops.now g.budget s → Next g.parameters g.loops.now s (large n) → KeepsAt g s k
large_keeps g s n (kept.Stuck stop) h a x = absurd h
large_keeps g s n (kept.NoRow posed) h a x = absurd h
large_keeps g s n (kept.NoOrder component) h a x = absurd h
large_keeps g s n kept.NoMemory h a x = tt
large_keeps g s n (kept.Large row) h a x =
    (a, subst (λ (z : ℕ). Next g.parameters g.loops.now s (large z)) (sym h) x)
