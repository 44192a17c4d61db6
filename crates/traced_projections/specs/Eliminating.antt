-- Eliminations that form no row of too many first rows: behind k eliminations by pairs, over fractions, a row made of
-- more than k + 1 of the first rows says nothing that the others do not (S. N. Chernikov 1960; D. A. Kohler, Projections
-- of convex polyhedral sets, 1967).
use Rattle.std.specs.Prelude.{◌≡◌, ℕ, ◌+◌, ◌-◌, ◌*◌, ◌<◌, ◌≤◌, if◌then◌else◌, nat_le, List, [], ◌∷◌, ◌++◌, length, map}
use Rattle.std.specs.Prelude.{All, Option, Some, None, Result, Ok, Err, ◌⊎◌, ⊤, bit_or, count_ones}
use Rattle.whole_numbers.specs.Affine.{Affine}
use Rattle.fractions.specs.Elimination.{coefficient_of, is_zero}
use Rattle.integer_sets.specs.Constraints.{Constraints, system_of}
use Rattle.fm_projection.specs.declared.stop.FmStop.{FmStop}
use Rattle.fm_projection.specs.declared.stop.FmStop.TheVariants as fm
use Rattle.fm_projection.specs.Gives.{Eliminates}
use Rattle.fm_projection.specs.Projecting.{Passes, gone}
use Rattle.traced_projections.specs.declared.rows.Sign.TheVariants.{Zero, NotZero, Positive, Negative}
use Rattle.traced_projections.specs.Tracing.{Row, Tracing, row_of, signed, tracing, with_row}

-- constraints of which the elimination makes a row, and of which of the first rows it is then made
pub record Source : Type 0 where
  pub system : Constraints
  pub history : ℕ

-- a row with some of the equalities
abbrev pub single : Tracing → List Affine → Row → Source
single t es r =
    record { system = system_of t.dimensions t.parameters es (r.form ∷ []); history = r.history }

-- two rows
abbrev pub pair : Tracing → Row → Row → Source
pair t p n =
    record {
      system = system_of t.dimensions t.parameters [] (p.form ∷ n.form ∷ []);
      history = bit_or p.history n.history;
    }

-- in front of others, if it is made of so many first rows at most
abbrev pub if_few : ℕ → Source → List Source → List Source
if_few most s ss = if nat_le (count_ones s.history) most then s ∷ ss else ss

-- a row with each of others
abbrev pub pairs_with : Tracing → ℕ → Row → List Row → List Source
pairs_with t most p [] = []
pairs_with t most p (n ∷ ns) = if_few most (pair t p n) (pairs_with t most p ns)

-- each row with each
abbrev pub pairs : Tracing → ℕ → List Row → List Row → List Source
pairs t most [] ns = []
pairs t most (p ∷ ps) ns = pairs_with t most p ns ++ pairs t most ps ns

-- the first equality with variable i
abbrev pub first_equality : ℕ → List Affine → Option Affine
first_equality i [] = None
first_equality i (f ∷ fs) = if is_zero (coefficient_of i f) then first_equality i fs else Some f

-- the rows that have the dimension: each with that equality where there is one, else in pairs
abbrev pub sources_by : Option Affine → ℕ → Tracing → List Source
sources_by (Some e) i t = map (single t (e ∷ [])) (signed NotZero i t.rows)
sources_by None i t = pairs t (t.pairings + 2) (signed Positive i t.rows) (signed Negative i t.rows)

-- of what the new rows are made: those without the dimension first
abbrev pub sources_with : Option Affine → ℕ → Tracing → List Source
sources_with e i t = map (single t []) (signed Zero i t.rows) ++ sources_by e i t

abbrev pub sources : ℕ → Tracing → List Source
sources i t = sources_with (first_equality i t.equalities) i t

-- how many pairs there are
abbrev pub pairs_by : Option Affine → ℕ → Tracing → ℕ
pairs_by (Some e) i t = 0
pairs_by None i t = length (signed Positive i t.rows) * length (signed Negative i t.rows)

abbrev pub pairs_of : ℕ → Tracing → ℕ
pairs_of i t = pairs_by (first_equality i t.equalities) i t

-- how many eliminations by pairs there are then
abbrev pub pairings_by : Option Affine → ℕ → ℕ
pairings_by (Some e) k = k
pairings_by None k = k + 1

-- also the row that is left, if there is one
abbrev pub with_left : List Row → List Affine → ℕ → List Row
with_left rows [] h = rows
with_left rows (f ∷ fs) h = with_row rows (row_of f h)

-- also what the elimination of dimension i leaves of each source
abbrev pub with_sources : ℕ → List Row → List Source → List Row
with_sources i rows [] = rows
with_sources i rows (s ∷ ss) = with_sources i (with_left rows (gone i s.system).rows s.history) ss

-- the equalities alone
abbrev pub frame_of : Tracing → Constraints
frame_of t = system_of t.dimensions t.parameters t.equalities []

-- dimension i and its column gone
abbrev pub traced_gone : ℕ → Tracing → Tracing
traced_gone i t =
    tracing (t.dimensions - 1) t.parameters (gone i (frame_of t)).equalities (with_sources i [] (sources i t))
    (pairings_by (first_equality i t.equalities) t.pairings)

-- the elimination from each source passes
abbrev pub PassAll : ℕ → List Source → Type 0
PassAll i ss = All (λ (s : Source). Passes i s.system) ss

-- the first of these eliminations that stops does so
abbrev pub FirstStops : ℕ → List Source → FmStop → Type 0
FirstStops i [] stop = ⊥
FirstStops i (s ∷ ss) stop = Eliminates i s.system (Err stop) ⊎ (Passes i s.system × FirstStops i ss stop)

-- the eliminations of dimension i that a step is: of the equalities, and then from each source
abbrev pub steps_of : ℕ → Tracing → List Source
steps_of i t = record { system = frame_of t; history = 0 } ∷ sources i t

abbrev pub PassesTraced : ℕ → Tracing → Type 0
PassesTraced i t = (pairs_of i t ≤ 4096) × PassAll i (steps_of i t)

-- there are more than 4,096 pairs, or else the first step that stops does so
abbrev pub StopsTraced : ℕ → Tracing → FmStop → Type 0
StopsTraced i t stop =
    ((4096 < pairs_of i t) × (stop ≡ fm.Crowded (pairs_of i t)))
    ⊎ ((pairs_of i t ≤ 4096) × FirstStops i (steps_of i t) stop)

-- a call stops so; want of memory is free
abbrev pub Halts : (FmStop → Type 0) → FmStop → Type 0
Halts P (fm.Wide w) = P (fm.Wide w)
Halts P (fm.Crowded pairs) = P (fm.Crowded pairs)
Halts P (fm.Large number) = ⊥
Halts P fm.NoMemory = ⊤

-- the rows gain what the sources leave, or the first that stops does so
abbrev pub Adds : ℕ → List Source → List Row → List Row → Result (Unit {0}) FmStop → Type 0
Adds i ss old new (Ok _) = PassAll i ss × (new ≡ with_sources i old ss)
Adds i ss old new (Err stop) = Halts (FirstStops i ss) stop

-- the call eliminates the dimension, or stops as the elimination does
abbrev pub DropsTraced : ℕ → Tracing → Result Tracing FmStop → Type 0
DropsTraced i t (Ok u) = PassesTraced i t × (u ≡ traced_gone i t)
DropsTraced i t (Err stop) = Halts (StopsTraced i t) stop
