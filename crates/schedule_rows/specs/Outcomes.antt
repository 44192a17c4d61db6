-- What comes next in the determined run, step by step, with all ends.
use Rattle.std.specs.Prelude.{◌≡◌, ℕ, suc, ◌+◌, ◌<◌, ◌≤◌, Bool, true, List, [], ◌∷◌, ◌++◌, length, ◌⊎◌, ◌↔◌}
use Rattle.scop_syntax.specs.Members.{In}
use Rattle.stmt_graph.specs.Graph.{number_in}
use Rattle.schedule_rows.specs.Items.{Row, Marked, Block, scalar, band, closed_by}
use Rattle.iteration_domains.specs.Dependence.{Dependence}
use Rattle.schedule_rows.specs.Dependences.{IsEqualAt, edges_of}
use Rattle.stmt_graph.specs.Graph.{IsNumbering}
use Rattle.schedule_rows.specs.Posed.{IsFull, IsLeast, HasNone}
use Rattle.schedule_rows.specs.Next.{State, rows_of, Restricts, Uncuts, IsWithin, AreSingle}

-- what comes next: another state, the end, no row and nothing to cut, an order that fails at a component, a row that is
-- too large at an item
pub data Outcome : Type 0 where
  goes : State → Outcome
  ends : List Block → Outcome
  no_row : Outcome
  no_order : ℕ → Outcome
  large : ℕ → Outcome

-- the state of these parts
abbrev pub state : List Block → List Marked → List Dependence → State
state closed rows remaining = record { closed = closed; rows = rows; remaining = remaining }

-- how many items blocks are
abbrev pub items_in : List Block → ℕ
items_in [] = 0
items_in (scalar numbers ∷ bs) = suc (items_in bs)
items_in (band ms ∷ bs) = length ms + items_in bs

-- component k has two statements
abbrev pub IsShared : ℕ → List ℕ → ℕ → Type 0
IsShared n numbers k =
    (a : ℕ) × (b : ℕ) × (a < n) × (b < n) × (a ≡ b → ⊥) × (number_in numbers a ≡ k)
    × (number_in numbers b ≡ k)

-- full rank, dependences being left: the last scalar item, or NoOrder with the first component of two statements
abbrev pub Orders : List ℕ → List Block → List ℕ → Outcome → Type 0
Orders loops blocks numbers o =
    (AreSingle (length loops) numbers × (o ≡ ends (blocks ++ scalar numbers ∷ [])))
    ⊎ ((k : ℕ) × IsShared (length loops) numbers k × ((j : ℕ) → IsShared (length loops) numbers j → k ≤ j) ×
    (o ≡ no_order k))

-- full rank: the open band is closed, and what is left is ordered by a last scalar item
abbrev pub Finishes : ℕ → List ℕ → State → Outcome → Type 0
Finishes m loops s o =
    (left : List Dependence) × Restricts m s.rows s.remaining left
    × (((left ≡ []) × (o ≡ ends (closed_by s.closed s.rows)))
    ⊎ ((left ≡ [] → ⊥) × ((numbers : List ℕ) × IsNumbering (length loops) (edges_of left) numbers
    × Orders loops (closed_by s.closed s.rows) numbers o)))

-- the least row is appended, marked parallel exactly where it is; or it is too large
abbrev pub Takes : ℕ → State → Row → Outcome → Type 0
Takes m s r o =
    (IsWithin r × ((p : Bool) × ((p ≡ true) ↔ ((d : Dependence) → In d s.remaining → IsEqualAt m r d))
    × (o ≡ goes (state s.closed (s.rows ++ record { row = r; parallel = p } ∷ []) s.remaining))))
    ⊎ ((IsWithin r → ⊥) × (o ≡ large (suc (items_in s.closed + length s.rows))))

-- a scalar item, if that drops a dependence
abbrev pub Cutting : List ℕ → State → List ℕ → Outcome → Type 0
Cutting loops s numbers o =
    (kept : List Dependence) × Uncuts numbers s.remaining kept
    × (((length kept < length s.remaining) × (o ≡ goes (state (s.closed ++ scalar numbers ∷ []) [] kept)))
    ⊎ ((length s.remaining ≤ length kept) × (o ≡ no_row)))

-- no row: the open band is closed, or, where none is open, a scalar item cuts
abbrev pub Lacks : ℕ → List ℕ → State → Outcome → Type 0
Lacks m loops s o =
    ((s.rows ≡ [] → ⊥) × ((kept : List Dependence) × Restricts m s.rows s.remaining kept
    × (o ≡ goes (state (closed_by s.closed s.rows) [] kept))))
    ⊎ ((s.rows ≡ []) ×
    ((numbers : List ℕ) × IsNumbering (length loops) (edges_of s.remaining) numbers
    × Cutting loops s numbers o))

-- what comes next of a state: the end at full rank, else the least row, else no row
abbrev pub Next : ℕ → List ℕ → State → Outcome → Type 0
Next m loops s o =
    (IsFull loops (rows_of s) × Finishes m loops s o)
    ⊎ ((IsFull loops (rows_of s) → ⊥)
    × (((r : Row) × IsLeast m loops s.remaining (rows_of s) r × Takes m s r o)
    ⊎ (HasNone m loops s.remaining (rows_of s) × Lacks m loops s o)))

-- step by step from s through the states to the end
abbrev pub Runs : ℕ → List ℕ → State → List State → List Block → Type 0
Runs m loops s [] blocks = Next m loops s (ends blocks)
Runs m loops s (t ∷ ts) blocks = Next m loops s (goes t) × Runs m loops t ts blocks

-- the schedule of dependences: those with a point are taken up
pub record IsSchedule (m : ℕ) (loops : List ℕ) (deps : List Dependence) (blocks : List Block) : Type 0 where
  pub taken : List Dependence
  pub states : List State
  pub takes : Restricts m [] deps taken
  pub runs : Runs m loops (record { closed = []; rows = []; remaining = taken }) states blocks
