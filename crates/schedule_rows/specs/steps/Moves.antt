-- A state and what comes next, as lemmas take it apart.
use Rattle.std.specs.Prelude.{◌≡◌, ℕ, ◌<◌, true, List, [], ◌∷◌, ◌++◌, length, ◌⊎◌, ◌↔◌}
use Rattle.scop_syntax.specs.Members.{In}
use Rattle.stmt_graph.specs.Graph.{IsNumbering}
use Rattle.iteration_domains.specs.Dependence.{Dependence}
use Rattle.schedule_rows.specs.Items.{Marked, Block, scalar, closed_by}
use Rattle.schedule_rows.specs.Dependences.{IsEqualAt, edges_of}
use Rattle.schedule_rows.specs.Posed.{IsFull, IsLeast, HasNone}
use Rattle.schedule_rows.specs.Next.{State, rows_of, Restricts, Uncuts, IsWithin, AreSingle}

-- the least row is appended to the open band; it is marked parallel exactly where it is
pub record Appends (m : ℕ) (loops : List ℕ) (s t : State) : Type 0 where
  pub row : Marked
  pub more : IsFull loops (rows_of s) → ⊥
  pub least : IsLeast m loops s.remaining (rows_of s) row.row
  pub within : IsWithin row.row
  pub parallel : (row.parallel ≡ true) ↔ ((d : Dependence) → In d s.remaining → IsEqualAt m row.row d)
  pub closed : t.closed ≡ s.closed
  pub rows : t.rows ≡ s.rows ++ row ∷ []
  pub remaining : t.remaining ≡ s.remaining

-- the band is closed
pub record Closes (m : ℕ) (loops : List ℕ) (s t : State) : Type 0 where
  pub more : IsFull loops (rows_of s) → ⊥
  pub none : HasNone m loops s.remaining (rows_of s)
  pub some : s.rows ≡ [] → ⊥
  pub closed : t.closed ≡ closed_by s.closed s.rows
  pub rows : t.rows ≡ []
  pub remaining : Restricts m s.rows s.remaining t.remaining

-- a scalar item
pub record Cuts (m : ℕ) (loops : List ℕ) (s t : State) : Type 0 where
  pub numbers : List ℕ
  pub more : IsFull loops (rows_of s) → ⊥
  pub none : HasNone m loops s.remaining (rows_of s)
  pub empty : s.rows ≡ []
  pub numbering : IsNumbering (length loops) (edges_of s.remaining) numbers
  pub closed : t.closed ≡ s.closed ++ scalar numbers ∷ []
  pub rows : t.rows ≡ []
  pub remaining : Uncuts numbers s.remaining t.remaining
  pub fewer : length t.remaining < length s.remaining

-- a step that is no end
abbrev pub Goes : ℕ → List ℕ → State → State → Type 0
Goes m loops s t = Appends m loops s t ⊎ (Closes m loops s t ⊎ Cuts m loops s t)

-- the end, with nothing left, or with a last scalar item
pub record EndsBare (m : ℕ) (loops : List ℕ) (s : State) (blocks : List Block) : Type 0 where
  pub full : IsFull loops (rows_of s)
  pub remaining : Restricts m s.rows s.remaining []
  pub blocks_are : blocks ≡ closed_by s.closed s.rows

-- with a last scalar item, which orders what is left
pub record EndsOrdered (m : ℕ) (loops : List ℕ) (s : State) (blocks : List Block) : Type 0 where
  pub left : List Dependence
  pub numbers : List ℕ
  pub full : IsFull loops (rows_of s)
  pub remaining : Restricts m s.rows s.remaining left
  pub some : left ≡ [] → ⊥
  pub numbering : IsNumbering (length loops) (edges_of left) numbers
  pub single : AreSingle (length loops) numbers
  pub blocks_are : blocks ≡ closed_by s.closed s.rows ++ scalar numbers ∷ []

-- either end
abbrev pub Ends : ℕ → List ℕ → State → List Block → Type 0
Ends m loops s blocks = EndsBare m loops s blocks ⊎ EndsOrdered m loops s blocks
