-- What the parts of a step say.
use Rattle.std.specs.Prelude.{◌≡◌, ℕ, ◌<◌, ◌≤◌, Bool, List, [], ◌∷◌}
use Rattle.std.specs.Prelude.{◌++◌, map, length, All, ◌⊎◌, Vec, Result, Ok, Err, ⊤}
use Rattle.std.specs.Global.{Global}
use Rattle.integer_sets.specs.Constraints.{Constraints}
use Rattle.iteration_domains.specs.Dependence.{Dependence}
use Rattle.stmt_graph.specs.Graph.{IsNumbering}
use Rattle.schedule_rows.specs.Items.{Block, scalar, closed_by}
use Rattle.schedule_rows.specs.Dependences.{edges_of}
use Rattle.schedule_rows.specs.Next.{Restricts, Uncuts}
use Rattle.schedule_rows.specs.Outcomes.{Outcome, ends, no_order, Orders}
use Rattle.schedule_rows.specs.Schedule.{block_of}
use Rattle.schedule_rows.specs.declared.item.Block.TheVariants as code_block
use Rattle.schedule_rows.specs.declared.item.Part as code_part
use Rattle.schedule_rows.specs.declared.item.Row as code_row
use Rattle.pluto_systems.specs.Unknowns.{Part}
use Rattle.pluto_search.specs.steps.Steps.{AreRules, state_of}
use Rattle.pluto_search.specs.declared.state.Progress.{Progress}
use Rattle.pluto_search.specs.declared.kept.Kept.TheVariants as kept

-- what the code's parts of a row stand for
abbrev pub parts_of : List code_part.Part → List Part
parts_of ps = map (λ p. record { coefficients = p.coefficients.items; shift = p.shift }) ps

-- both statements of each dependence are among n
abbrev pub AreWithin : ℕ → List Dependence → Type 0
AreWithin n deps = All (λ d. (d.source.statement < n) × (d.target.statement < n)) deps

-- an end behind these blocks, where these dependences are left
abbrev pub EndsWith : List ℕ → List Block → List Dependence → Outcome → Type 0
EndsWith loops blocks left o =
    ((left ≡ []) × (o ≡ ends blocks))
    ⊎ ((left ≡ [] → ⊥) × ((numbers : List ℕ) × IsNumbering (length loops) (edges_of left) numbers
    × Orders loops blocks numbers o))

-- the end, or that what is left has no order
abbrev pub Ended : List ℕ → List Block → List Dependence → Result (Vec code_block.the_data Global) kept.the_data
    → Type 0
Ended loops blocks left (Ok bs) = EndsWith loops blocks left (ends (map block_of bs.items))
Ended loops blocks left (Err (kept.Stuck stuck)) = ⊥
Ended loops blocks left (Err (kept.NoRow posed)) = ⊥
Ended loops blocks left (Err (kept.NoOrder component)) = EndsWith loops blocks left (no_order component)
Ended loops blocks left (Err kept.NoMemory) = ⊤
Ended loops blocks left (Err (kept.Large row)) = ⊥

-- the band is closed
pub record IsClosed (p q : Progress) : Type 0 where
  pub search : q.search.now ≡ p.search.now
  pub closed_are : map block_of q.closed.items ≡ closed_by (state_of p).closed (state_of p).rows
  pub none_open : q.rows.items ≡ []
  pub none_ruled : q.ruled.items ≡ []
  pub bare : Restricts p.search.now.parameters (state_of p).rows (state_of p).remaining q.bare.items

-- a scalar item stands behind the blocks and drops dependences
pub record IsCut (p : Progress) (deps : List Dependence) (q : Progress) : Type 0 where
  pub search : q.search.now ≡ p.search.now
  pub numbers : List ℕ
  pub numbering : IsNumbering (length p.search.now.loops.now) (edges_of deps) numbers
  pub closed_are : map block_of q.closed.items ≡ (state_of p).closed ++ scalar numbers ∷ []
  pub none_open : q.rows.items ≡ []
  pub none_ruled : q.ruled.items ≡ []
  pub bare : Uncuts numbers deps q.bare.items
  pub fewer : length q.bare.items < length deps

-- no scalar item drops dependences
pub record DropsNone (loops : List ℕ) (deps : List Dependence) : Type 0 where
  pub numbers : List ℕ
  pub numbering : IsNumbering (length loops) (edges_of deps) numbers
  pub kept : List Dependence
  pub uncuts : Uncuts numbers deps kept
  pub all : length deps ≤ length kept

-- the one or the other, with the posed set that is told
abbrev pub Cuts : Progress → List Dependence → Constraints → Result Progress kept.the_data → Type 0
Cuts p deps posed (Ok q) = IsCut p deps q
Cuts p deps posed (Err (kept.Stuck stuck)) = ⊥
Cuts p deps posed (Err (kept.NoRow told)) = (told ≡ posed) × DropsNone p.search.now.loops.now deps
Cuts p deps posed (Err (kept.NoOrder component)) = ⊥
Cuts p deps posed (Err kept.NoMemory) = ⊤
Cuts p deps posed (Err (kept.Large row)) = ⊥

-- item n is too large
abbrev pub IsLarge : ℕ → kept.the_data → Type 0
IsLarge n (kept.Stuck stuck) = ⊥
IsLarge n (kept.NoRow posed) = ⊥
IsLarge n (kept.NoOrder component) = ⊥
IsLarge n kept.NoMemory = ⊤
IsLarge n (kept.Large row) = row ≡ n

-- the same state, where all dependences that remain have their rows
pub record HasAllRows (p q : Progress) : Type 0 where
  pub search : q.search.now ≡ p.search.now
  pub same : state_of q ≡ state_of p
  pub none_bare : q.bare.items ≡ []
  pub rules : AreRules p.search.now.budget p.ruled.items → AreRules p.search.now.budget q.ruled.items

-- a row with its mark is appended to the open band
pub record IsAppended (p : Progress) (row : code_row.Row) (parallel : Bool) (q : Progress) : Type 0 where
  pub search : q.search.now ≡ p.search.now
  pub closed : q.closed.items ≡ p.closed.items
  pub rows : q.rows.items ≡ p.rows.items ++ record { row = row; parallel = parallel } ∷ []
  pub ruled : q.ruled.items ≡ p.ruled.items
  pub bare : q.bare.items ≡ p.bare.items
