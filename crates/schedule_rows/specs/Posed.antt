-- The posed set of a next row and its least point.
use Rattle.std.specs.Prelude.{◌≡◌, ℕ, ◌<◌, ℤ, List, [], ◌++◌, length, map, slice_index_or}
use Rattle.std.specs.Prelude.{◌⊎◌}
use Rattle.whole_numbers.specs.Lexicographic.{LexLess}
use Rattle.fractions.specs.Farkas.{AreNotNegative, HasFarkas, two_rows}
use Rattle.scop_syntax.specs.Members.{In}
use Rattle.schedule_rows.specs.Items.{Row, part_of, numbers_of}
use Rattle.iteration_domains.specs.Dependence.{Dependence, binds_in}
use Rattle.farkas.specs.Claims.{distance, slack}
use Rattle.schedule_rows.specs.Dependences.{unknowns_of}
use Rattle.null_space.specs.Narrowing.{kernel_vectors, Grows}

-- legality and bounding by Farkas's identity over the dependence's rows
abbrev pub IsLegal : ℕ → Row → Dependence → Type 0
IsLegal m r d = HasFarkas (two_rows d.system.equalities ++ d.system.rows) (distance (binds_in d) m (unknowns_of d r))

-- the same of the bound of its distances
abbrev pub IsBounded : Row → Dependence → Type 0
IsBounded r d = HasFarkas (two_rows d.system.equalities ++ d.system.rows) (slack (binds_in d) (unknowns_of d r))

-- how many loops a statement has
abbrev pub loops_of : List ℕ → ℕ → ℕ
loops_of loops s = slice_index_or loops s 0

-- statement s's coefficients in each row
abbrev pub coefficients_in : List Row → ℕ → List (List ℤ)
coefficients_in rows s = map (λ r. (part_of r s).coefficients) rows

-- the kernel vectors of statement s's coefficients
abbrev pub vectors_of : List ℕ → List Row → ℕ → List (List ℤ)
vectors_of loops rows s = kernel_vectors (loops_of loops s) (coefficients_in rows s)

-- no statement has a kernel vector left
abbrev pub IsFull : List ℕ → List Row → Type 0
IsFull loops rows = (s : ℕ) → s < length loops → vectors_of loops rows s ≡ []

-- the row is a point of the posed set of m parameters, statements of these numbers of loops, remaining dependences and
-- the rows before it
pub record IsPosed (m : ℕ) (loops : List ℕ) (deps : List Dependence) (before : List Row)
    (r : Row) : Type 0 where
  pub bounds : length r.u ≡ m
  pub statements : length r.parts ≡ length loops
  pub sized : (s : ℕ) → length (part_of r s).coefficients ≡ loops_of loops s
  pub not_negative : AreNotNegative (numbers_of r)
  pub legal : (d : Dependence) → In d deps → IsLegal m r d
  pub bounded : (d : Dependence) → In d deps → IsBounded r d
  pub grows : (s : ℕ) → s < length loops
      → (vectors_of loops before s ≡ []) ⊎ Grows (part_of r s).coefficients (vectors_of loops before s)

-- it is the least
pub record IsLeast (m : ℕ) (loops : List ℕ) (deps : List Dependence) (before : List Row)
    (r : Row) : Type 0 where
  pub posed : IsPosed m loops deps before r
  pub least : (other : Row) → IsPosed m loops deps before other → LexLess (numbers_of other) (numbers_of r)
      → ⊥

-- it has no point
abbrev pub HasNone : ℕ → List ℕ → List Dependence → List Row → Type 0
HasNone m loops deps before = (r : Row) → IsPosed m loops deps before r → ⊥
