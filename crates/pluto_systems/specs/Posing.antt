-- The posed set of a schedule's next row as a system over the columns of the objective.
use Rattle.std.specs.Prelude.{◌≡◌, ℕ, suc, ◌+◌, ◌<◌, ◌≤◌, ◌^◌, ℤ, pos, negsuc, List, [], ◌∷◌, ◌++◌, All, ◌⊎◌, ◌↔◌}
use Rattle.std.specs.Prelude.{map, reverse, length, slice_index_or, Result, Ok}
use Rattle.std.specs.List.{flat_map}
use Rattle.whole_numbers.specs.Affine.{Affine, form_of}
use Rattle.whole_numbers.specs.Lists.{zeros, sums}
use Rattle.null_space.specs.Narrowing.{kernel_vectors, Grows}
use Rattle.null_space.specs.Sizes.{AreWithin, AreCoefficients, AreLong}
use Rattle.fractions.specs.Farkas.{AreNotNegative}
use Rattle.integer_sets.specs.Constraints.{Constraints, system_of, IsSized, variables_in}
use Rattle.integer_sets.specs.Points.{Satisfies}
use Rattle.iteration_domains.specs.Dependence.{Dependence}
use Rattle.farkas.specs.Meaning.{IsFarkas}
use Rattle.farkas.specs.Run.{Halt, ◌>>◌, rows_run}
use Rattle.farkas.specs.declared.claim.Claim.TheVariants.{Legality, Bounding}
use Rattle.scop_syntax.specs.Members.{In}
use Rattle.schedule_rows.specs.Items.{Row, numbers_of, part_of}
use Rattle.schedule_rows.specs.Posed.{IsBounded, IsLegal, IsPosed, loops_of, vectors_of}
use Rattle.pluto_systems.specs.Placing.{placed, columns_of, IsShaped}

-- a dependence with its rows by Farkas's lemma
pub record RuledDep : Type 0 where
  pub dep : Dependence
  pub legal : Constraints
  pub bounded : Constraints

-- the rows are those that keep the dependence and those that bound it
pub record IsFarkasOf (x : RuledDep) : Type 0 where
  pub legal : IsFarkas Legality x.dep.source x.dep.target x.dep.system x.legal
  pub bounded : IsFarkas Bounding x.dep.source x.dep.target x.dep.system x.bounded

-- each of the rows speaks of as many unknowns as its system
pub record HaveSizes (x : RuledDep) : Type 0 where
  pub legal : IsSized (variables_in x.legal) x.legal.equalities x.legal.rows
  pub bounded : IsSized (variables_in x.bounded) x.bounded.equalities x.bounded.rows

-- both
pub record IsRuled (x : RuledDep) : Type 0 where
  pub legal : IsFarkas Legality x.dep.source x.dep.target x.dep.system x.legal
  pub bounded : IsFarkas Bounding x.dep.source x.dep.target x.dep.system x.bounded
  pub legal_sized : IsSized (variables_in x.legal) x.legal.equalities x.legal.rows
  pub bounded_sized : IsSized (variables_in x.bounded) x.bounded.equalities x.bounded.rows

-- the dependence alone
abbrev pub dep_of : RuledDep → Dependence
dep_of x = x.dep

-- the dependence with these rows
abbrev pub ruled_dep : Dependence → Constraints → Constraints → RuledDep
ruled_dep dep legal bounded = record { dep = dep; legal = legal; bounded = bounded }

-- dependences with their rows, in order
abbrev pub ruled_deps : List Dependence → List Constraints → List Constraints → List RuledDep
ruled_deps [] legal bounded = []
ruled_deps (d ∷ ds) [] bounded = []
ruled_deps (d ∷ ds) (l ∷ ls) [] = []
ruled_deps (d ∷ ds) (l ∷ ls) (b ∷ bs) = ruled_dep d l b ∷ ruled_deps ds ls bs

-- forms over a dependence's unknowns, over all columns
abbrev pub placed_for : ℕ → List ℕ → RuledDep → List Affine → List Affine
placed_for m loops x fs = map (placed m x.dep.source.statement x.dep.target.statement loops) fs

-- its equalities over all columns: those that keep it, then those that bound it
abbrev pub equalities_for : ℕ → List ℕ → RuledDep → List Affine
equalities_for m loops x = placed_for m loops x x.legal.equalities ++ placed_for m loops x x.bounded.equalities

-- its rows over all columns, in that order
abbrev pub rows_for : ℕ → List ℕ → RuledDep → List Affine
rows_for m loops x = placed_for m loops x x.legal.rows ++ placed_for m loops x x.bounded.rows

-- the product of a vector with a statement's coefficients, and a constant, over its own unknowns
abbrev pub own_form : ℕ → List ℤ → ℤ → Affine
own_form m v k = form_of (zeros (m + 1) ++ (reverse v ++ pos 0 ∷ [])) k

-- the same over all columns, for statement s
abbrev pub own_row : ℕ → List ℕ → ℕ → ℤ → List ℤ → Affine
own_row m loops s k v = placed m s s loops (own_form m v k)

-- vectors added up
abbrev pub added : List ℤ → List (List ℤ) → List ℤ
added sum [] = sum
added sum (v ∷ vs) = added (sums sum v) vs

-- statement s's rows: its product with each kernel vector is not negative, and their sum is at least 1
abbrev pub growth_rows : ℕ → List ℕ → ℕ → List (List ℤ) → List Affine
growth_rows m loops s [] = []
growth_rows m loops s (v ∷ vs) =
    map (own_row m loops s (pos 0)) (v ∷ vs) ++ own_row m loops s (negsuc 0) (added v vs) ∷ []

-- those of the statements from s on
abbrev pub growth_from : ℕ → List ℕ → ℕ → List (List (List ℤ)) → List Affine
growth_from m loops s [] = []
growth_from m loops s (vs ∷ more) = growth_rows m loops s vs ++ growth_from m loops (suc s) more

-- the posed set of m parameters, statements of these numbers of loops, dependences with their rows and each statement's
-- kernel vectors
abbrev pub posed_system : ℕ → List ℕ → List RuledDep → List (List (List ℤ)) → Constraints
posed_system m loops ruled vectors =
    system_of (columns_of m loops) 0 (flat_map (equalities_for m loops) ruled)
    (flat_map (rows_for m loops) ruled ++ growth_from m loops 0 vectors)

-- the dependence is between two of these statements, with their numbers of loops, over m parameters
pub record IsBetween (m : ℕ) (loops : List ℕ) (d : Dependence) : Type 0 where
  pub source : d.source.statement < length loops
  pub target : d.target.statement < length loops
  pub source_loops : d.source.loops ≡ slice_index_or loops d.source.statement 0
  pub target_loops : d.target.loops ≡ slice_index_or loops d.target.statement 0
  pub parameters : d.system.parameters ≡ m

-- the vectors are the kernel vectors of the rows before
pub record AreVectorsOf (loops : List ℕ) (before : List Row) (vectors : List (List (List ℤ))) : Type 0 where
  pub size : length vectors ≡ length loops
  pub each : (s : ℕ) → s < length loops → slice_index_or vectors s [] ≡ vectors_of loops before s

-- a system's points that are not negative are the posed rows
abbrev pub HasPosed : ℕ → List ℕ → List Dependence → List Row → Constraints → Type 0
HasPosed m loops deps before s =
    (r : Row) → IsShaped m loops r → AreNotNegative (numbers_of r)
    → Satisfies s (numbers_of r) ↔ IsPosed m loops deps before r

-- c grows the rank of the rows that have these kernel vectors, if any is left
abbrev pub GrowsRank : List ℤ → List (List ℤ) → Type 0
GrowsRank c vs = (vs ≡ []) ⊎ Grows c vs

-- where statement s has the rows `rows s`, the row keeps and bounds the dependences, and grows the rank of each
-- statement's rows
pub record Continues (m : ℕ) (loops : List ℕ) (deps : List Dependence) (rows : ℕ → List (List ℤ))
    (r : Row) : Type 0 where
  pub keeps : (d : Dependence) → In d deps → IsLegal m r d × IsBounded r d
  pub grows : (s : ℕ) → s < length loops
      → GrowsRank (part_of r s).coefficients (kernel_vectors (loops_of loops s) (rows s))

-- a system's points that are not negative are the rows that continue these, a list for each statement
abbrev pub HasPosedBehind : ℕ → List ℕ → List Dependence → List (List (List ℤ)) → Constraints → Type 0
HasPosedBehind m loops deps rows s =
    (r : Row) → IsShaped m loops r → AreNotNegative (numbers_of r)
    → Satisfies s (numbers_of r) ↔ Continues m loops deps (λ k. slice_index_or rows k []) r

-- both claims of a dependence, legality first
abbrev pub ruled_run : ℕ → Dependence → Result RuledDep Halt
ruled_run budget d =
    rows_run budget Legality d.source d.target d.system
    >> λ legal. rows_run budget Bounding d.source d.target d.system >> λ bounded. Ok (ruled_dep d legal bounded)

-- vectors for each statement that 128 bits hold when they are added up
pub record AreSmallVectors (loops : List ℕ) (vectors : List (List (List ℤ))) : Type 0 where
  pub size : length vectors ≡ length loops
  pub few : (s : ℕ) → s < length loops → length (slice_index_or vectors s []) ≤ 5
  pub long : (s : ℕ) → s < length loops → AreLong (slice_index_or loops s 0) (slice_index_or vectors s [])
  pub small : (s : ℕ) → s < length loops → All (AreWithin (2 ^ 109)) (slice_index_or vectors s [])

-- rows for each statement, with a coefficient for each of its loops
pub record AreCoefficientRows (loops : List ℕ) (rows : List (List (List ℤ))) : Type 0 where
  pub size : length rows ≡ length loops
  pub long : (s : ℕ) → s < length loops → AreLong (slice_index_or loops s 0) (slice_index_or rows s [])
  pub small : (s : ℕ) → s < length loops → All AreCoefficients (slice_index_or rows s [])

-- the kernel vectors of each statement's rows
abbrev pub vectors_for : List ℕ → List (List (List ℤ)) → List (List (List ℤ))
vectors_for [] rows = []
vectors_for (l ∷ ls) [] = []
vectors_for (l ∷ ls) (cs ∷ rows) = kernel_vectors l cs ∷ vectors_for ls rows
