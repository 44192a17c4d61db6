-- The rows of a claim on a dependence: the matching of coefficients, of which the multipliers are eliminated one by
-- one, with rows dropped that others imply.
use Rattle.std.specs.Prelude.{ℕ, zero, suc, ◌+◌, nat_lt, Bool, if◌then◌else◌, List, [], ◌∷◌, ◌++◌, take, drop}
use Rattle.std.specs.Prelude.{map, Result, Ok, Err}
use Rattle.whole_numbers.specs.Affine.{Affine}
use Rattle.wide_math.specs.declared.Wide.{Wide}
use Rattle.fractions.specs.Elimination.{narrowed}
use Rattle.fractions.specs.Farkas.{own_rows}
use Rattle.integer_sets.specs.Constraints.{Constraints, system_of}
use Rattle.fm_projection.specs.Runs.{eliminated_run, pairs_in}
use Rattle.pip_solver.specs.Nodes.{Counted, opposite_run}
use Rattle.pip_solver.specs.Emptiness.{empty_run}
use Rattle.farkas.specs.declared.claim.Claim.{Claim}
use Rattle.iteration_domains.specs.declared.dep.DepEnd.{DepEnd}
use Rattle.iteration_domains.specs.Dependence.{binds_between}
use Rattle.farkas.specs.Unknowns.{layout_of}
use Rattle.farkas.specs.Claims.{linear, constant}
use Rattle.farkas.specs.Matching.{matching_run, multipliers_of}

-- why a run halts: a number leaves 128 bits, an elimination has more than 4,096 pairs of rows, or the question whether
-- a system is empty stops
pub data Halt : Type 0 where
  wide : Wide → Halt
  crowded : ℕ → Halt
  unanswered : Constraints → Halt

-- the first step's result goes to the second; the first halt stays
infixl 10 ◌>>◌
abbrev pub ◌>>◌ : {A B : Type 0} → Result A Halt → (A → Result B Halt) → Result B Halt
Ok x >> f = f x
Err halt >> f = Err halt

-- numbers are formed, or one is too wide
abbrev pub formed : {A : Type 0} → Result A Wide → Result A Halt
formed (Ok x) = Ok x
formed (Err w) = Err (wide w)

-- an elimination of variable i
unfoldable pub eliminating : ℕ → Constraints → Result Constraints Halt
eliminating i s = if nat_lt 4096 (pairs_in i s) then Err (crowded (pairs_in i s)) else formed (eliminated_run i s)

-- whether a system is empty, by a counted answer; a stop leaves the system unanswered
abbrev pub answer : Constraints → Counted Bool → Result Bool Halt
answer s (Ok counted) = Ok counted.0
answer s (Err stop) = Err (unanswered s)

-- whether a system is empty, asked with the whole budget
unfoldable pub emptiness : ℕ → Constraints → Result Bool Halt
emptiness budget s = answer s (empty_run budget s)

-- whether the others imply a row of n variables: with its negation, - f - 1, behind them they are empty
unfoldable pub implied_run : ℕ → ℕ → List Affine → List Affine → Affine → Result Bool Halt
implied_run budget n equalities others row =
    formed (opposite_run row) >> λ negation. emptiness budget (system_of n 0 equalities (others ++ negation ∷ []))

-- going through the rest of the rows behind those in front: a row is dropped where all others that are left, the later
-- ones too, imply it
abbrev pub kept_run : ℕ → ℕ → List Affine → List Affine → List Affine → Result (List Affine) Halt
kept_run budget n equalities front [] = Ok front
kept_run budget n equalities front (row ∷ rest) =
    implied_run budget n equalities (front ++ rest) row >> λ drops.
    kept_run budget n equalities (if drops then front else front ++ row ∷ []) rest

-- the rows but the one at a place
abbrev pub others : List Affine → ℕ → List Affine
others rows at = take at rows ++ drop (suc at) rows

-- what is kept of the rows from a place on
abbrev pub kept_from : ℕ → Constraints → ℕ → Result (List Affine) Halt
kept_from budget s at = kept_run budget s.dimensions s.equalities (take at s.rows) (drop at s.rows)

-- rows dropped from a system, none of the first k
unfoldable pub dropped_run : ℕ → ℕ → Constraints → Result Constraints Halt
dropped_run budget k s =
    kept_from budget s k >> λ rows. Ok (system_of s.dimensions 0 s.equalities rows)

-- a system of n dimensions, without the column of variable i
abbrev pub without_column : ℕ → ℕ → Constraints → Constraints
without_column n i s = system_of n 0 (map (narrowed i) s.equalities) (map (narrowed i) s.rows)

-- an elimination of variable i, which leaves n others
abbrev pub narrowing : ℕ → ℕ → Constraints → Result Constraints Halt
narrowing n i s = eliminating i s >> λ t. Ok (without_column n i t)

-- k eliminations of the variable behind b others; behind each, rows are dropped, but none of the own rows of the
-- variables that are left, which stand in front
abbrev pub left_run : ℕ → ℕ → ℕ → Constraints → Result Constraints Halt
left_run budget b zero s = Ok s
left_run budget b (suc k) s =
    narrowing (b + k) b s >> λ t. dropped_run budget k t >> λ kept. left_run budget b k kept

-- the matching of coefficients over n unknowns, m0 and the multipliers, k in all, none of which is negative
abbrev pub posed : ℕ → ℕ → List Affine → Constraints
posed n k equalities = system_of (n + k) 0 equalities (own_rows n k)

-- the matching of a claim's coefficients on a dependence
unfoldable pub posed_run : Claim → DepEnd → DepEnd → Constraints → Result Constraints Halt
posed_run claim source target s =
    formed (matching_run (linear claim source target (binds_between source target s) s.parameters)
    (constant claim source target s.parameters) s)
    >> λ equalities. Ok (posed (layout_of s.parameters source target).unknowns (multipliers_of s) equalities)

-- the rows of a claim: what the matching leaves when m0 and the multipliers are eliminated in this order
unfoldable pub rows_run : ℕ → Claim → DepEnd → DepEnd → Constraints → Result Constraints Halt
rows_run budget claim source target s =
    posed_run claim source target s
    >> λ all. left_run budget (layout_of s.parameters source target).unknowns (multipliers_of s) all
