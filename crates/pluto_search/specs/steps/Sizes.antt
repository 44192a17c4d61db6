-- How large the numbers of rows are, and what they are rows over.
use Rattle.std.specs.Prelude.{◌≡◌, ℕ, ◌+◌, ◌<◌, ◌≤◌, ℤ, pos, ◌≤ℤ◌, List, [], ◌∷◌, length, All}
use Rattle.iteration_domains.specs.Dependence.{Dependence}
use Rattle.null_space.specs.Narrowing.{narrowed_by}
use Rattle.null_space.specs.Sizes.{AreCoefficients, AreLong, AreNarrow}
use Rattle.schedule_rows.specs.Items.{Row, part_of}

-- a number from 0 to 4096
abbrev pub IsCount : ℤ → Type 0
IsCount z = (pos 0 ≤ℤ z) × (z ≤ℤ pos 4096)

-- so is each
abbrev pub AreCounts : List ℤ → Type 0
AreCounts zs = All IsCount zs

-- a row over the loops of a dependence's statements, with such numbers there
pub record CanTell (m : ℕ) (r : Row) (d : Dependence) : Type 0 where
  pub source : d.source.statement < length r.parts
  pub target : d.target.statement < length r.parts
  pub source_loops : length (part_of r d.source.statement).coefficients ≡ d.source.loops
  pub target_loops : length (part_of r d.target.statement).coefficients ≡ d.target.loops
  pub parameters : d.system.parameters ≡ m
  pub turns : d.source.loops + d.target.loops ≤ d.system.dimensions
  pub source_counts : AreCounts (part_of r d.source.statement).coefficients
  pub source_shift : IsCount (part_of r d.source.statement).shift
  pub target_shift : IsCount (part_of r d.target.statement).shift

-- coefficients that narrow a statement's kernel vectors within 128 bits
pub record CanNarrow (c : List ℤ) (ns : List (List ℤ)) : Type 0 where
  pub few : length c < 6
  pub long : AreLong (length c) ns
  pub coefficients : AreCoefficients c
  pub narrow : AreNarrow ns

-- each statement's kernel vectors narrowed by its coefficients
abbrev pub narrowed_each : List (List ℤ) → List (List (List ℤ)) → List (List (List ℤ))
narrowed_each [] vs = []
narrowed_each (c ∷ cs) [] = []
narrowed_each (c ∷ cs) (v ∷ vs) = narrowed_by c v ∷ narrowed_each cs vs

-- each statement's do
abbrev pub CanNarrowEach : List (List ℤ) → List (List (List ℤ)) → Type 0
CanNarrowEach [] [] = Unit {0}
CanNarrowEach [] (v ∷ vs) = ⊥
CanNarrowEach (c ∷ cs) [] = ⊥
CanNarrowEach (c ∷ cs) (v ∷ vs) = CanNarrow c v × CanNarrowEach cs vs
