-- The laws of lower crates that the lemmas of this one use.
use Rattle.scop_syntax.proofs.Common.{◌≡◌, ℕ, ◌≤◌, ℤ, List, All, length, ◌↔◌}
use Rattle.null_space.specs.Narrowing.{narrowed_by, kernel_vectors}
use Rattle.null_space.specs.Sizes.{AreCoefficients, AreLong, AreNarrow}
use Rattle.fractions.specs.Farkas.{AreNotNegative, HasFarkas}
use Rattle.integer_sets.specs.Constraints.{Constraints}
use Rattle.integer_sets.specs.Points.{Satisfies}
use Rattle.iteration_domains.specs.declared.dep.DepEnd.{DepEnd}
use Rattle.farkas.specs.declared.claim.Claim.{Claim}
use Rattle.farkas.specs.declared.claim.Claim.TheVariants.{Legality, Bounding}
use Rattle.farkas.specs.Unknowns.{Unknowns, AreOf, numbers_of}
use Rattle.iteration_domains.specs.Dependence.{binds_between}
use Rattle.farkas.specs.Claims.{distance, slack}
use Rattle.farkas.specs.Meaning.{rows_of, IsFarkas}

-- what a dependence's rows say of its unknowns
pub record RowLaws : Type 0 where
  pub columns : (claim : Claim) (source target : DepEnd) (s t : Constraints) (x : Unknowns)
      → IsFarkas claim source target s t → AreOf s.parameters source target x
      → length (numbers_of source target x) ≡ t.dimensions
  pub legality : (source target : DepEnd) (s t : Constraints) (x : Unknowns)
      → IsFarkas Legality source target s t → AreOf s.parameters source target x
      → AreNotNegative (numbers_of source target x)
      → Satisfies t (numbers_of source target x) ↔ HasFarkas (rows_of s)
      (distance (binds_between source target s) s.parameters x)
  pub bounding : (source target : DepEnd) (s t : Constraints) (x : Unknowns)
      → IsFarkas Bounding source target s t → AreOf s.parameters source target x
      → AreNotNegative (numbers_of source target x)
      → Satisfies t (numbers_of source target x) ↔ HasFarkas (rows_of s)
      (slack (binds_between source target s) x)

-- kernel vectors are as long as the rows
abbrev pub VectorsAreLong : Type 0
VectorsAreLong = (n : ℕ) (rows : List (List ℤ)) → AreLong n (kernel_vectors n rows)

-- few and small
pub record SizeLaws : Type 0 where
  pub most : (c : List ℤ) (ns : List (List ℤ)) → length (narrowed_by c ns) ≤ length ns
  pub long : VectorsAreLong
  pub narrow : (n : ℕ) (rows : List (List ℤ)) → n ≤ 5 → All AreCoefficients rows → AreNarrow (kernel_vectors n rows)
