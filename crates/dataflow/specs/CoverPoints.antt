-- Which pairs of instances the whole points of an access's dependences in a role are to be.
use Rattle.std.specs.Prelude.{◌≡◌, ℕ, ℤ, List, length, slice_get, Some}
use Rattle.integer_sets.specs.Points.{Satisfies}
use Rattle.quast_joins.specs.declared.way.Way.{Way}
use Rattle.quast_joins.specs.declared.way.Way.TheVariants.{Later, Earlier}
use Rattle.scop_syntax.specs.Cells.{PlacesConflict}
use Rattle.scop_syntax.specs.Members.{In}
use Rattle.scop_syntax.specs.Walk.{Visit, Instance, instance}
use Rattle.scop_syntax.specs.Writers.{last_of, next_of}
use Rattle.iteration_domains.specs.Dependence.{Dependence, binds_in}
use Rattle.iteration_domains.specs.Related.{point_of}

-- at the parameters two instances, the source first, are a whole point of a dependence, with any whole numbers for what
-- is bound
pub record IsPointOf (params : List ℤ) (d : Dependence) (x y : Instance) : Type 0 where
  pub source : x.number ≡ d.source.statement
  pub target : y.number ≡ d.target.statement
  pub source_size : length x.turns ≡ d.source.loops
  pub target_size : length y.turns ≡ d.target.loops
  pub bound : List ℤ
  pub bound_size : length bound ≡ binds_in d
  pub holds : Satisfies d.system (point_of params bound x y)

-- they are one of one of the dependences
abbrev pub HavePoint : List ℤ → List Dependence → Instance → Instance → Type 0
HavePoint params deps x y = (d : Dependence) × In d deps × IsPointOf params d x y

-- of two instances, the earlier first, the one whose access is in the role
abbrev pub reader_of : Way → Instance → Instance → Instance
reader_of Later x y = y
reader_of Earlier x y = x

-- place i is the last writer before place j of the cell that the access touches there, or place j the next writer behind
-- place i of that which it touches here
abbrev pub AreCover : Way → List Visit → ℕ → ℕ → ℕ → Type 0
AreCover Later visits access i j = last_of visits j access ≡ Some i
AreCover Earlier visits access i j = next_of visits i access ≡ Some j

-- two instances stand at places of which one is the writer of an access of a statement in its role
pub record IsCoverOf (way : Way) (visits : List Visit) (statement access : ℕ) (x y : Instance) : Type 0 where
  pub first : ℕ
  pub second : ℕ
  pub earlier : Visit
  pub later : Visit
  pub is_earlier : slice_get visits first ≡ Some earlier
  pub is_later : slice_get visits second ≡ Some later
  pub source : instance earlier ≡ x
  pub target : instance later ≡ y
  pub is_statement : (reader_of way x y).number ≡ statement
  pub cover : AreCover way visits access first second

-- the access of a conflict that is in the role
abbrev pub access_in : {visits : List Visit} {i j : ℕ} → Way → PlacesConflict visits i j → ℕ
access_in Later c = c.second
access_in Earlier c = c.first

-- two instances stand at places that conflict by an access of a statement in its role
pub record IsConflictOf (way : Way) (visits : List Visit) (statement access : ℕ) (x y : Instance) : Type 0 where
  pub first : ℕ
  pub second : ℕ
  pub conflict : PlacesConflict visits first second
  pub source : instance conflict.earlier ≡ x
  pub target : instance conflict.later ≡ y
  pub is_statement : (reader_of way x y).number ≡ statement
  pub is_access : access_in way conflict ≡ access
