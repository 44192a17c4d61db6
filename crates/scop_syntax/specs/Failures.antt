-- The subscripts that lie outside their extents, in the order of the walk: by instance, access and dimension.
use Rattle.std.specs.Prelude.{◌≡◌, ℕ, ◌+◌, ◌<◌, Bool, false, ℤ, pos, ◌+ℤ◌, ◌≤ℤ◌, ◌<ℤ◌, List, [], ◌∷◌, ◌++◌, length}
use Rattle.std.specs.Prelude.{slice_get, slice_index_or, Option, Some, if◌then◌else◌}
use Rattle.std.specs.List.{flat_map}
use Rattle.std.specs.Int.Signed.{le_z}
use Rattle.scop_syntax.specs.Tree.{Access}
use Rattle.scop_syntax.specs.Members.{In}
use Rattle.scop_syntax.specs.Walk.{Visit}
use Rattle.scop_syntax.specs.Cells.{accesses, values, cell_of}
use Rattle.scop_syntax.specs.Execution.{IsCell, AreInside}

-- a visit, the numbers of an access and of a dimension from 0, and the subscript's value with its extent
pub record Failure : Type 0 where
  pub visit : Visit
  pub access : ℕ
  pub dimension : ℕ
  pub value : ℤ
  pub extent : ℕ

-- whether a subscript lies from 0 up to the extent
abbrev pub is_within : ℤ → ℕ → Bool
is_within s e = if le_z (pos 0) s then le_z (s +ℤ pos 1) (pos e) else false

-- the dimensions from d on
abbrev pub outside_dimensions : Visit → ℕ → ℕ → List ℤ → List ℕ → List Failure
outside_dimensions v a d [] es = []
outside_dimensions v a d (s ∷ ss) [] = []
outside_dimensions v a d (s ∷ ss) (e ∷ es) =
    if is_within s e
    then outside_dimensions v a (d + 1) ss es
    else record { visit = v; access = a; dimension = d; value = s; extent = e } ∷ outside_dimensions v a (d + 1) ss es

-- the accesses from a on
abbrev pub outside_accesses : List (List ℕ) → Visit → ℕ → List Access → List Failure
outside_accesses extents v a [] = []
outside_accesses extents v a (access ∷ accesses) =
    outside_dimensions v a 0 (values access.subscripts v.point) (slice_index_or extents access.array [])
    ++ outside_accesses extents v (a + 1) accesses

-- of all visits
abbrev pub failures : List (List ℕ) → List Visit → List Failure
failures extents visits = flat_map (λ v. outside_accesses extents v 0 (accesses v.body)) visits

-- the first failure: of the first visit that has one, its least access, and of that its least dimension
abbrev pub first_outside : List (List ℕ) → List Visit → Option Failure
first_outside extents visits = slice_get (failures extents visits) 0

-- a subscript lies from 0 up to the extent
abbrev pub LiesIn : ℤ → ℕ → Type 0
LiesIn value extent = (pos 0 ≤ℤ value) × (value <ℤ pos extent)

-- f stands at a place of the visits, all that comes before it is inside, and its subscript is not
pub record IsFirstOutside (extents : List (List ℕ)) (visits : List Visit) (f : Failure) : Type 0 where
  pub place : ℕ
  pub touched : Access
  pub is_visit : slice_get visits place ≡ Some f.visit
  pub is_access : slice_get (accesses f.visit.body) f.access ≡ Some touched
  pub is_value : slice_get (values touched.subscripts f.visit.point) f.dimension ≡ Some f.value
  pub is_extent : slice_get (slice_index_or extents touched.array []) f.dimension ≡ Some f.extent
  pub outside : LiesIn f.value f.extent → ⊥
  pub earlier_visits :
      (i : ℕ) (v : Visit) → i < place → slice_get visits i ≡ Some v → AreInside extents (v ∷ [])
  pub lesser_accesses :
      (a : ℕ) (g : Access) → a < f.access → slice_get (accesses f.visit.body) a ≡ Some g
      → IsCell extents (cell_of g f.visit.point)
  pub lesser_dimensions :
      (d e : ℕ) (s : ℤ) → d < f.dimension → slice_get (values touched.subscripts f.visit.point) d ≡ Some s
      → slice_get (slice_index_or extents touched.array []) d ≡ Some e → LiesIn s e

-- an access names an array, with a subscript for each dimension
pub record IsRanked (extents : List (List ℕ)) (access : Access) : Type 0 where
  pub array : access.array < length extents
  pub rank : length access.subscripts ≡ length (slice_index_or extents access.array [])

-- each access of these visits does
abbrev pub VisitsAreRanked : List (List ℕ) → List Visit → Type 0
VisitsAreRanked extents visits =
    (v : Visit) → In v visits → (access : Access) → In access (accesses v.body) → IsRanked extents access
