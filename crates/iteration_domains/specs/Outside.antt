-- The index check as questions of emptiness: at given parameters, systems over a statement's turns alone whose whole
-- points are the instances at which a subscript lies outside its extent.
use Rattle.std.specs.Prelude.{◌≡◌, ℕ, ℤ, pos, negsuc, neg_ℤ, ◌≤ℤ◌, List, [], ◌∷◌, ◌++◌, map, slice_get}
use Rattle.std.specs.Prelude.{slice_index_or, Some}
use Rattle.std.specs.List.{flat_map}
use Rattle.whole_numbers.specs.Lists.{zeros}
use Rattle.whole_numbers.specs.Affine.{Affine, form_of, sum_of_forms, multiple_of_form, composed}
use Rattle.integer_sets.specs.Constraints.{Constraints, system_of}
use Rattle.scop_syntax.specs.Tree.{Access, Program}
use Rattle.scop_syntax.specs.Cells.{accesses, values}
use Rattle.scop_syntax.specs.Execution.{layout}
use Rattle.scop_syntax.specs.Members.{In}
use Rattle.scop_syntax.specs.Walk.{Visit}
use Rattle.iteration_domains.specs.Rows.{variables}
use Rattle.iteration_domains.specs.Model.{Modelled, model_of}

-- a subscript lies outside below 0, or past its extent
pub data Side : Type 0 where
  below : Side
  past : Side

-- a value outside on this side: at most -1, or at least the extent
abbrev pub IsOutside : ℤ → ℕ → Side → Type 0
IsOutside value extent below = value ≤ℤ negsuc 0
IsOutside value extent past = pos extent ≤ℤ value

-- the same of a form over d turns, as a row: - 1 - f, or f - extent
abbrev pub outside_row : ℕ → Affine → ℕ → Side → Affine
outside_row d f extent below = sum_of_forms (form_of (zeros d) (negsuc 0)) (multiple_of_form (negsuc 0) f)
outside_row d f extent past = sum_of_forms (form_of (zeros d) (neg_ℤ (pos extent))) (multiple_of_form (pos 1) f)

-- over d turns, the forms of these turns and, behind them, of parameters with these values
abbrev pub fixed_forms : ℕ → List ℤ → List Affine
fixed_forms d params = variables d 0 d ++ map (form_of (zeros d)) params

-- a form over d turns and the parameters as one over the turns alone, where forms stand for both
abbrev pub fixed : ℕ → List Affine → Affine → Affine
fixed d forms f = composed f forms d

-- so a statement's domain
abbrev pub fixed_domain : List Affine → Constraints → Constraints
fixed_domain forms s =
    system_of s.dimensions 0 (map (fixed s.dimensions forms) s.equalities) (map (fixed s.dimensions forms) s.rows)

-- a domain over turns alone, with the row that a form over them lies outside
abbrev pub outside_system : Constraints → Affine → ℕ → Side → Constraints
outside_system domain f extent side =
    system_of domain.dimensions domain.parameters domain.equalities
    (domain.rows ++ outside_row domain.dimensions f extent side ∷ [])

-- of an access, dimension by dimension, on both sides
abbrev pub outside_dimensions : Constraints → List Affine → List Affine → List ℕ → List Constraints
outside_dimensions domain forms [] extents = []
outside_dimensions domain forms (f ∷ fs) [] = []
outside_dimensions domain forms (f ∷ fs) (e ∷ es) =
    outside_system domain (fixed domain.dimensions forms f) e below
    ∷ outside_system domain (fixed domain.dimensions forms f) e past
    ∷ outside_dimensions domain forms fs es

-- of accesses with a domain over turns alone, one after another
abbrev pub outside_accesses : List (List ℕ) → Constraints → List Affine → List Access → List Constraints
outside_accesses extents domain forms accesses =
    flat_map (λ a. outside_dimensions domain forms a.subscripts (slice_index_or extents a.array [])) accesses

-- of a statement
abbrev pub outside_statement : List (List ℕ) → List ℤ → Modelled → List Constraints
outside_statement extents params s =
    let forms = fixed_forms s.domain.dimensions params in
    outside_accesses extents (fixed_domain forms s.domain) forms s.accesses

-- of a program, by statement, access and dimension, two each
abbrev pub outside_systems : Program → List ℤ → List Constraints
outside_systems program params =
    flat_map (outside_statement (layout program params) params) (model_of program).statements

-- the system of access a of statement s in dimension d, on this side
pub record Asks (program : Program) (params : List ℤ) (s : Modelled) (a d : ℕ) (side : Side) (c : Constraints)
    : Type 0 where
  pub touched : Access
  pub subscript : Affine
  pub extent : ℕ
  pub is_statement : In s (model_of program).statements
  pub is_access : slice_get s.accesses a ≡ Some touched
  pub is_subscript : slice_get touched.subscripts d ≡ Some subscript
  pub is_extent : slice_get (slice_index_or (layout program params) touched.array []) d ≡ Some extent
  pub is_system :
      c ≡ outside_system (fixed_domain (fixed_forms s.domain.dimensions params) s.domain)
      (fixed s.domain.dimensions (fixed_forms s.domain.dimensions params) subscript) extent side

-- access a of a visit has in dimension d a subscript outside its extent, on this side
pub record FailsAt (extents : List (List ℕ)) (v : Visit) (a d : ℕ) (side : Side) : Type 0 where
  pub touched : Access
  pub value : ℤ
  pub extent : ℕ
  pub is_access : slice_get (accesses v.body) a ≡ Some touched
  pub is_value : slice_get (values touched.subscripts v.point) d ≡ Some value
  pub is_extent : slice_get (slice_index_or extents touched.array []) d ≡ Some extent
  pub outside : IsOutside value extent side
