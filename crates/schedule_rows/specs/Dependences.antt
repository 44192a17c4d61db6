-- Dependences, and what restricting them is.
use Rattle.std.specs.Prelude.{◌≡◌, ℕ, ℤ, negsuc, ◌+ℤ◌, ◌≤ℤ◌, List, length, map}
use Rattle.whole_numbers.specs.Affine.{form_of}
use Rattle.scop_syntax.specs.Walk.{Instance}
use Rattle.iteration_domains.specs.Dependence.{Dependence, binds_in}
pub use Rattle.iteration_domains.specs.Related.{Relates, point_of}
use Rattle.iteration_domains.specs.Restrictions.{equality_behind, row_behind}
use Rattle.farkas.specs.Unknowns.{Unknowns}
use Rattle.farkas.specs.Claims.{distance}
use Rattle.schedule_rows.specs.Items.{Row, part_of, phi}

-- no pair, for m parameters in range: what `is_empty` says
abbrev pub IsEmptyDep : ℕ → Dependence → Type 0
IsEmptyDep m d = (params : List ℤ) (x y : Instance) → length params ≡ m → Relates params d x y → ⊥

-- the row's unknowns of the dependence: u, w, and the parts of its source's and of its target's statement
abbrev pub unknowns_of : Dependence → Row → Unknowns
unknowns_of d r =
    record { u = r.u; w = r.w; source = part_of r d.source.statement; target = part_of r d.target.statement }

-- the row has a coefficient for each loop of the dependence's statements
abbrev pub Suits : Dependence → Row → Type 0
Suits d r =
    (length (part_of r d.source.statement).coefficients ≡ d.source.loops) ×
    (length (part_of r d.target.statement).coefficients ≡ d.target.loops)

-- the pairs at which the row has equal values
abbrev pub equal_at : ℕ → Row → Dependence → Dependence
equal_at m r d = equality_behind d (distance (binds_in d) m (unknowns_of d r))

-- the pairs at which phi_T - phi_S >= 1: this row stands last
abbrev pub above_at : ℕ → Row → Dependence → Dependence
above_at m r d =
    row_behind d
    (form_of (distance (binds_in d) m (unknowns_of d r)).coefficients
    ((distance (binds_in d) m (unknowns_of d r)).constant +ℤ negsuc 0))

-- no pair of the dependence has falling values
abbrev pub IsKept : ℕ → Row → Dependence → Type 0
IsKept m r d =
    (params : List ℤ) (x y : Instance) → length params ≡ m → Relates params d x y → phi r x ≤ℤ phi r y

-- all pairs have equal values: the row is parallel with respect to d
abbrev pub IsEqualAt : ℕ → Row → Dependence → Type 0
IsEqualAt m r d =
    (params : List ℤ) (x y : Instance) → length params ≡ m → Relates params d x y → phi r x ≡ phi r y

-- the edge from a dependence's source to its target
abbrev pub edge_of : Dependence → ℕ × ℕ
edge_of d = (d.source.statement, d.target.statement)

-- the edges between the statements of dependences
abbrev pub edges_of : List Dependence → List (ℕ × ℕ)
edges_of ds = map edge_of ds
