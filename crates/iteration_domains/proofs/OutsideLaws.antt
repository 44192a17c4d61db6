-- The systems of the index check stand in their order, and their whole points are the instances that fail.
use Rattle.scop_syntax.proofs.Common.{◌≡◌, ℕ, zero, suc, ℤ, pos, negsuc, List, [], ◌∷◌, ◌++◌, length, map, inl, inr}
use Rattle.scop_syntax.proofs.Common.{Some, None, Option, ap, ap₂, subst, sym, ◌∙◌, refl, arith, ◌≤ℤ◌, All, slice_get}
use Rattle.scop_syntax.proofs.Common.{slice_index_or, flat_map, ints, All-head, All-tail, Affine, value_of, NotNegative}
use Rattle.scop_syntax.proofs.Common.{get_map, Cell, accesses, cell_of, values, IsInside, layout, Failure}
use Rattle.scop_syntax.proofs.Common.{first_outside, In, Access, Program, Visit, walk_of, in_append, in_back}
use Rattle.scop_syntax.proofs.Common.{in_from_place, in_front, nat_cases, place_of}
use Rattle.integer_sets.specs.Constraints.{Constraints}
use Rattle.integer_sets.specs.Points.{Satisfies}
use Rattle.scop_syntax.specs.Failures.{IsFirstOutside, LiesIn}
use Rattle.scop_syntax.proofs.Statements.{runs_not_negative}
use Rattle.iteration_domains.specs.Model.{Modelled, model_of}
use Rattle.iteration_domains.specs.Outside.{Asks, FailsAt, IsOutside, Side, below, fixed, fixed_domain, fixed_forms}
use Rattle.iteration_domains.specs.Outside.{outside_dimensions, outside_statement, outside_system}
use Rattle.iteration_domains.specs.Outside.{outside_systems, past}
use Rattle.iteration_domains.proofs.FixedForms.{outside_points}
use Rattle.iteration_domains.proofs.Instances.{WalkLaws, cells_are_touched}
use Rattle.iteration_domains.proofs.Instances.{has_statement, instance_from, instance_is_point}

-- members of joined lists
pub in_flat_map : {A B : Type 0} (f : A → List B) (xs : List A) (x : A) (y : B) → In x xs → In y (f x)
    → In y (flat_map f xs)
in_flat_map f [] x y h g = absurd h
in_flat_map f (z ∷ zs) x y (inl e) g = in_front y (f z) (flat_map f zs) (subst (λ u. In y (f u)) e g)
in_flat_map f (z ∷ zs) x y (inr h) g = in_back y (f z) (flat_map f zs) (in_flat_map f zs x y h g)

pub in_flat_map_from : {A B : Type 0} (f : A → List B) (xs : List A) (y : B) → In y (flat_map f xs)
    → (x : A) × In x xs × In y (f x)
in_flat_map_from f [] y h = absurd h
in_flat_map_from f (x ∷ xs) y h = elim (in_append y (f x) (flat_map f xs) h) [
  | inl g ↦ (x, inl refl, g)
  | inr g ↦ let k = in_flat_map_from f xs y g in (k.0, inr k.1, k.2)
]

-- a system of an access is that of one of its subscripts
record AsksIn (domain : Constraints) (forms fs : List Affine) (es : List ℕ) (d : ℕ) (side : Side) (c : Constraints)
    : Type 0 where
  subscript : Affine
  extent : ℕ
  is_subscript : slice_get fs d ≡ Some subscript
  is_extent : slice_get es d ≡ Some extent
  is_system : c ≡ outside_system domain (fixed domain.dimensions forms subscript) extent side

in_dimensions_from : (domain : Constraints) (forms fs : List Affine) (es : List ℕ) (c : Constraints)
    → In c (outside_dimensions domain forms fs es) → (d : ℕ) × (side : Side) × AsksIn domain forms fs es d side c
in_dimensions_from domain forms [] es c h = absurd h
in_dimensions_from domain forms (f ∷ fs) [] c h = absurd h
in_dimensions_from domain forms (f ∷ fs) (e ∷ es) c (inl is) = (
  0,
  below,
  record { subscript = f; extent = e; is_subscript = refl; is_extent = refl; is_system = is },
)
in_dimensions_from domain forms (f ∷ fs) (e ∷ es) c (inr (inl is)) = (
  0,
  past,
  record { subscript = f; extent = e; is_subscript = refl; is_extent = refl; is_system = is },
)
in_dimensions_from domain forms (f ∷ fs) (e ∷ es) c (inr (inr h)) =
    let r = in_dimensions_from domain forms fs es c h in (
      suc r.0,
      r.1,
      record {
        subscript = r.2.subscript;
        extent = r.2.extent;
        is_subscript = r.2.is_subscript;
        is_extent = r.2.is_extent;
        is_system = r.2.is_system;
      },
    )

in_dimensions : (domain : Constraints) (forms fs : List Affine) (es : List ℕ) (d : ℕ) (f : Affine) (e : ℕ) (side : Side)
    → slice_get fs d ≡ Some f → slice_get es d ≡ Some e
    → In (outside_system domain (fixed domain.dimensions forms f) e side) (outside_dimensions domain forms fs es)
in_dimensions domain forms [] es d f e side is extent = absurd cc
in_dimensions domain forms (g ∷ fs) [] d f e side is extent = absurd cc
in_dimensions domain forms (g ∷ fs) (a ∷ es) zero f e below is extent =
    let same : g ≡ f = cc in
    let size : a ≡ e = cc in
    inl (subst (λ (h : Affine). outside_system domain (fixed domain.dimensions forms f) e below
    ≡ outside_system domain (fixed domain.dimensions forms h) a below) (sym same)
    (ap (λ k. outside_system domain (fixed domain.dimensions forms f) k below) (sym size)))
in_dimensions domain forms (g ∷ fs) (a ∷ es) zero f e past is extent =
    let same : g ≡ f = cc in
    let size : a ≡ e = cc in
    inr (inl (subst (λ (h : Affine). outside_system domain (fixed domain.dimensions forms f) e past
    ≡ outside_system domain (fixed domain.dimensions forms h) a past) (sym same)
    (ap (λ k. outside_system domain (fixed domain.dimensions forms f) k past) (sym size))))
in_dimensions domain forms (g ∷ fs) (a ∷ es) (suc d) f e side is extent =
    inr (inr (in_dimensions domain forms fs es d f e side is extent))

-- each system is that of a subscript, and each subscript has its systems
pub system_asks : (program : Program) (params : List ℤ) (c : Constraints) → In c (outside_systems program params)
    → (s : Modelled) × (a : ℕ) × (d : ℕ) × (side : Side) × Asks program params s a d side c
system_asks program params c h =
    let extents = layout program params in
    let p = in_flat_map_from (outside_statement extents params) (model_of program).statements c h in
    let s = p.0 in
    let forms = fixed_forms s.domain.dimensions params in
    let domain = fixed_domain forms s.domain in
    let q = in_flat_map_from (λ (a : Access).
    outside_dimensions domain forms a.subscripts (slice_index_or extents a.array [])) s.accesses c p.2 in
    let k = place_of s.accesses q.0 q.1 in
    let r = in_dimensions_from domain forms q.0.subscripts (slice_index_or extents q.0.array []) c q.2 in (
      s,
      k.0,
      r.0,
      r.1,
      record {
        touched = q.0;
        subscript = r.2.subscript;
        extent = r.2.extent;
        is_statement = p.1;
        is_access = k.1;
        is_subscript = r.2.is_subscript;
        is_extent = r.2.is_extent;
        is_system = r.2.is_system;
      },
    )

pub asked_stands : (program : Program) (params : List ℤ) (s : Modelled) (a d : ℕ) (side : Side) (c : Constraints)
    → Asks program params s a d side c → In c (outside_systems program params)
asked_stands program params s a d side c asks =
    let extents = layout program params in
    let forms = fixed_forms s.domain.dimensions params in
    let domain = fixed_domain forms s.domain in
    let system = outside_system domain (fixed s.domain.dimensions forms asks.subscript) asks.extent side in
    subst (λ (k : Constraints). In k (outside_systems program params)) (sym asks.is_system)
    (in_flat_map (outside_statement extents params) (model_of program).statements s system asks.is_statement
    (in_flat_map (λ (b : Access). outside_dimensions domain forms b.subscripts (slice_index_or extents b.array []))
    s.accesses asks.touched system (in_from_place s.accesses a asks.touched asks.is_access)
    (in_dimensions domain forms asks.touched.subscripts (slice_index_or extents asks.touched.array []) d asks.subscript
    asks.extent side asks.is_subscript asks.is_extent)))

-- the access of a model's statement touches the cell of that of the text
touched_at : (fs gs : List Access) (x y : List ℤ) (a : ℕ) (f : Access)
    → map (λ g. cell_of g x) fs ≡ map (λ g. cell_of g y) gs → slice_get fs a ≡ Some f
    → (g : Access) × (slice_get gs a ≡ Some g) × (cell_of f x ≡ cell_of g y)
touched_at fs [] x y a f same is =
    let at = get_map (λ g. cell_of g x) fs a f is in
    let none : slice_get (map (λ g. cell_of g x) fs) a ≡ None = ap (λ (cs : List Cell). slice_get cs a) same in
    absurd cc
touched_at [] (g ∷ gs) x y a f same is = absurd cc
touched_at (e ∷ fs) (g ∷ gs) x y zero f same is =
    let one : e ≡ f = cc in
    let cell : cell_of e x ≡ cell_of g y = cc in
    (g, refl, ap (λ (h : Access). cell_of h x) (sym one) ∙ cell)
touched_at (e ∷ fs) (g ∷ gs) x y (suc a) f same is =
    let rest : map (λ g. cell_of g x) fs ≡ map (λ g. cell_of g y) gs = cc in
    touched_at fs gs x y a f rest is

-- an entry of the values is the value of an entry
value_from : (fs : List Affine) (x : List ℤ) (d : ℕ) (v : ℤ) → slice_get (values fs x) d ≡ Some v
    → (f : Affine) × (slice_get fs d ≡ Some f) × (value_of f x ≡ v)
value_from [] x d v is = absurd cc
value_from (f ∷ fs) x zero v is = let e : value_of f x ≡ v = cc in (f, refl, e)
value_from (f ∷ fs) x (suc d) v is = value_from fs x d v is

-- what a point of an asked system says of the instance at its turns
pub point_fails : (program : Program) (params : List ℤ) (s : Modelled) (a d : ℕ) (side : Side) (c : Constraints)
    (v : Visit) → Asks program params s a d side c
    → map (λ g. cell_of g (v.turns ++ params)) s.accesses ≡ map (λ g. cell_of g v.point) (accesses v.body)
    → length v.turns ≡ s.domain.dimensions → Satisfies c v.turns → FailsAt (layout program params) v a d side
point_fails program params s a d side c v asks cells l h =
    let x = v.turns ++ params in
    let t = touched_at s.accesses (accesses v.body) x v.point a asks.touched cells asks.is_access in
    let array : asks.touched.array ≡ t.0.array = ap (λ (z : Cell). z.array) t.2 in
    let subscripts : values asks.touched.subscripts x ≡ values t.0.subscripts v.point =
    ap (λ (z : Cell). z.subscripts) t.2 in
    let points = outside_points s.domain params v.turns asks.subscript asks.extent side l in
    let both = points.0 (subst (λ (k : Constraints). Satisfies k v.turns) asks.is_system h) in
    record {
      touched = t.0;
      value = value_of asks.subscript x;
      extent = asks.extent;
      is_access = t.1;
      is_value = subst (λ (ys : List ℤ). slice_get ys d ≡ Some (value_of asks.subscript x)) subscripts
          (get_map (λ form. value_of form x) asks.touched.subscripts d asks.subscript asks.is_subscript);
      is_extent = subst (λ (k : ℕ). slice_get (slice_index_or (layout program params) k []) d ≡ Some asks.extent) array
          asks.is_extent;
      outside = both.1;
    }

pub failure_satisfies : (program : Program) (params : List ℤ) (s : Modelled) (a d : ℕ) (side : Side) (v : Visit)
    → In s (model_of program).statements
    → map (λ g. cell_of g (v.turns ++ params)) s.accesses ≡ map (λ g. cell_of g v.point) (accesses v.body)
    → length v.turns ≡ s.domain.dimensions → Satisfies s.domain (v.turns ++ params)
    → FailsAt (layout program params) v a d side
    → (c : Constraints) × Asks program params s a d side c × (length v.turns ≡ c.dimensions) × Satisfies c v.turns
failure_satisfies program params s a d side v stands cells l h fails =
    let x = v.turns ++ params in
    let t = touched_at (accesses v.body) s.accesses v.point x a fails.touched (sym cells) fails.is_access in
    let array : fails.touched.array ≡ t.0.array = ap (λ (z : Cell). z.array) t.2 in
    let subscripts : values fails.touched.subscripts v.point ≡ values t.0.subscripts x =
    ap (λ (z : Cell). z.subscripts) t.2 in
    let f = value_from t.0.subscripts x d fails.value
    (subst (λ (ys : List ℤ). slice_get ys d ≡ Some fails.value) subscripts fails.is_value) in
    let forms = fixed_forms s.domain.dimensions params in
    let c = outside_system (fixed_domain forms s.domain) (fixed s.domain.dimensions forms f.0) fails.extent side in
    let points = outside_points s.domain params v.turns f.0 fails.extent side l in (
      c,
      record {
        touched = t.0;
        subscript = f.0;
        extent = fails.extent;
        is_statement = stands;
        is_access = t.1;
        is_subscript = f.1;
        is_extent = subst (λ (k : ℕ). slice_get (slice_index_or (layout program params) k []) d ≡ Some fails.extent)
            array fails.is_extent;
        is_system = refl;
      },
      l,
      points.1 (h, subst (λ z. IsOutside z fails.extent side) (sym f.2) fails.outside),
    )

-- one system is asked for each
pub asks_one : (program : Program) (params : List ℤ) (s : Modelled) (a d : ℕ) (side : Side) (b c : Constraints)
    → Asks program params s a d side b → Asks program params s a d side c → b ≡ c
asks_one program params s a d side b c p q =
    let forms = fixed_forms s.domain.dimensions params in
    let domain = fixed_domain forms s.domain in
    let here = p.is_access in
    let there = q.is_access in
    let touched : p.touched ≡ q.touched = cc in
    let first = subst (λ (t : Access). slice_get t.subscripts d ≡ Some p.subscript) touched p.is_subscript in
    let second = q.is_subscript in
    let subscript : p.subscript ≡ q.subscript = cc in
    let size = subst (λ (t : Access). slice_get (slice_index_or (layout program params) t.array []) d ≡ Some p.extent)
    touched p.is_extent in
    let same = q.is_extent in
    let extent : p.extent ≡ q.extent = cc in
    p.is_system
    ∙ (ap₂ (λ (f : Affine) (e : ℕ). outside_system domain (fixed s.domain.dimensions forms f) e side) subscript extent
    ∙ sym q.is_system)

-- a subscript that does not lie in its extent lies outside on a side
lies_outside : (value : ℤ) (extent : ℕ) → (LiesIn value extent → ⊥) → (side : Side) × IsOutside value extent side
lies_outside (negsuc n) extent out = (below, omega (arith, ints))
lies_outside (pos n) extent out =
    nat_cases n extent (λ h. absurd (out (omega (arith, ints), omega (arith, ints)))) (λ e. (past, omega (arith, ints)))
    (λ h. (past, omega (arith, ints)))

not_negative : (xs : List ℤ) → All (λ x. pos 0 ≤ℤ x) xs → NotNegative xs
not_negative [] all = tt
not_negative (x ∷ xs) all =
    (All-head (λ z. pos 0 ≤ℤ z) x xs all, not_negative xs (All-tail (λ z. pos 0 ≤ℤ z) x xs all))

-- what the laws of subscripts say of a program at its parameters
pub record SubscriptLaws (program : Program) (params : List ℤ) : Type 0 where
  pub inside : first_outside (layout program params) (walk_of program params) ≡ None → IsInside program params
  pub first : (f : Failure) → first_outside (layout program params) (walk_of program params) ≡ Some f
      → IsFirstOutside (layout program params) (walk_of program params) f

-- where no system has a point, no subscript lies outside
pub none_outside : (program : Program) (params : List ℤ) → WalkLaws program params
    → length params ≡ length program.parameters → SubscriptLaws program params
    → ((c : Constraints) → In c (outside_systems program params) → (xs : List ℤ) → length xs ≡ c.dimensions
    → NotNegative xs → Satisfies c xs → ⊥)
    → IsInside program params
none_outside program params laws count subscripts none =
    decide (first_outside (layout program params) (walk_of program params)) refl
  where
    decide : (found : Option Failure) → first_outside (layout program params) (walk_of program params) ≡ found
        → IsInside program params
    decide None is = subscripts.inside is
    decide (Some f) is =
        let g = subscripts.first f is in
        let v = f.visit in
        let has = has_statement program params v laws (in_from_place (walk_of program params) g.place v g.is_visit) in
        let instance = instance_from program params has.0 v laws count has.1 in
        let point = instance_is_point program params has.0 v laws count has.1 in
        let out = lies_outside f.value f.extent g.outside in
        let r = failure_satisfies program params has.0 f.access f.dimension out.0 v has.1.statement
        (cells_are_touched program params has.0 v laws count has.1) point.0 point.1
        (record {
          touched = g.touched;
          value = f.value;
          extent = f.extent;
          is_access = g.is_access;
          is_value = g.is_value;
          is_extent = g.is_extent;
          outside = out.1;
        }) in
        absurd (none r.0 (asked_stands program params has.0 f.access f.dimension out.0 r.0 r.1) v.turns r.2
        (subst NotNegative (sym (ap (λ (w : Visit). w.turns) instance.visit))
        (not_negative instance.turns (runs_not_negative instance.placed.scopes params instance.turns instance.runs)))
        r.3)
