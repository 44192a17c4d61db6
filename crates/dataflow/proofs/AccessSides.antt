-- The accesses of a model as those of instances, and what the laws say of them and of their writers.
use Rattle.dataflow.proofs.Common.{◌≡◌, ℕ, zero, suc, ◌+◌, ℤ, pos, ◌≤ℤ◌, List, ◌++◌, length, All, Option, Some, None}
use Rattle.dataflow.proofs.Common.{Ok, sym, ap, ap₂, subst, ◌∙◌, refl, arith, slice_get, option_map, Contains}
use Rattle.dataflow.proofs.Common.{values_of, NotNegative, get_map, Cell, accesses, cell_of, In, Placed, Runs}
use Rattle.dataflow.proofs.Common.{statements_of, visit_of, Access, Program, Visit, walk_of, place_of, Satisfies, found}
use Rattle.dataflow.proofs.Common.{LeafPath, AreOver, Goes, binds_in, leaf_paths, live_paths, Source, Tree, Speaks}
use Rattle.dataflow.proofs.Common.{BindsUp, value, Dependence, Modelled, model_of, modelled, AreInRange, IsKernelModel}
use Rattle.dataflow.proofs.Common.{instance_is_point, Side, side, loops_of, sides_in, sides_of, IsEnd, TouchesAt}
use Rattle.dataflow.proofs.Common.{in_flat_map_from, side_to, Writes, written_of, Names, IsWritePoint, reader_end}
use Rattle.dataflow.proofs.Common.{wanted_writer, writer_end, read_variables, writers_run}
use Rattle.scop_syntax.proofs.Common.{slice_get-map, point_of, in_map}
use Rattle.quast_joins.specs.declared.way.Way.{Way}
use Rattle.iteration_domains.specs.Model.{access_over}
use Rattle.iteration_domains.proofs.Instances.{WalkLaws, cell_of-access, statement_from}
use Rattle.conflict_deps.proofs.Sides.{side_at, sides_from_access}

-- what the laws of paths say
pub record PathLaws : Type 0 where
  pub answers : (t : Tree) (n : ℕ) (point qs : List ℤ) (p : LeafPath) → Speaks n t → Contains (live_paths t) p
      → Goes p.turns point qs → value t point ≡ found p.leaf.source (values_of p.leaf.forms (point ++ qs))
  pub found : (t : Tree) (n : ℕ) (point : List ℤ) (o : Option Source) (xs : List ℤ) → Speaks n t
      → value t point ≡ found o xs
      → (p : LeafPath) × (qs : List ℤ) × Contains (live_paths t) p × Goes p.turns point qs × (p.leaf.source ≡ o)
      × (values_of p.leaf.forms (point ++ qs) ≡ xs)
  pub over : (t : Tree) (n : ℕ) (p : LeafPath) → Speaks n t → Contains (live_paths t) p
      → AreOver n p.turns × (p.leaf.variables ≡ n + binds_in p.turns)
      × All (λ f. length f.coefficients ≡ n + binds_in p.turns) p.leaf.forms
  pub among : (t : Tree) (p : LeafPath) → Contains (live_paths t) p → Contains (leaf_paths t) p
  pub quotients : (t : Tree) (n : ℕ) (point qs : List ℤ) (p : LeafPath) → Speaks n t → Contains (leaf_paths t) p
      → Goes p.turns point qs → BindsUp t point → NotNegative qs

-- what the laws of walks, quasts and points say of a program at its parameters
pub record CoverLaws (program : Program) (params : List ℤ) (budget : ℕ) : Type 0 where
  pub walk : WalkLaws program params
  pub number : (k : ℕ) (p : Placed) → slice_get (statements_of program) k ≡ Some p → p.number ≡ k
  pub model : IsKernelModel (model_of program)
  pub count : length params ≡ length program.parameters
  pub range : AreInRange params
  pub up : NotNegative params
  pub turns : (v : Visit) → In v (walk_of program params) → All (λ z. pos 0 ≤ℤ z) v.turns
  pub points : (way : Way) (j k : ℕ) (w : Visit) (b : ℕ) (c : Cell) → TouchesAt program params j w b c
      → Writes way (walk_of program params) j c k
      → (dep : Dependence) × (u : Visit) × (slice_get (walk_of program params) k ≡ Some u)
      × IsWritePoint way program params dep u.turns w.turns × IsEnd (writer_end way dep) u 0 × IsEnd
      (reader_end way dep) w b
  pub names : (way : Way) (j : ℕ) (w : Visit) (a : ℕ) (c : Cell) (t : Tree) → TouchesAt program params j w a c
      → writers_run way (model_of program) budget w.number a ≡ Ok t
      → Names (walk_of program params) (value t (params ++ w.turns)) (wanted_writer way (walk_of program params) j c)
  pub signs : (way : Way) (j : ℕ) (w : Visit) (a : ℕ) (c : Cell) (t : Tree) → TouchesAt program params j w a c
      → writers_run way (model_of program) budget w.number a ≡ Ok t → BindsUp t (params ++ w.turns)
  pub speaks : (way : Way) (statement a : ℕ) (t : Tree) → writers_run way (model_of program) budget statement a ≡ Ok t
      → Speaks (read_variables (model_of program) statement) t
  pub stands : (p : Placed) (xs : List ℤ) → In p (statements_of program) → Runs p.scopes params xs
      → In (visit_of p params xs) (walk_of program params)
  pub paths : PathLaws

pub map_from : {A B : Type 0} (f : A → B) (o : Option A) (y : B) → option_map f o ≡ Some y
    → (x : A) × (o ≡ Some x) × (f x ≡ y)
map_from f None y h = absurd cc
map_from f (Some x) y h = (x, refl, cc)

-- an access of the model as one of an instance, where it touches the cell
pub record IsSideOf (program : Program) (params : List ℤ) (own : Side) (v : Visit) (c : Cell) : Type 0 where
  pub slot : slice_get (model_of program).statements v.number ≡ Some own.statement
  pub number : own.statement.number ≡ v.number
  pub size : length v.turns ≡ loops_of own
  pub holds : Satisfies own.statement.domain (v.turns ++ params)
  pub cell : cell_of own.access (v.turns ++ params) ≡ c
  pub written : own.number ≡ 0 → written_of (Some own.statement) ≡ Some own

written_at : (m : ℕ) (p : Placed) (a : ℕ) (g : Access) → slice_get (accesses p.body) a ≡ Some g → a ≡ 0
    → written_of (Some (modelled m p)) ≡ Some (side_at m p a g)
written_at m p zero g e z =
    let same : p.body.place ≡ g = cc in ap (λ (f : Access). Some (side_at m p 0 f)) same
written_at m p (suc a) g e z = absurd cc

placed_side : (program : Program) (params : List ℤ) (budget : ℕ) (p : Placed) (xs : List ℤ) (a : ℕ) (g : Access)
    → CoverLaws program params budget → In p (statements_of program) → Runs p.scopes params xs
    → In (visit_of p params xs) (walk_of program params) → slice_get (accesses p.body) a ≡ Some g
    → IsSideOf program params (side_at (length program.parameters) p a g) (visit_of p params xs)
    (cell_of g (point_of p.scopes params xs))
placed_side program params budget p xs a g laws stands runs walked e =
    let m = length program.parameters in
    let size = laws.walk.turns p.scopes params xs runs in
    let f = place_of (statements_of program) p stands in
    let here : slice_get (statements_of program) p.number ≡ Some p =
    subst (λ (k : ℕ). slice_get (statements_of program) k ≡ Some p) (sym (laws.number f.0 p f.1)) f.1 in
    record {
      slot = get_map (modelled m) (statements_of program) p.number p here;
      number = refl;
      size = size;
      holds = (instance_is_point program params (modelled m p) (visit_of p params xs) laws.walk laws.count
          (record { statement = in_map (modelled m) p (statements_of program) stands; walked = walked; number = refl })).1;
      cell = subst (λ (k : ℕ). cell_of (access_over k p g) (xs ++ params) ≡ cell_of g (point_of p.scopes params xs))
          laws.count (cell_of-access p g params xs size);
      written = λ z. written_at m p a g e z;
    }

-- each access of an instance is one of the model's
pub has_side : (program : Program) (params : List ℤ) (budget : ℕ) (v : Visit) (a : ℕ) (g : Access)
    → CoverLaws program params budget → In v (walk_of program params) → slice_get (accesses v.body) a ≡ Some g
    → (own : Side) × In own (sides_in (model_of program)) × (own.number ≡ a)
    × IsSideOf program params own v (cell_of g v.point)
has_side program params budget v a g laws walked e =
    let f = laws.walk.found v walked in
    let m = length program.parameters in
    subst (λ (u : Visit). In u (walk_of program params) → slice_get (accesses u.body) a ≡ Some g
    → (own : Side) × In own (sides_in (model_of program)) × (own.number ≡ a)
    × IsSideOf program params own u (cell_of g u.point)) (sym f.4)
    (λ there is. (
      side_at m f.0 a g,
      sides_from_access m (statements_of program) f.0 a g f.2 is,
      refl,
      placed_side program params budget f.0 f.1 a g laws f.2 f.3 there is,
    )) walked e

-- an access of the model as one of the text
text_access : (program : Program) (own : Side) → In own (sides_in (model_of program))
    → (p : Placed) × (g : Access) × In p (statements_of program) × (slice_get (accesses p.body) own.number ≡ Some g)
    × (own ≡ side_at (length program.parameters) p own.number g)
text_access program own among =
    let m = length program.parameters in
    let q = in_flat_map_from sides_of (model_of program).statements own among in
    let p = statement_from program q.0 q.1 in
    let r = side_to q.0 0 q.0.accesses own q.2 in
    let j : r.1.0 ≡ own.number = let e = r.1.1 in omega (arith, e) in
    let there : option_map (access_over m p.0) (slice_get (accesses p.0.body) own.number) ≡ Some own.access =
    sym (slice_get-map (access_over m p.0) (accesses p.0.body) own.number)
    ∙ (ap₂ (λ (z : Modelled) (i : ℕ). slice_get z.accesses i) (sym p.2) (sym j) ∙ r.1.2) in
    let g = map_from (access_over m p.0) (slice_get (accesses p.0.body) own.number) own.access there in (
      p.0,
      g.0,
      p.1,
      g.1,
      ap₂ (λ (z : Modelled) (a : Access). side z own.number a) (r.0 ∙ p.2) (sym g.2),
    )

-- so it is that of each instance of its statement
pub is_side : (program : Program) (params : List ℤ) (budget : ℕ) (own : Side) (v : Visit)
    → CoverLaws program params budget → In own (sides_in (model_of program)) → In v (walk_of program params)
    → v.number ≡ own.statement.number
    → (g : Access) × (slice_get (accesses v.body) own.number ≡ Some g)
    × IsSideOf program params own v (cell_of g v.point)
is_side program params budget own v laws among walked number =
    let m = length program.parameters in
    let a = text_access program own among in
    let g = a.1 in
    let f = laws.walk.found v walked in
    let here : a.0.number ≡ f.0.number =
    sym (ap (λ (s : Side). s.statement.number) a.4) ∙ (sym number ∙ ap (λ (u : Visit). u.number) f.4) in
    let same : a.0 ≡ f.0 = laws.walk.same a.0 f.0 a.2 f.2 here in
    let is : slice_get (accesses f.0.body) own.number ≡ Some g =
    subst (λ (p : Placed). slice_get (accesses p.body) own.number ≡ Some g) same a.3 in
    let side : side_at m f.0 own.number g ≡ own =
    sym (subst (λ (p : Placed). own ≡ side_at m p own.number g) same a.4) in
    subst (λ (u : Visit). In u (walk_of program params)
    → (h : Access) × (slice_get (accesses u.body) own.number ≡ Some h)
    × IsSideOf program params own u (cell_of h u.point)) (sym f.4)
    (λ there. (
      g,
      is,
      subst (λ (s : Side). IsSideOf program params s (visit_of f.0 params f.1) (cell_of g (point_of f.0.scopes params f.1)))
          side (placed_side program params budget f.0 f.1 own.number g laws f.2 f.3 there is),
    )) walked
