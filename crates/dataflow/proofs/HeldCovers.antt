-- Each cover of a walk is a pair of one of the dependences of its accesses with their writers.
use Rattle.dataflow.proofs.Common.{◌≡◌, ℕ, suc, ◌+◌, Bool, true, false, ℤ, pos, ◌≤ℤ◌, List, [], ◌∷◌, ◌++◌, length, All}
use Rattle.dataflow.proofs.Common.{Option, Some, Result, Ok, Err, inl, inr, sym, ap, subst, ◌∙◌, refl, arith, ◌↔◌}
use Rattle.dataflow.proofs.Common.{slice_get, nat_eq, if◌then◌else◌, option_and_then, option_map, Contains, eq-eqb}
use Rattle.dataflow.proofs.Common.{eqb-true, length-map, All-cons, All-nil, Affine, value_of, values_of, NotNegative}
use Rattle.dataflow.proofs.Common.{Cell, accesses, cell_at, cell_of, In, is_marked, Access, Program, Visit, instance}
use Rattle.dataflow.proofs.Common.{walk_of, last_writer, next_writer, in_back, in_from_place, in_front, member_at}
use Rattle.dataflow.proofs.Common.{last_is, next_is, Satisfies, condensed_points, found, Turn, up, down, bound}
use Rattle.dataflow.proofs.Common.{LeafPath, AreOver, Goes, binds_in, live_paths, Source, source_of, Tree, value}
use Rattle.dataflow.proofs.Common.{Dependence, Modelled, KernelModel, model_of, AreInRange, Relates, IsKernelModel}
use Rattle.dataflow.proofs.Common.{Side, loops_of, sides_in, conflicts_of, IsEnd, TouchesAt, in_flat_map, parts_of}
use Rattle.dataflow.proofs.Common.{none_bound, Writes, covers_at, covers_of, is_in_role, next_deps, role_deps, roles_at}
use Rattle.dataflow.proofs.Common.{told_deps, path_rows, turn_equalities, deps_of_leaf, deps_with, leaf_dep, leaf_deps}
use Rattle.dataflow.proofs.Common.{leaf_layout, pair_dep, pair_equalities, pair_rows, pair_system, writer_begins}
use Rattle.dataflow.proofs.Common.{writer_of, written_of, Names, Halt, IsWritePoint, reader_end, wanted_writer}
use Rattle.dataflow.proofs.Common.{writer_end, Stopped, read_variables, turns_in, writers_run}
use Rattle.scop_syntax.proofs.Common.{written}
use Rattle.std.proofs.lemmas.Option.{option_and_then_some}
use Rattle.quast_joins.specs.declared.way.Way.{Way}
use Rattle.quast_joins.specs.declared.way.Way.TheVariants.{Later, Earlier}
use Rattle.iteration_domains.specs.Held.{HoldCovers, IsPairIn}
use Rattle.conflict_deps.proofs.RelatedPairs.{pair_of}
use Rattle.conflict_deps.proofs.Sides.{in_unless}
use Rattle.dataflow.specs.Leaves.{first_of, second_of}
use Rattle.dataflow.proofs.AccessSides.{CoverLaws, IsSideOf, has_side, is_side, map_from}
use Rattle.dataflow.proofs.LeafPairs.{IsLeafPair, Up, Zero, pair_point, pair_up, pair_zero}
use Rattle.dataflow.proofs.LeafPoints.{path_holds, turns_hold}
use Rattle.dataflow.proofs.ResolvedWriters.{in_chosen}
use Rattle.scop_syntax.proofs.Writers as writers

pub all_up : (qs : List ℤ) → NotNegative qs → All (λ z. pos 0 ≤ℤ z) qs
all_up [] h = All-nil (λ (z : ℤ). pos 0 ≤ℤ z)
all_up (q ∷ qs) h = All-cons (λ (z : ℤ). pos 0 ≤ℤ z) q qs h.0 (all_up qs h.1)

goes_size : (ts : List Turn) (point qs : List ℤ) → Goes ts point qs → binds_in ts ≡ length qs
goes_size [] point qs h = ap (λ (zs : List ℤ). length zs) (sym h)
goes_size (up f ∷ ts) point qs h = goes_size ts point qs h.1
goes_size (down f ∷ ts) point qs h = goes_size ts point qs h.1
goes_size (bound f d ∷ ts) point [] h = absurd h
goes_size (bound f d ∷ ts) point (q ∷ qs) h = ap suc (goes_size ts (point ++ q ∷ []) qs h.1)

-- a point of a leaf's system is a pair that it relates
relates : (params : List ℤ) (s t : Side) (v w : Visit) (qs : List ℤ) (turns path : List Affine) (m k : ℕ)
    → length params ≡ m → length qs ≡ k → IsLeafPair s t v.turns w.turns qs params turns path → AreInRange params
    → v.number ≡ s.statement.number → w.number ≡ t.statement.number → All (λ z. pos 0 ≤ℤ z) v.turns
    → All (λ z. pos 0 ≤ℤ z) w.turns → NotNegative qs
    → Relates params (pair_dep m k s t turns path) (instance v) (instance w)
relates params s t v w qs turns path m k count size is range first second x y q =
    let z = pair_point v.turns w.turns qs params in
    let zero = subst (λ (i : ℕ). Zero (pair_equalities i s t turns) z) size
    (pair_zero s t v.turns w.turns qs params turns path is) in
    let up = subst (λ (i : ℕ). Up (pair_rows i k s t path) z) count
    (subst (λ (i : ℕ). Up (pair_rows (length params) i s t path) z) size
    (pair_up s t v.turns w.turns qs params turns path is)) in
    let holds = (condensed_points (pair_system m k s t turns path) z).0 (zero, up) in
    record {
      range = range;
      source = first;
      target = second;
      source_size = is.source_size;
      target_size = is.target_size;
      source_from_0 = x;
      target_from_0 = y;
      bound = qs;
      bound_size = omega (arith, size);
      bound_from_0 = all_up qs q;
      equalities = holds.0;
      rows = holds.1;
    }

-- the instance that runs first of a reader and its writer, and the other
abbrev pub earlier_visit : Way → Visit → Visit → Visit
earlier_visit Later w u = u
earlier_visit Earlier w u = w

abbrev pub later_visit : Way → Visit → Visit → Visit
later_visit Later w u = w
later_visit Earlier w u = u

-- the turns of a reader and of its writer, the earlier first, what is bound, and the parameters
abbrev pub role_point : Way → List ℤ → List ℤ → List ℤ → List ℤ → List ℤ
role_point Later ys xs qs params = pair_point xs ys qs params
role_point Earlier ys xs qs params = pair_point ys xs qs params

-- the rows of a leaf's path hold just where the reader goes to it
pub leaf_goes : (way : Way) (m : ℕ) (reader writer : Side) (ts : List Turn) (ys xs qs params : List ℤ)
    → length params ≡ m → length ys ≡ loops_of reader → length xs ≡ loops_of writer → length qs ≡ binds_in ts
    → AreOver (m + loops_of reader) ts
    → Up (path_rows (leaf_layout way m (binds_in ts) reader writer) 0 ts) (role_point way ys xs qs params)
    ↔ Goes ts (params ++ ys) qs
leaf_goes Later m reader writer ts ys xs qs params count first second size over =
    path_holds (leaf_layout Later m (binds_in ts) reader writer) ts xs ys [] qs params
    (record { before = second; turns = first; behind = refl; parameters = count }) size refl over
leaf_goes Earlier m reader writer ts ys xs qs params count first second size over =
    path_holds (leaf_layout Earlier m (binds_in ts) reader writer) ts [] ys xs qs params
    (record { before = refl; turns = first; behind = second; parameters = count }) size refl over

-- and its equalities just where the writer's turns are its forms there
pub leaf_turns : (way : Way) (m k : ℕ) (reader writer : Side) (fs : List Affine) (ys xs qs params : List ℤ)
    → length params ≡ m → length ys ≡ loops_of reader → length xs ≡ loops_of writer → length qs ≡ k
    → All (λ f. length f.coefficients ≡ m + loops_of reader + k) fs → length fs ≡ length xs
    → Zero (turn_equalities (leaf_layout way m k reader writer) (writer_begins way reader) fs)
    (role_point way ys xs qs params)
    ↔ (xs ≡ values_of fs ((params ++ ys) ++ qs))
leaf_turns Later m k reader writer fs ys xs qs params count first second size sizes long =
    turns_hold (leaf_layout Later m k reader writer) 0 fs xs [] (ys ++ (qs ++ params)) xs ys [] qs params
    (record { before = second; turns = first; behind = refl; parameters = count }) size sizes refl refl long
leaf_turns Earlier m k reader writer fs ys xs qs params count first second size sizes long =
    turns_hold (leaf_layout Earlier m k reader writer) (loops_of reader) fs xs ys (qs ++ params) [] ys xs qs params
    (record { before = refl; turns = first; behind = second; parameters = count }) size sizes refl first long

-- a pair that is one of the dependences of an access in a role
abbrev pub IsRolePair : Way → Program → List ℤ → ℕ → Side → Visit → Visit → Type 0
IsRolePair way program params budget reader w u = IsPairIn params (role_deps budget way (model_of program) reader)
    (earlier_visit way w u) (later_visit way w u)

-- the writer of a leaf is the access that writes at its source
names_writer : (program : Program) (params : List ℤ) (u : Visit) (c : Cell) (writer : Side) (o : Option Source)
    → writer.number ≡ 0 → IsSideOf program params writer u c → o ≡ Some (source_of u.number u.loops)
    → writer_of (model_of program) o ≡ Some writer
names_writer program params u c writer o zeroth is same =
    ap (writer_of (model_of program)) same ∙ (ap written_of is.slot ∙ is.written zeroth)

-- a path's dependence is among those of its quast
among_leaves : (way : Way) (model : KernelModel) (reader writer : Side) (t : Tree) (p : LeafPath)
    → Contains (live_paths t) p → writer_of model p.leaf.source ≡ Some writer
    → In (leaf_dep way model.parameters reader writer p) (leaf_deps way model reader t)
among_leaves way model reader writer t p h named =
    in_flat_map (deps_of_leaf way model reader) (live_paths t) p (leaf_dep way model.parameters reader writer p)
    (member_at (live_paths t) h.0 p (sym h.2) h.1)
    (subst (λ (o : Option Side). In (leaf_dep way model.parameters reader writer p)
    (deps_with way model.parameters reader p o)) (sym named) (inl refl))

leaf_pair : (way : Way) (m : ℕ) (reader writer : Side) (p : LeafPath) (w u : Visit) (qs params : List ℤ)
    → length w.turns ≡ loops_of reader → length u.turns ≡ loops_of writer
    → Satisfies reader.statement.domain (w.turns ++ params) → Satisfies writer.statement.domain (u.turns ++ params)
    → cell_of reader.access (w.turns ++ params) ≡ cell_of writer.access (u.turns ++ params)
    → NotNegative params
    → Zero (turn_equalities (leaf_layout way m (binds_in p.turns) reader writer) (writer_begins way reader) p.leaf.forms)
    (role_point way w.turns u.turns qs params)
    → Up (path_rows (leaf_layout way m (binds_in p.turns) reader writer) 0 p.turns)
    (role_point way w.turns u.turns qs params)
    → IsLeafPair (first_of way reader writer) (second_of way reader writer) (earlier_visit way w u).turns
    (later_visit way w u).turns qs params
    (turn_equalities (leaf_layout way m (binds_in p.turns) reader writer) (writer_begins way reader) p.leaf.forms)
    (path_rows (leaf_layout way m (binds_in p.turns) reader writer) 0 p.turns)
leaf_pair Later m reader writer p w u qs params first second holds writes cell range turn path =
    record {
      source_size = second;
      target_size = first;
      source = writes;
      target = holds;
      cell = sym (ap (λ (c : Cell). c.subscripts) cell);
      up = range;
      turn = turn;
      path = path;
    }
leaf_pair Earlier m reader writer p w u qs params first second holds writes cell range turn path =
    record {
      source_size = first;
      target_size = second;
      source = holds;
      target = writes;
      cell = ap (λ (c : Cell). c.subscripts) cell;
      up = range;
      turn = turn;
      path = path;
    }

leaf_relates : (way : Way) (m : ℕ) (reader writer : Side) (p : LeafPath) (w u : Visit) (qs params : List ℤ)
    → length params ≡ m → AreInRange params → binds_in p.turns ≡ length qs
    → w.number ≡ reader.statement.number → u.number ≡ writer.statement.number
    → All (λ z. pos 0 ≤ℤ z) w.turns → All (λ z. pos 0 ≤ℤ z) u.turns → NotNegative qs
    → IsLeafPair (first_of way reader writer) (second_of way reader writer) (earlier_visit way w u).turns
    (later_visit way w u).turns qs params
    (turn_equalities (leaf_layout way m (binds_in p.turns) reader writer) (writer_begins way reader) p.leaf.forms)
    (path_rows (leaf_layout way m (binds_in p.turns) reader writer) 0 p.turns)
    → Relates params (leaf_dep way m reader writer p) (instance (earlier_visit way w u))
    (instance (later_visit way w u))
leaf_relates Later m reader writer p w u qs params count range size first second x y q is =
    relates params writer reader u w qs _ _ m (binds_in p.turns) count (sym size) is range second first y x q
leaf_relates Earlier m reader writer p w u qs params count range size first second x y q is =
    relates params reader writer w u qs _ _ m (binds_in p.turns) count (sym size) is range first second x y q

-- there are as many forms as values
pub forms_long : (fs : List Affine) (x us : List ℤ) → values_of fs x ≡ us → length fs ≡ length us
forms_long fs x us values =
    sym (length-map fs (λ (f : Affine). value_of f x)) ∙ ap (λ (zs : List ℤ). length zs) values

-- an access that goes to a leaf and the writer that it finds there are a pair of the leaf
path_pair : (way : Way) (program : Program) (params : List ℤ) (budget : ℕ) (reader writer : Side) (j k : ℕ) (w u : Visit)
    (c : Cell) (t : Tree) (p : LeafPath) (qs : List ℤ) → CoverLaws program params budget
    → TouchesAt program params j w reader.number c → IsSideOf program params reader w c
    → IsSideOf program params writer u c → writer.number ≡ 0 → slice_get (walk_of program params) k ≡ Some u
    → writers_run way (model_of program) budget w.number reader.number ≡ Ok t → Contains (live_paths t) p
    → Goes p.turns (params ++ w.turns) qs → p.leaf.source ≡ Some (source_of u.number u.loops)
    → values_of p.leaf.forms ((params ++ w.turns) ++ qs) ≡ u.turns
    → IsPairIn params (leaf_deps way (model_of program) reader t) (earlier_visit way w u) (later_visit way w u)
path_pair way program params budget reader writer j k w u c t p qs laws touches reads writes zeroth there run live goes
    source values =
    let model = model_of program in
    let m = length program.parameters in
    let n = read_variables model w.number in
    let speaks = laws.speaks way w.number reader.number t run in
    let over = laws.paths.over t n p speaks live in
    let wide : n ≡ m + loops_of reader = ap (λ (o : Option Modelled). m + turns_in o) reads.slot in
    let quotients = laws.paths.quotients t n (params ++ w.turns) qs p speaks (laws.paths.among t p live) goes
    (laws.signs way j w reader.number c t touches run) in
    let size = goes_size p.turns (params ++ w.turns) qs goes in
    let turn = (leaf_turns way m (binds_in p.turns) reader writer p.leaf.forms w.turns u.turns qs params laws.count
    reads.size writes.size (sym size)
    (subst (λ (i : ℕ). All (λ g. length g.coefficients ≡ i + binds_in p.turns) p.leaf.forms) wide over.2)
    (forms_long p.leaf.forms ((params ++ w.turns) ++ qs) u.turns values)).1 (sym values) in
    let path = (leaf_goes way m reader writer p.turns w.turns u.turns qs params laws.count reads.size writes.size
    (sym size) (subst (λ (i : ℕ). AreOver i p.turns) wide over.0)).1 goes in (
      leaf_dep way model.parameters reader writer p,
      among_leaves way model reader writer t p live
          (names_writer program params u c writer p.leaf.source zeroth writes source),
      leaf_relates way m reader writer p w u qs params laws.count laws.range size (sym reads.number) (sym writes.number)
          (laws.turns w (in_from_place (walk_of program params) j w touches.place))
          (laws.turns u (in_from_place (walk_of program params) k u there)) quotients
          (leaf_pair way m reader writer p w u qs params reads.size writes.size reads.holds writes.holds
          (reads.cell ∙ sym writes.cell) laws.up turn path),
    )

-- where the run of an access ends well, it and its writer are such a pair
told_pair : (way : Way) (program : Program) (params : List ℤ) (budget : ℕ) (reader writer : Side) (j k : ℕ) (w u : Visit)
    (c : Cell) (t : Tree) → CoverLaws program params budget → TouchesAt program params j w reader.number c
    → IsSideOf program params reader w c → IsSideOf program params writer u c → writer.number ≡ 0
    → slice_get (walk_of program params) k ≡ Some u → wanted_writer way (walk_of program params) j c ≡ Some k
    → writers_run way (model_of program) budget w.number reader.number ≡ Ok t
    → IsPairIn params (leaf_deps way (model_of program) reader t) (earlier_visit way w u) (later_visit way w u)
told_pair way program params budget reader writer j k w u c t laws touches reads writes zeroth there wanted run =
    let visits = walk_of program params in
    let point = params ++ w.turns in
    let names : Names visits (value t point) (Some k) =
    subst (Names visits (value t point)) wanted (laws.names way j w reader.number c t touches run) in
    let same : names.0 ≡ u = (let e = sym names.1 ∙ there in cc) in
    let answer : value t point ≡ found (Some (source_of u.number u.loops)) u.turns =
    subst (λ (v : Visit). value t point ≡ found (Some (source_of v.number v.loops)) v.turns) same names.2 in
    let f = laws.paths.found t (read_variables (model_of program) w.number) point (Some (source_of u.number u.loops)) u.turns
    (laws.speaks way w.number reader.number t run) answer in
    path_pair way program params budget reader writer j k w u c t f.0 f.1 laws touches reads writes zeroth there run f.2
    f.3 f.4 f.5

-- a conflict in a role
pub in_role : (way : Way) (statement access : ℕ) (dep : Dependence) → (reader_end way dep).statement ≡ statement
    → (reader_end way dep).access ≡ access → is_in_role way statement access dep ≡ true
in_role way statement access dep first second =
    let a : nat_eq (reader_end way dep).statement statement ≡ true =
    eq-eqb (reader_end way dep).statement statement first in
    let b : nat_eq (reader_end way dep).access access ≡ true = eq-eqb (reader_end way dep).access access second in
    rw (a, b) refl

conflict_pair : (way : Way) (program : Program) (params : List ℤ) (w u : Visit) (a : ℕ) (dep : Dependence)
    → IsKernelModel (model_of program) → AreInRange params → IsWritePoint way program params dep u.turns w.turns
    → IsEnd (writer_end way dep) u 0 → IsEnd (reader_end way dep) w a → All (λ z. pos 0 ≤ℤ z) w.turns
    → All (λ z. pos 0 ≤ℤ z) u.turns
    → In dep (conflicts_of (model_of program)) × Relates params dep (instance (earlier_visit way w u))
    (instance (later_visit way w u))
conflict_pair Later program params w u a dep one range is writes reads x y = (
  is.among,
  pair_of program params dep u w 0 a range is writes reads y x
      (none_bound (model_of program) dep (parts_of (model_of program) dep one is.among)),
)
conflict_pair Earlier program params w u a dep one range is writes reads x y = (
  is.among,
  pair_of program params dep w u a 0 range is reads writes x y
      (none_bound (model_of program) dep (parts_of (model_of program) dep one is.among)),
)

-- what is written there is the wanted writer's
pub wanted_writes : (way : Way) (program : Program) (params : List ℤ) (j k : ℕ) (c : Cell)
    → wanted_writer way (walk_of program params) j c ≡ Some k → Writes way (walk_of program params) j c k
wanted_writes Later program params j k c h = let l = last_is (walk_of program params) j c k h in (l.before, l.wrote)
wanted_writes Earlier program params j k c h = let l = next_is (walk_of program params) j c k h in (l.behind, l.wrote)

-- an access and its writer in a role
role_pair : (way : Way) (program : Program) (params : List ℤ) (budget : ℕ) (reader writer : Side) (j k : ℕ) (w u : Visit)
    (c : Cell) → CoverLaws program params budget → TouchesAt program params j w reader.number c
    → IsSideOf program params reader w c → IsSideOf program params writer u c → writer.number ≡ 0
    → slice_get (walk_of program params) k ≡ Some u → wanted_writer way (walk_of program params) j c ≡ Some k
    → IsRolePair way program params budget reader w u
role_pair way program params budget reader writer j k w u c laws touches reads writes zeroth there wanted =
    by (writers_run way (model_of program) budget reader.statement.number reader.number)
    (ap (λ (i : ℕ). writers_run way (model_of program) budget i reader.number) (sym reads.number))
  where
    by : (r : Result Tree (Halt Stopped)) → writers_run way (model_of program) budget w.number reader.number ≡ r
        → IsPairIn params (told_deps way (model_of program) reader r) (earlier_visit way w u) (later_visit way w u)
    by (Ok t) run =
        told_pair way program params budget reader writer j k w u c t laws touches reads writes zeroth there wanted run
    by (Err stop) run =
        let visits = walk_of program params in
        let f = laws.points way j k w reader.number c touches (wanted_writes way program params j k c wanted) in
        let same : f.1 ≡ u = (let e = sym f.2 ∙ there in cc) in
        let x = laws.turns w (in_from_place visits j w touches.place) in
        let y = laws.turns u (in_from_place visits k u there) in
        let point = subst (λ (v : Visit). IsWritePoint way program params f.0 v.turns w.turns) same f.3 in
        let writes_there = subst (λ (v : Visit). IsEnd (writer_end way f.0) v 0) same f.4 in
        let pair = conflict_pair way program params w u reader.number f.0 laws.model laws.range point writes_there f.5 x
        y in (
          f.0,
          in_chosen (is_in_role way reader.statement.number reader.number) (conflicts_of (model_of program)) f.0 pair.0
              (in_role way reader.statement.number reader.number f.0 (f.5.statement ∙ sym reads.number) f.5.access),
          pair.1,
        )

-- the writer that an access is followed by in a role, by the number of the access
then_from : {A B : Type 0} (f : A → Option B) (o : Option A) (y : B) → option_and_then f o ≡ Some y
    → (x : A) × (o ≡ Some x) × (f x ≡ Some y)
then_from f o y h = option_and_then_some f o y h (λ x is goes. (x, is, goes))

-- what the access at place j touches, and who writes it at place k
pub record Meets (way : Way) (program : Program) (params : List ℤ) (j k a : ℕ) (w : Visit) : Type 0 where
  pub cell : Cell
  pub at : cell_at (walk_of program params) j a ≡ Some cell
  pub touches : TouchesAt program params j w a cell
  pub wanted : wanted_writer way (walk_of program params) j cell ≡ Some k

pub meets : (way : Way) (program : Program) (params : List ℤ) (j k a : ℕ) (w : Visit)
    → slice_get (walk_of program params) j ≡ Some w
    → option_and_then (wanted_writer way (walk_of program params) j) (cell_at (walk_of program params) j a) ≡ Some k
    → Meets way program params j k a w
meets way program params j k a w there h =
    let visits = walk_of program params in
    let c = then_from (wanted_writer way visits j) (cell_at visits j a) k h in
    let v = then_from (λ (v : Visit). option_map (λ (g : Access). cell_of g v.point) (slice_get (accesses v.body) a))
    (slice_get visits j) c.0 c.1 in
    let same : v.0 ≡ w = (let e = sym v.1 ∙ there in cc) in
    let g = map_from (λ (g : Access). cell_of g w.point) (slice_get (accesses w.body) a) c.0
    (subst (λ (z : Visit). option_map (λ (g : Access). cell_of g z.point) (slice_get (accesses z.body) a) ≡ Some c.0)
    same v.2) in
    record {
      cell = c.0;
      at = c.1;
      touches = record { place = there; access = g.0; is_access = g.1; cell = g.2 };
      wanted = c.2;
    }

wrote : (way : Way) (visits : List Visit) (j k : ℕ) (c : Cell) (u : Visit) → slice_get visits k ≡ Some u
    → Writes way visits j c k → written u ≡ c
wrote Later visits j k c u there h =
    let f = writers.writer_of (slice_get visits k) c h.1 in
    let same : f.0 ≡ u = (let e = sym f.1 ∙ there in cc) in subst (λ (v : Visit). written v ≡ c) same f.2
wrote Earlier visits j k c u there h =
    let f = writers.writer_of (slice_get visits k) c h.1 in
    let same : f.0 ≡ u = (let e = sym f.1 ∙ there in cc) in subst (λ (v : Visit). written v ≡ c) same f.2

-- an access and its writer are a pair of the access's dependences in the role
pub met_pair : (way : Way) (program : Program) (params : List ℤ) (budget : ℕ) (reader : Side) (j k : ℕ) (w u : Visit)
    → CoverLaws program params budget → In reader (sides_in (model_of program)) → w.number ≡ reader.statement.number
    → slice_get (walk_of program params) k ≡ Some u → Meets way program params j k reader.number w
    → IsRolePair way program params budget reader w u
met_pair way program params budget reader j k w u laws among number there m =
    let visits = walk_of program params in
    let is = is_side program params budget reader w laws among (in_from_place visits j w m.touches.place) number in
    let same : is.0 ≡ m.touches.access = (let e = sym is.1 ∙ m.touches.is_access in cc) in
    let reads = subst (IsSideOf program params reader w) (ap (λ (g : Access). cell_of g w.point) same ∙ m.touches.cell)
    is.2 in
    let wrote_there = wrote way visits j k m.cell u there (wanted_writes way program params j k m.cell m.wanted) in
    let writer = has_side program params budget u 0 u.body.place laws (in_from_place visits k u there) refl in
    role_pair way program params budget reader writer.0 j k w u m.cell laws m.touches reads
    (subst (IsSideOf program params writer.0 u) wrote_there writer.3) writer.2 there m.wanted

-- each access of an instance and its writer are a pair of some access's dependences
pub some_pair : (way : Way) (program : Program) (params : List ℤ) (budget : ℕ) (j k a : ℕ) (w u : Visit)
    → CoverLaws program params budget → slice_get (walk_of program params) k ≡ Some u
    → (m : Meets way program params j k a w)
    → (reader : Side) × In reader (sides_in (model_of program)) × (reader.number ≡ a)
    × (reader.access.array ≡ m.cell.array) × IsRolePair way program params budget reader w u
some_pair way program params budget j k a w u laws there m =
    let r = has_side program params budget w a m.touches.access laws
    (in_from_place (walk_of program params) j w m.touches.place) m.touches.is_access in (
      r.0,
      r.1,
      r.2,
      ap (λ (c : Cell). c.array) (r.3.cell ∙ m.touches.cell),
      met_pair way program params budget r.0 j k w u laws r.1 (sym r.3.number) there
          (subst (λ (i : ℕ). Meets way program params j k i w) (sym r.2) m),
    )

-- a read is no write
is_read : (n r : ℕ) → n ≡ suc r → nat_eq n 0 ≡ false
is_read n r e = by (nat_eq n 0) refl
  where
    by : (b : Bool) → nat_eq n 0 ≡ b → nat_eq n 0 ≡ false
    by false h = h
    by true h = let z = eqb-true n 0 h in absurd (omega (arith, z, e))

-- the array of what is touched is not marked
unmarked_there : (marked : List ℕ) (visits : List Visit) (j a : ℕ) (c d : Cell) → cell_at visits j a ≡ Some c
    → cell_at visits j a ≡ Some d → is_marked marked c.array ≡ false → (array : ℕ) → array ≡ d.array
    → is_marked marked array ≡ false
unmarked_there marked visits j a c d touches there free array is =
    let same : c ≡ d = (let e = sym touches ∙ there in cc) in
    ap (is_marked marked) is ∙ subst (λ (z : Cell). is_marked marked z.array ≡ false) same free

-- so is each cover by a cell of an array that is not marked
pub covers_held : (program : Program) (params : List ℤ) (budget : ℕ) (marked : List ℕ) → CoverLaws program params budget
    → HoldCovers program params marked (covers_of budget marked (model_of program))
covers_held program params budget marked laws i j c v w at_i at_j (inl (a, touches, last)) free =
    let model = model_of program in
    let visits = walk_of program params in
    let met = meets Later program params j i a w at_j (ap (option_and_then (last_writer visits j)) touches ∙ last) in
    let m = some_pair Later program params budget j i a w v laws at_i met in
    let pair = m.4 in (
      pair.0,
      in_flat_map (covers_at budget marked model) (sides_in model) m.0 pair.0 m.1
          (in_unless (is_marked marked m.0.access.array) pair.0 (roles_at budget model m.0)
          (unmarked_there marked visits j a c met.cell touches met.at free m.0.access.array m.3)
          (in_front pair.0 (role_deps budget Later model m.0) (next_deps budget model m.0) pair.1)),
      pair.2,
    )
covers_held program params budget marked laws i j c v w at_i at_j (inr (r, touches, next)) free =
    let model = model_of program in
    let visits = walk_of program params in
    let met = meets Earlier program params i j (suc r) v at_i
    (ap (option_and_then (next_writer visits i)) touches ∙ next) in
    let m = some_pair Earlier program params budget i j (suc r) v w laws at_j met in
    let pair = m.4 in
    let there : In pair.0 (next_deps budget model m.0) =
    subst (λ (b : Bool). In pair.0 (if b then [] else role_deps budget Earlier model m.0))
    (sym (is_read m.0.number r m.2)) pair.1 in (
      pair.0,
      in_flat_map (covers_at budget marked model) (sides_in model) m.0 pair.0 m.1
          (in_unless (is_marked marked m.0.access.array) pair.0 (roles_at budget model m.0)
          (unmarked_there marked visits i (suc r) c met.cell touches met.at free m.0.access.array m.3)
          (in_back pair.0 (role_deps budget Later model m.0) (next_deps budget model m.0) there)),
      pair.2,
    )
