-- The whole points of an access's dependences in a role are its covers, or all its conflicts.
use Rattle.dataflow.proofs.Common.{◌≡◌, ℕ, suc, ◌+◌, ℤ, List, [], ◌∷◌, ◌++◌, length, All, Option, Some, None, Ok, Err}
use Rattle.dataflow.proofs.Common.{inl, inr, sym, ap, ap₂, subst, ◌∙◌, refl, arith, ◌↔◌, ◌-◌, slice_get, nat_eq}
use Rattle.dataflow.proofs.Common.{option_and_then, option_map, Contains, eqb-true, values_of, accesses, cell_at}
use Rattle.dataflow.proofs.Common.{cell_of, In, Access, Program, Visit, Instance, instance, walk_of, both}
use Rattle.dataflow.proofs.Common.{in_from_place, place_of, Satisfies, condensed_points, Leaf, found, LeafPath, AreOver}
use Rattle.dataflow.proofs.Common.{binds_in, live_paths, Source, source_of, Tree, value, Dependence, Modelled, model_of}
use Rattle.dataflow.proofs.Common.{Relates, IsKernelModel, Side, loops_of, sides_in, conflicts_of, IsEnd, parts_of}
use Rattle.dataflow.proofs.Common.{stands, none_bound, in_flat_map_from, HavePoint, IsCoverOf, conflicts_at, is_in_role}
use Rattle.dataflow.proofs.Common.{role_deps, told_deps, path_rows, turn_equalities, deps_of_leaf, deps_with, leaf_dep}
use Rattle.dataflow.proofs.Common.{leaf_deps, leaf_layout, pair_system, writer_begins, writer_of, Names, Halt}
use Rattle.dataflow.proofs.Common.{reader_end, wanted_writer, Stopped, read_variables, turns_in, writers_run}
use Rattle.scop_syntax.proofs.Common.{PlacesConflict}
use Rattle.quast_trees.specs.Leaf.{initial}
use Rattle.quast_joins.specs.declared.way.Way.{Way}
use Rattle.quast_joins.specs.declared.way.Way.TheVariants.{Later, Earlier}
use Rattle.iteration_domains.specs.Related.{point_of}
use Rattle.iteration_domains.proofs.Instances.{point_is_instance}
use Rattle.conflict_deps.specs.Pairs.{IsPoint, IsPair}
use Rattle.dataflow.specs.CoverPoints.{IsConflictOf, IsPointOf, reader_of}
use Rattle.dataflow.proofs.AccessSides.{CoverLaws, IsSideOf, has_side, is_side}
use Rattle.dataflow.proofs.CoverEnds.{writer_slot}
use Rattle.dataflow.proofs.HeldCovers.{forms_long, in_role, leaf_goes, leaf_turns, meets, met_pair, role_point}
use Rattle.dataflow.proofs.LeafPairs.{HoldsPair, Up, Zero, pair_parts}
use Rattle.dataflow.proofs.ResolvedWriters.{chosen_in, in_chosen}

-- a pair that a dependence relates is a whole point of it
pub related_point : (params : List ℤ) (d : Dependence) (x y : Instance) → Relates params d x y → IsPointOf params d x y
related_point params d x y r =
    record {
      source = r.source;
      target = r.target;
      source_size = r.source_size;
      target_size = r.target_size;
      bound = r.bound;
      bound_size = r.bound_size;
      holds = (r.equalities, r.rows);
    }

-- ---- covers are points

-- the turns of two instances in their roles
abbrev writer_from : Way → Instance → Instance → Instance
writer_from Later x y = x
writer_from Earlier x y = y

cover_point : (way : Way) (program : Program) (params : List ℤ) (budget : ℕ) (reader : Side) (x y : Instance)
    → CoverLaws program params budget → In reader (sides_in (model_of program))
    → IsCoverOf way (walk_of program params) reader.statement.number reader.number x y
    → HavePoint params (role_deps budget way (model_of program) reader) x y
cover_point way program params budget reader x y laws among h =
    let pair = by way h in (
      pair.0,
      pair.1,
      related_point params pair.0 x y
          (subst (λ (z : Instance). Relates params pair.0 z y) h.source
          (subst (λ (z : Instance). Relates params pair.0 (instance h.earlier) z) h.target pair.2)),
    )
  where
    by : (way : Way) (h : IsCoverOf way (walk_of program params) reader.statement.number reader.number x y)
        → (d : Dependence) × In d (role_deps budget way (model_of program) reader)
        × Relates params d (instance h.earlier) (instance h.later)
    by Later h =
        met_pair Later program params budget reader h.second h.first h.later h.earlier laws among
        (ap (λ (z : Instance). z.number) h.target ∙ h.is_statement) h.is_earlier
        (meets Later program params h.second h.first reader.number h.later h.is_later h.cover)
    by Earlier h =
        met_pair Earlier program params budget reader h.first h.second h.earlier h.later laws among
        (ap (λ (z : Instance). z.number) h.source ∙ h.is_statement) h.is_later
        (meets Earlier program params h.first h.second reader.number h.earlier h.is_earlier h.cover)

-- ---- points are covers

-- a whole point of a leaf's dependence, taken apart
record LeafPoint (way : Way) (m : ℕ) (reader writer : Side) (p : LeafPath) (params : List ℤ) (x y : Instance)
    : Type 0 where
  read : (reader_of way x y).number ≡ reader.statement.number
  wrote : (writer_from way x y).number ≡ writer.statement.number
  size : length (reader_of way x y).turns ≡ loops_of reader
  writer_size : length (writer_from way x y).turns ≡ loops_of writer
  holds : Satisfies reader.statement.domain ((reader_of way x y).turns ++ params)
  bound : List ℤ
  bound_size : length bound ≡ binds_in p.turns
  turn : Zero (turn_equalities (leaf_layout way m (binds_in p.turns) reader writer) (writer_begins way reader)
      p.leaf.forms) (role_point way (reader_of way x y).turns (writer_from way x y).turns bound params)
  path : Up (path_rows (leaf_layout way m (binds_in p.turns) reader writer) 0 p.turns)
      (role_point way (reader_of way x y).turns (writer_from way x y).turns bound params)

bound_are : (a b k n : ℕ) → n ≡ a + b + k - (a + b) → n ≡ k
bound_are a b k n e = omega (arith, e)

leaf_point : (way : Way) (m : ℕ) (reader writer : Side) (p : LeafPath) (params : List ℤ) (x y : Instance)
    → IsPointOf params (leaf_dep way m reader writer p) x y → LeafPoint way m reader writer p params x y
leaf_point Later m reader writer p params x y h =
    let k = binds_in p.turns in
    let turns = turn_equalities (leaf_layout Later m k reader writer) 0 p.leaf.forms in
    let path = path_rows (leaf_layout Later m k reader writer) 0 p.turns in
    let size = bound_are (loops_of writer) (loops_of reader) k (length h.bound) h.bound_size in
    let holds = (condensed_points (pair_system m k writer reader turns path) (point_of params h.bound x y)).1 h.holds in
    let parts : HoldsPair writer reader x.turns y.turns h.bound params turns path =
    pair_parts m k writer reader x.turns y.turns h.bound params turns path size h.source_size h.target_size holds.0
    holds.1 in
    record {
      read = h.target;
      wrote = h.source;
      size = h.target_size;
      writer_size = h.source_size;
      holds = parts.target;
      bound = h.bound;
      bound_size = size;
      turn = parts.turn;
      path = parts.path;
    }
leaf_point Earlier m reader writer p params x y h =
    let k = binds_in p.turns in
    let turns = turn_equalities (leaf_layout Earlier m k reader writer) (loops_of reader) p.leaf.forms in
    let path = path_rows (leaf_layout Earlier m k reader writer) 0 p.turns in
    let size = bound_are (loops_of reader) (loops_of writer) k (length h.bound) h.bound_size in
    let holds = (condensed_points (pair_system m k reader writer turns path) (point_of params h.bound x y)).1 h.holds in
    let parts : HoldsPair reader writer x.turns y.turns h.bound params turns path =
    pair_parts m k reader writer x.turns y.turns h.bound params turns path size h.source_size h.target_size holds.0
    holds.1 in
    record {
      read = h.source;
      wrote = h.target;
      size = h.source_size;
      writer_size = h.target_size;
      holds = parts.source;
      bound = h.bound;
      bound_size = size;
      turn = parts.turn;
      path = parts.path;
    }

contained : {A : Type 0} (xs : List A) (x : A) → In x xs → Contains xs x
contained [] x h = absurd h
contained (y ∷ ys) x (inl e) = (0, omega arith, sym e)
contained (y ∷ ys) x (inr h) = let c = contained ys x h in let less = c.1 in (suc c.0, omega (arith, less), c.2)

-- what an answer names
abbrev source_in : Leaf → Option Source
source_in initial = None
source_in (found s xs) = s

abbrev turns_found : Leaf → List ℤ
turns_found initial = []
turns_found (found s xs) = xs

-- an instance of the reader, and who writes there
record Written (way : Way) (program : Program) (params : List ℤ) (access : ℕ) (r s : Instance) : Type 0 where
  place : ℕ
  visit : Visit
  is : slice_get (walk_of program params) place ≡ Some visit
  reads : instance visit ≡ r
  writer : ℕ
  writes : Visit
  is_writer : slice_get (walk_of program params) writer ≡ Some writes
  wrote : instance writes ≡ s
  wanted : option_and_then (wanted_writer way (walk_of program params) place) (cell_at (walk_of program params) place access)
      ≡ Some writer

instance_of : (v : Visit) (x : Instance) → v.number ≡ x.number → v.turns ≡ x.turns → instance v ≡ x
instance_of v x n t = ap₂ (λ (k : ℕ) (xs : List ℤ). record { number = k; turns = xs }) n t

cell_there : (visits : List Visit) (j a : ℕ) (v : Visit) (g : Access) → slice_get visits j ≡ Some v
    → slice_get (accesses v.body) a ≡ Some g → cell_at visits j a ≡ Some (cell_of g v.point)
cell_there visits j a v g at is =
    ap (option_and_then (λ (w : Visit). option_map (λ (f : Access). cell_of f w.point) (slice_get (accesses w.body) a)))
    at
    ∙ ap (option_map (λ (f : Access). cell_of f v.point)) is

-- the writer of a leaf is at the turns that the leaf's forms give
writer_is : (program : Program) (params : List ℤ) (budget : ℕ) (writer : Side) (i : ℕ) (u : Visit) (o : Option Source)
    → CoverLaws program params budget → slice_get (walk_of program params) i ≡ Some u
    → o ≡ Some (source_of u.number u.loops) → writer_of (model_of program) o ≡ Some writer
    → (writer.statement.number ≡ u.number) × (length u.turns ≡ loops_of writer)
writer_is program params budget writer i u o laws there source named =
    let model = model_of program in
    let slot = writer_slot model (source_of u.number u.loops) writer (sym (ap (writer_of model) source) ∙ named) in
    let side = has_side program params budget u 0 u.body.place laws
    (in_from_place (walk_of program params) i u there) refl in
    let own = side.3.slot in
    let one : side.0.statement ≡ writer.statement = cc in (
      laws.model.places u.number writer.statement slot,
      side.3.size ∙ ap (λ (s : Modelled). s.domain.dimensions) one,
    )

-- the reader's instance at place j, and the answer of its quast there
reader_finds : (way : Way) (program : Program) (params : List ℤ) (budget : ℕ) (reader writer : Side) (t : Tree)
    (p : LeafPath) (x y : Instance) (j : ℕ) (w : Visit) (g : Access) → CoverLaws program params budget
    → writers_run way (model_of program) budget w.number reader.number ≡ Ok t → Contains (live_paths t) p
    → writer_of (model_of program) p.leaf.source ≡ Some writer
    → LeafPoint way (length program.parameters) reader writer p params x y
    → slice_get (walk_of program params) j ≡ Some w → slice_get (accesses w.body) reader.number ≡ Some g
    → IsSideOf program params reader w (cell_of g w.point) → w.turns ≡ (reader_of way x y).turns
    → Written way program params reader.number (reader_of way x y) (writer_from way x y)
reader_finds way program params budget reader writer t p x y j w g laws run live named h there is_access side turns =
    let m = length program.parameters in
    let visits = walk_of program params in
    let c = cell_of g w.point in
    let ys = (reader_of way x y).turns in
    let xs = (writer_from way x y).turns in
    let whole = (params ++ ys) ++ h.bound in
    let n = read_variables (model_of program) w.number in
    let wide : n ≡ m + loops_of reader = ap (λ (o : Option Modelled). m + turns_in o) side.slot in
    let speaks = laws.speaks way w.number reader.number t run in
    let over = laws.paths.over t n p speaks live in
    let goes = (leaf_goes way m reader writer p.turns ys xs h.bound params laws.count h.size h.writer_size h.bound_size
    (subst (λ (i : ℕ). AreOver i p.turns) wide over.0)).0 h.path in
    let names : Names visits (value t (params ++ ys)) (wanted_writer way visits j c) =
    subst (λ (zs : List ℤ). Names visits (value t (params ++ zs)) (wanted_writer way visits j c)) turns
    (laws.names way j w reader.number c t
    (record { place = there; access = g; is_access = is_access; cell = refl }) run) in
    at (wanted_writer way visits j c) refl (subst (λ (l : Leaf). Names visits l (wanted_writer way visits j c))
    (laws.paths.answers t n (params ++ ys) h.bound p speaks live goes) names)
    (subst (λ (i : ℕ). All (λ f. length f.coefficients ≡ i + binds_in p.turns) p.leaf.forms) wide over.2)
  where
    at : (o : Option ℕ) → wanted_writer way (walk_of program params) j (cell_of g w.point) ≡ o
        → Names (walk_of program params)
        (found p.leaf.source (values_of p.leaf.forms ((params ++ (reader_of way x y).turns) ++ h.bound))) o
        → All (λ f. length f.coefficients ≡ length program.parameters + loops_of reader + binds_in p.turns) p.leaf.forms
        → Written way program params reader.number (reader_of way x y) (writer_from way x y)
    at None e names sizes = absurd cc
    at (Some i) e (u, is_writer, answer) sizes =
        let ys = (reader_of way x y).turns in
        let xs = (writer_from way x y).turns in
        let values = ap turns_found answer in
        let source = ap source_in answer in
        let own = writer_is program params budget writer i u p.leaf.source laws is_writer source named in
        let long : length p.leaf.forms ≡ length xs =
        forms_long p.leaf.forms ((params ++ ys) ++ h.bound) u.turns values ∙ (own.1 ∙ sym h.writer_size) in
        let same = (leaf_turns way (length program.parameters) (binds_in p.turns) reader writer p.leaf.forms ys xs
        h.bound params laws.count h.size h.writer_size h.bound_size sizes long).0 h.turn in
        record {
          place = j;
          visit = w;
          is = there;
          reads = instance_of w (reader_of way x y) (sym side.number ∙ sym h.read) turns;
          writer = i;
          writes = u;
          is_writer = is_writer;
          wrote = instance_of u (writer_from way x y) (sym own.0 ∙ sym h.wrote) (sym values ∙ sym same);
          wanted = ap (option_and_then (wanted_writer way (walk_of program params) j))
              (cell_there (walk_of program params) j reader.number w g there is_access) ∙ e;
        }

-- a whole point of a leaf's dependence is an instance of the reader and its writer
leaf_writes : (way : Way) (program : Program) (params : List ℤ) (budget : ℕ) (reader writer : Side) (t : Tree)
    (p : LeafPath) (x y : Instance) → CoverLaws program params budget → In reader (sides_in (model_of program))
    → writers_run way (model_of program) budget reader.statement.number reader.number ≡ Ok t
    → In p (live_paths t) → writer_of (model_of program) p.leaf.source ≡ Some writer
    → LeafPoint way (length program.parameters) reader writer p params x y
    → Written way program params reader.number (reader_of way x y) (writer_from way x y)
leaf_writes way program params budget reader writer t p x y laws among run live named h =
    let model = model_of program in
    let own = in_from_place model.statements reader.statement.number reader.statement (stands model reader laws.model among)
    in
    let w = point_is_instance program params reader.statement (reader_of way x y).turns laws.stands laws.count own h.size
    h.holds in
    let j = place_of (walk_of program params) w.0 w.1.walked in
    let side = is_side program params budget reader w.0 laws among w.1.walked w.1.number in
    reader_finds way program params budget reader writer t p x y j.0 w.0 side.0 laws
    (ap (λ (i : ℕ). writers_run way model budget i reader.number) w.1.number ∙ run) (contained (live_paths t) p live)
    named h j.1 side.1 side.2 w.2

-- a writer and its access are a cover
written_cover : (way : Way) (program : Program) (params : List ℤ) (statement access : ℕ) (x y : Instance)
    → (reader_of way x y).number ≡ statement
    → Written way program params access (reader_of way x y) (writer_from way x y)
    → IsCoverOf way (walk_of program params) statement access x y
written_cover Later program params statement access x y number h =
    record {
      first = h.writer;
      second = h.place;
      earlier = h.writes;
      later = h.visit;
      is_earlier = h.is_writer;
      is_later = h.is;
      source = h.wrote;
      target = h.reads;
      is_statement = number;
      cover = h.wanted;
    }
written_cover Earlier program params statement access x y number h =
    record {
      first = h.place;
      second = h.writer;
      earlier = h.visit;
      later = h.writes;
      is_earlier = h.is;
      is_later = h.is_writer;
      source = h.reads;
      target = h.wrote;
      is_statement = number;
      cover = h.wanted;
    }

pub point_cover : (way : Way) (program : Program) (params : List ℤ) (budget : ℕ) (reader : Side) (t : Tree) (x y : Instance)
    → CoverLaws program params budget → In reader (sides_in (model_of program))
    → writers_run way (model_of program) budget reader.statement.number reader.number ≡ Ok t
    → HavePoint params (leaf_deps way (model_of program) reader t) x y
    → IsCoverOf way (walk_of program params) reader.statement.number reader.number x y
point_cover way program params budget reader t x y laws among run h =
    let p = in_flat_map_from (deps_of_leaf way (model_of program) reader) (live_paths t) h.0 h.1 in
    of_leaf p.0 p.1 (writer_of (model_of program) p.0.leaf.source) refl p.2
  where
    of_leaf : (p : LeafPath) → In p (live_paths t) → (o : Option Side) → writer_of (model_of program) p.leaf.source ≡ o
        → In h.0 (deps_with way (model_of program).parameters reader p o)
        → IsCoverOf way (walk_of program params) reader.statement.number reader.number x y
    of_leaf p live None e i = absurd i
    of_leaf p live (Some writer) e (inr none) = absurd none
    of_leaf p live (Some writer) e (inl same) =
        let l = leaf_point way (length program.parameters) reader writer p params x y
        (subst (λ (z : Dependence). IsPointOf params z x y) same h.2) in
        written_cover way program params reader.statement.number reader.number x y l.read
        (leaf_writes way program params budget reader writer t p x y laws among run live e l)

-- where the run of an access ends well, its points are its covers
pub told_points : (way : Way) (program : Program) (params : List ℤ) (budget : ℕ) (reader : Side) (t : Tree)
    (x y : Instance) → CoverLaws program params budget → In reader (sides_in (model_of program))
    → writers_run way (model_of program) budget reader.statement.number reader.number ≡ Ok t
    → HavePoint params (role_deps budget way (model_of program) reader) x y
    ↔ IsCoverOf way (walk_of program params) reader.statement.number reader.number x y
told_points way program params budget reader t x y laws among run = (
  λ h. point_cover way program params budget reader t x y laws among run
      (subst (λ (ds : List Dependence). HavePoint params ds x y) (ap (told_deps way (model_of program) reader) run) h),
  cover_point way program params budget reader x y laws among,
)

-- ---- conflicts

-- a dependence that binds no quotient has a point just where the turns of both and the parameters are one
stopped_conflict : (way : Way) (program : Program) (params : List ℤ) (statement access : ℕ) (x y : Instance)
    → IsKernelModel (model_of program)
    → ((dep : Dependence) (xs ys : List ℤ) → IsPoint program params dep xs ys
    → (i : ℕ) × (j : ℕ) × IsPair program params dep xs ys i j)
    → HavePoint params (conflicts_at way (model_of program) statement access) x y
    → IsConflictOf way (walk_of program params) statement access x y
stopped_conflict way program params statement access x y model points h =
    let d = h.0 in
    let chosen = chosen_in (is_in_role way statement access) (conflicts_of (model_of program)) d h.1 in
    let among = chosen.0 in
    let none = nothing h.2.bound (h.2.bound_size ∙ none_bound (model_of program) d (parts_of (model_of program) d model
    among)) in
    let pair = points d x.turns y.turns (record {
      among = among;
      source = h.2.source_size;
      target = h.2.target_size;
      holds = subst (λ (qs : List ℤ). Satisfies d.system (x.turns ++ (y.turns ++ (qs ++ params)))) none h.2.holds;
    }) in
    let ends = both (nat_eq (reader_end way d).statement statement) (nat_eq (reader_end way d).access access) chosen.1 in
    of_pair way pair.0 pair.1 pair.2 (eqb-true (reader_end way d).statement statement ends.0)
    (eqb-true (reader_end way d).access access ends.1)
  where
    nothing : (qs : List ℤ) → length qs ≡ 0 → qs ≡ []
    nothing [] e = refl
    nothing (q ∷ qs) e = absurd (omega (arith, e))

    of_pair : (way : Way) (i j : ℕ) → IsPair program params h.0 x.turns y.turns i j
        → (reader_end way h.0).statement ≡ statement → (reader_end way h.0).access ≡ access
        → IsConflictOf way (walk_of program params) statement access x y
    of_pair Later i j p s a =
        record {
          first = i;
          second = j;
          conflict = p.conflict;
          source = instance_of p.conflict.earlier x (sym p.source.statement ∙ sym h.2.source) p.source_turns;
          target = instance_of p.conflict.later y (sym p.target.statement ∙ sym h.2.target) p.target_turns;
          is_statement = h.2.target ∙ s;
          is_access = sym p.target.access ∙ a;
        }
    of_pair Earlier i j p s a =
        record {
          first = i;
          second = j;
          conflict = p.conflict;
          source = instance_of p.conflict.earlier x (sym p.source.statement ∙ sym h.2.source) p.source_turns;
          target = instance_of p.conflict.later y (sym p.target.statement ∙ sym h.2.target) p.target_turns;
          is_statement = h.2.source ∙ s;
          is_access = sym p.source.access ∙ a;
        }

stopped_point : (way : Way) (program : Program) (params : List ℤ) (statement access : ℕ) (x y : Instance)
    → IsKernelModel (model_of program)
    → ((i j : ℕ) (c : PlacesConflict (walk_of program params) i j)
    → (dep : Dependence) × IsPoint program params dep c.earlier.turns c.later.turns
    × IsEnd dep.source c.earlier c.first × IsEnd dep.target c.later c.second)
    → IsConflictOf way (walk_of program params) statement access x y
    → HavePoint params (conflicts_at way (model_of program) statement access) x y
stopped_point way program params statement access x y model conflicts h =
    let f = conflicts h.first h.second h.conflict in
    let d = f.0 in
    let none = none_bound (model_of program) d (parts_of (model_of program) d model f.1.among) in
    let ends = by way h d f.2 f.3 in (
      d,
      in_chosen (is_in_role way statement access) (conflicts_of (model_of program)) d f.1.among
          (in_role way statement access d ends.0 ends.1),
      subst (λ (z : Instance). IsPointOf params d z y) h.source
          (subst (λ (z : Instance). IsPointOf params d (instance h.conflict.earlier) z) h.target
          (record {
            source = sym f.2.statement;
            target = sym f.3.statement;
            source_size = f.1.source;
            target_size = f.1.target;
            bound = [];
            bound_size = sym none;
            holds = f.1.holds;
          })),
    )
  where
    by : (way : Way) (h : IsConflictOf way (walk_of program params) statement access x y) (d : Dependence)
        → IsEnd d.source h.conflict.earlier h.conflict.first → IsEnd d.target h.conflict.later h.conflict.second
        → ((reader_end way d).statement ≡ statement) × ((reader_end way d).access ≡ access)
    by Later h d s t = (t.statement ∙ (ap (λ (z : Instance). z.number) h.target ∙ h.is_statement), t.access ∙ h.is_access)
    by Earlier h d s t = (s.statement ∙ (ap (λ (z : Instance). z.number) h.source ∙ h.is_statement), s.access ∙ h.is_access)

-- where it stops, they are its conflicts
pub stopped_points : (way : Way) (program : Program) (params : List ℤ) (budget : ℕ) (reader : Side)
    (stop : Halt Stopped) (x y : Instance) → IsKernelModel (model_of program)
    → ((dep : Dependence) (xs ys : List ℤ) → IsPoint program params dep xs ys
    → (i : ℕ) × (j : ℕ) × IsPair program params dep xs ys i j)
    → ((i j : ℕ) (c : PlacesConflict (walk_of program params) i j)
    → (dep : Dependence) × IsPoint program params dep c.earlier.turns c.later.turns
    × IsEnd dep.source c.earlier c.first × IsEnd dep.target c.later c.second)
    → writers_run way (model_of program) budget reader.statement.number reader.number ≡ Err stop
    → HavePoint params (role_deps budget way (model_of program) reader) x y
    ↔ IsConflictOf way (walk_of program params) reader.statement.number reader.number x y
stopped_points way program params budget reader stop x y model points conflicts run =
    let same : role_deps budget way (model_of program) reader
    ≡ conflicts_at way (model_of program) reader.statement.number reader.number =
    ap (told_deps way (model_of program) reader) run in (
      λ h. stopped_conflict way program params reader.statement.number reader.number x y model points
          (subst (λ (ds : List Dependence). HavePoint params ds x y) same h),
      λ h. subst (λ (ds : List Dependence). HavePoint params ds x y) (sym same)
          (stopped_point way program params reader.statement.number reader.number x y model conflicts h),
    )
