-- The whole points of the conflicts' systems are exactly the pairs of conflicting places, the earlier first.
use Rattle.conflict_deps.proofs.Common.{◌≡◌, ℕ, ◌+◌, ◌<◌, true, false, ℤ, List, [], ◌++◌, length, map, Some, ap, ap₂}
use Rattle.conflict_deps.proofs.Common.{subst, sym, ◌∙◌, refl, arith, length-append, ◌≤◌, slice_get, nat_lt, Affine}
use Rattle.conflict_deps.proofs.Common.{value_of, NotNegative, Access, Program, In, Visit, walk_of, common, IsPlaced}
use Rattle.conflict_deps.proofs.Common.{ranks_of, Placed, statements_of, AllHold, accesses, values, Cell, is_marked}
use Rattle.conflict_deps.proofs.Common.{in_from_place, place_of, all_in, IsKernel, append_assoc, variables, tests_of}
use Rattle.conflict_deps.proofs.Common.{kernel_model, model_of, modelled, Dependence, hold_append, hold_front}
use Rattle.conflict_deps.proofs.Common.{hold_back, GoesOn, Side, loops_of, source_form, target_form, map_test, After}
use Rattle.conflict_deps.proofs.Common.{pair_size, source_rows, target_rows, cell_rows, parameter_rows, tests_between}
use Rattle.conflict_deps.proofs.Common.{dep_of, afters_of, may_conflict, conflicts_without, IsPoint, IsEnd}
use Rattle.scop_syntax.proofs.Common.{◌↔◌, slice_index_or, length-map, composed, Before, IsAccess, loops_in, point_of}
use Rattle.scop_syntax.proofs.Common.{Runs, visit_of, Conflict, PlacesConflict, conflict_cell, Scope}
use Rattle.integer_sets.specs.Points.{Satisfies}
use Rattle.iteration_domains.specs.Rows.{variables_of_statement, point_forms, rows_of}
use Rattle.iteration_domains.specs.Model.{domain_of}
use Rattle.iteration_domains.proofs.Points.{satisfied, all_hold_at, tests_hold, hold_tests}
use Rattle.iteration_domains.proofs.RowLaws.{goes_on, goes_on_last, rows_run, run_rows, values-variables}
use Rattle.iteration_domains.proofs.Instances.{WalkLaws, cell_of-access}
use Rattle.iteration_domains.proofs.TreeStatements.{statement_accesses}
use Rattle.conflict_deps.specs.Conflicts.{system_between}
use Rattle.conflict_deps.specs.Pairs.{IsPair}
use Rattle.conflict_deps.proofs.Orders.{after_to, after_of, one_after, value_of-source, value_of-target, rows_kept}
use Rattle.conflict_deps.proofs.Orders.{rows_held, same_to, same_of, up_of}
use Rattle.conflict_deps.proofs.Sides.{may_to, may_of, common_left, common_right, side_at, IsSide, sides_from_access}
use Rattle.conflict_deps.proofs.Sides.{deps_to, deps_from}

-- what the laws of the walk and of the text say of a program at its parameters
pub record PlaceLaws (program : Program) (params : List ℤ) : Type 0 where
  pub walk : WalkLaws program params
  pub order : (i j : ℕ) (v w : Visit) → slice_get (walk_of program params) i ≡ Some v
      → slice_get (walk_of program params) j ≡ Some w → (i < j) ↔ Before v w
  pub loops : (p : Placed) → In p (statements_of program) → length p.loops ≡ loops_in p.scopes

-- and of a kernel
pub record KernelLaws (program : Program) (params : List ℤ) : Type 0 where
  pub stands : (p : Placed) (xs : List ℤ) → In p (statements_of program) → Runs p.scopes params xs
      → In (visit_of p params xs) (walk_of program params)
  pub placed : (p : Placed) → In p (statements_of program)
      → IsPlaced (ranks_of program) (length program.parameters) p

-- both from what laws say of all programs
pub place_laws : (program : Program) (params : List ℤ)
    → ((q : Program) (ps : List ℤ) (v : Visit) → In v (walk_of q ps)
    → (p : Placed) × (xs : List ℤ) × In p (statements_of q) × Runs p.scopes ps xs × (v ≡ visit_of p ps xs))
    → ((scopes : List Scope) (ps xs : List ℤ) → Runs scopes ps xs → length xs ≡ loops_in scopes)
    → ((q : Program) (p r : Placed) → In p (statements_of q) → In r (statements_of q) → p.number ≡ r.number → p ≡ r)
    → ((q : Program) (ps : List ℤ) (i j : ℕ) (v w : Visit) → slice_get (walk_of q ps) i ≡ Some v
    → slice_get (walk_of q ps) j ≡ Some w → (i < j) ↔ Before v w)
    → ((q : Program) (p : Placed) → In p (statements_of q) → length p.loops ≡ loops_in p.scopes)
    → PlaceLaws program params
place_laws program params found turns same order loops =
    record {
      walk = record { found = found program params; turns = turns; same = same program };
      order = order program params;
      loops = loops program;
    }

pub kernel_laws : (program : Program) (params : List ℤ) → IsKernel program → length params ≡ length program.parameters
    → ((q : Program) (ps : List ℤ) (p : Placed) (xs : List ℤ) → IsKernel q → length ps ≡ length q.parameters
    → In p (statements_of q) → Runs p.scopes ps xs → In (visit_of p ps xs) (walk_of q ps))
    → ((q : Program) (p : Placed) → IsKernel q → In p (statements_of q)
    → IsPlaced (ranks_of q) (length q.parameters) p) → KernelLaws program params
kernel_laws program params is count stands placed =
    record {
      stands = λ p xs h runs. stands program params p xs is count h runs;
      placed = λ p h. placed program p is h;
    }

-- where the parts of a pair's point stand
record Parts (m d e : ℕ) (params xs ys : List ℤ) : Type 0 where
  size : d + e + m ≡ length (xs ++ (ys ++ params))
  source : GoesOn (xs ++ (ys ++ params)) 0 xs
  target : GoesOn (xs ++ (ys ++ params)) (d + 0) ys
  last : values (variables (d + e + m) (d + e) m) (xs ++ (ys ++ params)) ≡ params

parts : (m d e : ℕ) (params xs ys : List ℤ) → length params ≡ m → length xs ≡ d → length ys ≡ e
    → Parts m d e params xs ys
parts m d e params xs ys k l h =
    let x = xs ++ (ys ++ params) in
    let a = length-append xs (ys ++ params) in
    let b = length-append ys params in
    let size : d + e + m ≡ length x = omega arith in
    let front : length (xs ++ ys) ≡ d + e = let f = length-append xs ys in omega arith in
    let here : length xs ≡ d + 0 = omega arith in
    let last : GoesOn x (d + e) params =
    subst (λ i. GoesOn x i params) front
    (subst (λ z. GoesOn z (length (xs ++ ys)) params) (append_assoc xs ys params) (goes_on_last (xs ++ ys) params)) in
    record {
      size = size;
      source = goes_on [] xs (ys ++ params);
      target = subst (λ i. GoesOn x i ys) here (goes_on xs ys params);
      last = values-variables (d + e + m) (d + e) m x params size k last;
    }

-- a domain's rows over the variables of a pair
domain_kept : (m : ℕ) (p : Placed) (h : Affine → Affine) (x : List ℤ) (params xs : List ℤ) → m ≡ length params
    → length xs ≡ loops_in p.scopes
    → ((f : Affine) → value_of (h f) x
    ≡ value_of f (xs ++ params))
    → AllHold (map (map_test h) (tests_of (domain_of m p))) x
    → Runs p.scopes params xs
domain_kept m p h x params xs count l same holds =
    let rows = rows_kept h (tests_of (domain_of m p)) x (xs ++ params) same holds in
    let at = all_hold_at (loops_in p.scopes) m (rows_of m p) (xs ++ params)
    (hold_tests (domain_of m p) (xs ++ params) rows) in
    rows_run p params xs l (subst (λ (k : ℕ). AllHold (rows_of k p) (xs ++ params)) count at)

domain_held : (m : ℕ) (p : Placed) (h : Affine → Affine) (x : List ℤ) (params xs : List ℤ) → m ≡ length params
    → length xs ≡ loops_in p.scopes
    → ((f : Affine) → value_of (h f) x
    ≡ value_of f (xs ++ params))
    → Runs p.scopes params xs → AllHold (map (map_test h) (tests_of (domain_of m p))) x
domain_held m p h x params xs count l same runs =
    let at = subst (λ (k : ℕ). AllHold (rows_of k p) (xs ++ params)) (sym count) (run_rows p params xs l runs) in
    rows_held h (tests_of (domain_of m p)) x (xs ++ params) same
    (tests_hold (domain_of m p) (xs ++ params) (satisfied (loops_in p.scopes) m (rows_of m p) (xs ++ params) at))

-- the subscripts of an access over the turns
values-access : (p : Placed) (f : Access) (params xs : List ℤ) → length xs ≡ loops_in p.scopes
    → values (side_at (length params) p 0 f).access.subscripts (xs ++ params)
    ≡ values f.subscripts (point_of p.scopes params xs)
values-access p f params xs l = ap (λ (c : Cell). c.subscripts) (cell_of-access p f params xs l)

-- the five parts of a system
record Holding (m : ℕ) (s t : Side) (a : After) (x : List ℤ) : Type 0 where
  source : AllHold (source_rows s t) x
  target : AllHold (target_rows s t) x
  cell : AllHold (cell_rows s t) x
  order : AllHold a.rows x
  up : AllHold (parameter_rows m s t) x

holding_to : (m : ℕ) (s t : Side) (a : After) (x : List ℤ) → Satisfies (system_between m s t a) x → Holding m s t a x
holding_to m s t a x h =
    let u = parameter_rows m s t in
    let r = source_rows s t in
    let g = target_rows s t in
    let k = cell_rows s t in
    let all = all_hold_at (loops_of s + loops_of t) m (tests_between m s t a) x h in
    let rest1 = hold_back r (g ++ (k ++ (a.rows ++ u))) x all in
    let rest2 = hold_back g (k ++ (a.rows ++ u)) x rest1 in
    let rest3 = hold_back k (a.rows ++ u) x rest2 in
    record {
      source = hold_front r (g ++ (k ++ (a.rows ++ u))) x all;
      target = hold_front g (k ++ (a.rows ++ u)) x rest1;
      cell = hold_front k (a.rows ++ u) x rest2;
      order = hold_front a.rows u x rest3;
      up = hold_back a.rows u x rest3;
    }

holding_from : (m : ℕ) (s t : Side) (a : After) (x : List ℤ) → Holding m s t a x → Satisfies (system_between m s t a) x
holding_from m s t a x h =
    let u = parameter_rows m s t in
    let r = source_rows s t in
    let g = target_rows s t in
    let k = cell_rows s t in
    satisfied (loops_of s + loops_of t) m (tests_between m s t a) x
    (hold_append r (g ++ (k ++ (a.rows ++ u))) x h.source (hold_append g (k ++ (a.rows ++ u)) x h.target
    (hold_append k (a.rows ++ u) x h.cell (hold_append a.rows u x h.order h.up))))

-- an access of a kernel has as many subscripts as its array has dimensions
rank_of : (program : Program) (params : List ℤ) (p : Placed) (k : ℕ) (f : Access) → KernelLaws program params
    → In p (statements_of program) → slice_get (accesses p.body) k ≡ Some f
    → length f.subscripts ≡ slice_index_or (ranks_of program) f.array 0
rank_of program params p k f laws h e =
    let n = length program.parameters + loops_in p.scopes in
    (all_in (IsAccess (ranks_of program) n) (accesses p.body) f
    (statement_accesses (ranks_of program) n p.body (laws.placed p h).body) (in_from_place (accesses p.body) k f
    e)).rank

-- a whole point of a pair's system is a pair of instances that conflict, in the order of the walk
record Meets (program : Program) (params : List ℤ) (p q : Placed) (a b : ℕ) (xs ys : List ℤ) : Type 0 where
  first : In (visit_of p params xs) (walk_of program params)
  second : In (visit_of q params ys) (walk_of program params)
  before : Before (visit_of p params xs) (visit_of q params ys)
  touch : Conflict (visit_of p params xs) a (visit_of q params ys) b

-- two accesses of statements of the text that may conflict
record Accessing (program : Program) (params : List ℤ) (p q : Placed) (k l : ℕ) (f g : Access) : Type 0 where
  source : In p (statements_of program)
  target : In q (statements_of program)
  first : slice_get (accesses p.body) k ≡ Some f
  second : slice_get (accesses q.body) l ≡ Some g

system_to : (program : Program) (params xs ys : List ℤ) (p q : Placed) (k l : ℕ) (f g : Access) (a : After)
    → PlaceLaws program params → KernelLaws program params → Accessing program params p q k l f g
    → may_conflict (side_at (length params) p k f) (side_at (length params) q l g) ≡ true
    → In a (afters_of (length params) (side_at (length params) p k f) (side_at (length params) q l g))
    → length xs ≡ loops_in p.scopes → length ys ≡ loops_in q.scopes
    → Satisfies (system_between (length params) (side_at (length params) p k f) (side_at (length params) q l g) a)
    (xs ++ (ys ++ params))
    → Meets program params p q k l xs ys
system_to program params xs ys p q k l f g a places kernel at may ha lx ly rows =
    let m = length params in
    let x = xs ++ (ys ++ params) in
    let s = side_at m p k f in
    let t = side_at m q l g in
    let d = loops_in p.scopes in
    let e = loops_in q.scopes in
    let n = d + e + m in
    let h = holding_to m s t a x rows in
    let z = parts m d e params xs ys refl lx ly in
    let vs = λ (u : Affine). value_of-source d e u xs ys params lx ly in
    let vt = λ (u : Affine). value_of-target d u xs (ys ++ params) lx in
    let runs = domain_kept m p (source_form d e) x params xs refl lx vs h.source in
    let runt = domain_kept m q (target_form d) x params ys refl ly vt h.target in
    let w = may_to s t may in
    let rank : length f.subscripts ≡ length g.subscripts =
    rank_of program params p k f kernel at.source at.first
    ∙ (ap (λ (i : ℕ). slice_index_or (ranks_of program) i 0) w.0
    ∙ sym (rank_of program params q l g kernel at.target at.second)) in
    let lengths : length s.access.subscripts ≡ length t.access.subscripts =
    length-map f.subscripts (λ form. composed form (point_forms m p) (variables_of_statement m p))
    ∙ (rank ∙ sym (length-map g.subscripts (λ form. composed form (point_forms m q) (variables_of_statement m q)))) in
    let same = same_to d e s.access.subscripts t.access.subscripts x (xs ++ params) (ys ++ params) vs vt lengths
    h.cell in
    let left = values-access p f params xs lx in
    let right = values-access q g params ys ly in
    let c = common p.loops q.loops in
    let np = places.loops p at.source in
    let nq = places.loops q at.target in
    let cp : c ≤ length xs = let b = common_left p.loops q.loops in omega arith in
    let cq : c ≤ length ys = let b = common_right p.loops q.loops in omega arith in
    record {
      first = kernel.stands p xs at.source runs;
      second = kernel.stands q ys at.target runt;
      before = after_to c n d 0 p.number q.number x xs ys a z.size z.source z.target cp cq ha h.order;
      touch = record {
        first = f;
        second = g;
        is_first = at.first;
        is_second = at.second;
        writes = w.1;
        cell = ap₂ (λ (i : ℕ) (js : List ℤ). record { array = i; subscripts = js }) w.0 (sym left ∙ (same ∙ right));
      };
    }

-- a pair of instances that conflict is a whole point of a system
system_of_pair : (program : Program) (params xs ys : List ℤ) (p q : Placed) (k l : ℕ) (f g : Access)
    → PlaceLaws program params → NotNegative params → In p (statements_of program) → In q (statements_of program)
    → Runs p.scopes params xs → Runs q.scopes params ys → Before (visit_of p params xs) (visit_of q params ys)
    → values f.subscripts (point_of p.scopes params xs) ≡ values g.subscripts (point_of q.scopes params ys)
    → (a : After) × In a (afters_of (length params) (side_at (length params) p k f) (side_at (length params) q l g))
    × Satisfies (system_between (length params) (side_at (length params) p k f) (side_at (length params) q l g) a)
    (xs ++ (ys ++ params))
system_of_pair program params xs ys p q k l f g places up hp hq runs runt before cell =
    let m = length params in
    let x = xs ++ (ys ++ params) in
    let s = side_at m p k f in
    let t = side_at m q l g in
    let d = loops_in p.scopes in
    let e = loops_in q.scopes in
    let n = d + e + m in
    let lx = places.walk.turns p.scopes params xs runs in
    let ly = places.walk.turns q.scopes params ys runt in
    let z = parts m d e params xs ys refl lx ly in
    let vs = λ (u : Affine). value_of-source d e u xs ys params lx ly in
    let vt = λ (u : Affine). value_of-target d u xs (ys ++ params) lx in
    let left = values-access p f params xs lx in
    let right = values-access q g params ys ly in
    let c = common p.loops q.loops in
    let np = places.loops p hp in
    let nq = places.loops q hq in
    let cp : c ≤ length xs = let b = common_left p.loops q.loops in omega arith in
    let cq : c ≤ length ys = let b = common_right p.loops q.loops in omega arith in
    let a = after_of c n d 0 p.number q.number x xs ys z.size z.source z.target cp cq tt before in (
      a.0,
      a.1,
      holding_from m s t a.0 x
          (record {
            source = domain_held m p (source_form d e) x params xs refl lx vs runs;
            target = domain_held m q (target_form d) x params ys refl ly vt runt;
            cell = same_of d e s.access.subscripts t.access.subscripts x (xs ++ params) (ys ++ params) vs vt
                (left ∙ (cell ∙ sym right));
            order = a.2;
            up = up_of (variables n (d + e) m) x (subst NotNegative (sym z.last) up);
          }),
    )

-- each whole point is a pair of conflicting places
pub points_conflict : (program : Program) (params : List ℤ) (marked : List ℕ) (dep : Dependence) (xs ys : List ℤ)
    → PlaceLaws program params → KernelLaws program params → length params ≡ length program.parameters
    → In dep (conflicts_without marked (model_of program)) → IsPoint program params dep xs ys
    → (i : ℕ) × (j : ℕ) × (pair : IsPair program params dep xs ys i j)
    × (is_marked marked (conflict_cell pair.conflict).array ≡ false)
points_conflict program params marked dep xs ys places kernel count among point =
    let m = length params in
    let W = walk_of program params in
    let d = deps_to (length program.parameters) (statements_of program) marked dep among in
    let p = d.source.placed in
    let q = d.target.placed in
    let k = d.from.number in
    let l = d.to.number in
    let s = side_at m p k d.source.access in
    let t = side_at m q l d.target.access in
    let es : d.from ≡ s = d.source.is ∙ ap (λ (n : ℕ). side_at n p k d.source.access) (sym count) in
    let et : d.to ≡ t = d.target.is ∙ ap (λ (n : ℕ). side_at n q l d.target.access) (sym count) in
    let is : dep ≡ dep_of m s t d.order =
    d.is ∙ (ap (λ (n : ℕ). dep_of n d.from d.to d.order) (sym count)
    ∙ ap₂ (λ (u v : Side). dep_of m u v d.order) es et) in
    let lx = point.source ∙ ap (λ (z : Dependence). z.source.loops) is in
    let ly = point.target ∙ ap (λ (z : Dependence). z.target.loops) is in
    let may : may_conflict s t ≡ true = sym (ap₂ may_conflict es et) ∙ d.may in
    let ordered : In d.order (afters_of m s t) =
    subst (λ (v : Side). In d.order (afters_of m s v)) et
    (subst (λ (u : Side). In d.order (afters_of m u d.to)) es
    (subst (λ (n : ℕ). In d.order (afters_of n d.from d.to)) (sym count) d.ordered)) in
    let rows = subst (λ (z : Dependence). Satisfies z.system (xs ++ (ys ++ params))) is point.holds in
    let r = system_to program params xs ys p q k l d.source.access d.target.access d.order places kernel
    (record {
      source = d.source.stands;
      target = d.target.stands;
      first = d.source.is_access;
      second =
          d.target.is_access;
    })
    may ordered lx ly rows in
    let v = visit_of p params xs in
    let w = visit_of q params ys in
    let touched : d.source.access ≡ r.touch.first = (let e = sym d.source.is_access ∙ r.touch.is_first in cc) in
    let i = place_of W v r.first in
    let j = place_of W w r.second in (
      i.0,
      j.0,
      record {
        conflict = record {
          earlier = v;
          later = w;
          first = k;
          second = l;
          order = (places.order i.0 j.0 v w i.1 j.1).1 r.before;
          is_earlier = i.1;
          is_later = j.1;
          conflict = r.touch;
        };
        source = record {
          statement = ap (λ (z : Dependence). z.source.statement) is;
          access = ap (λ (z : Dependence). z.source.access) is;
        };
        target = record {
          statement = ap (λ (z : Dependence). z.target.statement) is;
          access = ap (λ (z : Dependence). z.target.access) is;
        };
        source_turns = refl;
        target_turns = refl;
      },
      subst (λ (g : Access). is_marked marked g.array ≡ false) touched
          (sym (ap (λ (z : Side). is_marked marked z.access.array) es) ∙ d.unmarked),
    )

-- and each such pair is a whole point
pub conflicts_are_points : (program : Program) (params : List ℤ) (marked : List ℕ) (i j : ℕ)
    (c : PlacesConflict (walk_of program params) i j) → PlaceLaws program params
    → is_marked marked (conflict_cell c).array ≡ false → length params ≡ length program.parameters
    → NotNegative params → (dep : Dependence) × IsPoint program params dep c.earlier.turns c.later.turns
    × IsEnd dep.source c.earlier c.first × IsEnd dep.target c.later c.second
    × In dep (conflicts_without marked (model_of program))
conflicts_are_points program params marked i j c places unmarked count up =
    let m = length params in
    let ps = statements_of program in
    let W = walk_of program params in
    let v = c.earlier in
    let w = c.later in
    let f = places.walk.found v (in_from_place W i v c.is_earlier) in
    let g = places.walk.found w (in_from_place W j w c.is_later) in
    let p = f.0 in
    let q = g.0 in
    let xs = f.1 in
    let ys = g.1 in
    let before = subst (λ (z : Visit). Before z (visit_of q params ys)) f.4
    (subst (λ (z : Visit). Before v z) g.4 ((places.order i j v w c.is_earlier c.is_later).0 c.order)) in
    let touch : Conflict (visit_of p params xs) c.first (visit_of q params ys) c.second =
    subst (λ (z : Visit). Conflict z c.first (visit_of q params ys) c.second) f.4
    (subst (λ (z : Visit). Conflict v c.first z c.second) g.4 c.conflict) in
    let s = side_at m p c.first touch.first in
    let t = side_at m q c.second touch.second in
    let hs = sides_from_access m ps p c.first touch.first f.2 touch.is_first in
    let ht = sides_from_access m ps q c.second touch.second g.2 touch.is_second in
    let array = ap (λ (z : Cell). z.array) touch.cell in
    let subscripts = ap (λ (z : Cell). z.subscripts) touch.cell in
    let r = system_of_pair program params xs ys p q c.first c.second touch.first touch.second places up f.2 g.2 f.3 g.3
    before subscripts in
    let among : (ms : List ℕ) → is_marked ms touch.first.array ≡ false
    → In (dep_of m s t r.0) (conflicts_without ms (model_of program)) =
    λ ms free. subst (λ (n : ℕ). In (dep_of m s t r.0) (conflicts_without ms (kernel_model n (map (modelled n) ps))))
    count (deps_from m ps ms s t r.0 hs ht free (may_of s t array touch.writes) r.1) in
    let point : IsPoint program params (dep_of m s t r.0) xs ys =
    record {
      among = among [] refl;
      source = places.walk.turns p.scopes params xs f.3;
      target = places.walk.turns q.scopes params ys g.3;
      holds = r.2;
    } in
    let vx : xs ≡ v.turns = ap (λ (z : Visit). z.turns) (sym f.4) in
    let wy : ys ≡ w.turns = ap (λ (z : Visit). z.turns) (sym g.4) in (
      dep_of m s t r.0,
      subst (λ (z : List ℤ). IsPoint program params (dep_of m s t r.0) z w.turns) vx
          (subst (λ (z : List ℤ). IsPoint program params (dep_of m s t r.0) xs z) wy point),
      record { statement = ap (λ (z : Visit). z.number) (sym f.4); access = refl },
      record { statement = ap (λ (z : Visit). z.number) (sym g.4); access = refl },
      among marked unmarked,
    )

-- two sides with the same numbers are one
same_side : (program : Program) (params : List ℤ) (m : ℕ) (s t : Side) → WalkLaws program params
    → IsSide m (statements_of program) s → IsSide m (statements_of program) t
    → s.statement.number ≡ t.statement.number → s.number ≡ t.number → s ≡ t
same_side program params m s t laws a b statement number =
    let n : a.placed.number ≡ b.placed.number =
    sym (ap (λ (z : Side). z.statement.number) a.is) ∙ (statement ∙ ap (λ (z : Side). z.statement.number) b.is) in
    let p = laws.same a.placed b.placed a.stands b.stands n in
    let there : slice_get (accesses b.placed.body) t.number ≡ Some a.access =
    ap₂ (λ (q : Placed) (k : ℕ). slice_get (accesses q.body) k) (sym p) (sym number) ∙ a.is_access in
    let again = b.is_access in
    let access : a.access ≡ b.access = cc in
    a.is ∙ (ap₂ (λ (q : Placed) (k : ℕ). side_at m q k a.access) p number
    ∙ (ap (λ (f : Access). side_at m b.placed t.number f) access ∙ sym b.is))

-- a pair of instances and accesses is a point of one system only
pub one_system : (program : Program) (params : List ℤ) (dep other : Dependence) (xs ys : List ℤ)
    → WalkLaws program params → IsPoint program params dep xs ys → IsPoint program params other xs ys
    → dep.source.statement ≡ other.source.statement → dep.source.access ≡ other.source.access
    → dep.target.statement ≡ other.target.statement → dep.target.access ≡ other.target.access
    → dep ≡ other
one_system program params dep other xs ys laws p q s k t l =
    let m = length program.parameters in
    let ps = statements_of program in
    let x = xs ++ (ys ++ params) in
    let f = deps_to m ps [] dep p.among in
    let g = deps_to m ps [] other q.among in
    let es = same_side program params m f.from g.from laws f.source g.source
    (sym (ap (λ (z : Dependence). z.source.statement) f.is) ∙ (s ∙ ap (λ (z : Dependence). z.source.statement) g.is))
    (sym (ap (λ (z : Dependence). z.source.access) f.is) ∙ (k ∙ ap (λ (z : Dependence). z.source.access) g.is)) in
    let et = same_side program params m f.to g.to laws f.target g.target
    (sym (ap (λ (z : Dependence). z.target.statement) f.is) ∙ (t ∙ ap (λ (z : Dependence). z.target.statement) g.is))
    (sym (ap (λ (z : Dependence). z.target.access) f.is) ∙ (l ∙ ap (λ (z : Dependence). z.target.access) g.is)) in
    let there : In g.order (afters_of m f.from f.to) =
    subst (λ (z : Side). In g.order (afters_of m f.from z)) (sym et)
    (subst (λ (z : Side). In g.order (afters_of m z g.to)) (sym es) g.ordered) in
    let fr = (holding_to m f.from f.to f.order x (subst (λ (z : Dependence). Satisfies z.system x) f.is
    p.holds)).order in
    let gr = (holding_to m g.from g.to g.order x (subst (λ (z : Dependence). Satisfies z.system x) g.is
    q.holds)).order in
    let a = one_after (common f.from.statement.loops f.to.statement.loops) (pair_size m f.from f.to) (loops_of f.from) 0
    (nat_lt f.from.statement.number f.to.statement.number) x f.order g.order f.ordered there fr gr in
    f.is ∙ (ap (λ (z : Side). dep_of m z f.to f.order) es
    ∙ (ap (λ (z : Side). dep_of m g.from z f.order) et ∙ (ap (dep_of m g.from g.to) a ∙ sym g.is)))
