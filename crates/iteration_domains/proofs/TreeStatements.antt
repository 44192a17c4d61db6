-- The statements of a tree by their models, from the place at which the tree stands.
use Rattle.scop_syntax.proofs.Common.{◌≡◌, ℕ, zero, suc, ◌+◌, ◌-◌, ◌*◌, ◌^◌, ◌<◌, ◌≤◌, List, [], ◌∷◌, ◌++◌, length}
use Rattle.scop_syntax.proofs.Common.{map, drop, get_or, ap, ap₂, subst, sym, ◌∙◌, refl, arith, length-append, inl}
use Rattle.scop_syntax.proofs.Common.{inr, take, take-append_seam, All, slice_get, Some, map-append, length-map}
use Rattle.scop_syntax.proofs.Common.{take-map, All-nil, All-cons, All-head, All-tail, All-append, All-weaker, Affine}
use Rattle.scop_syntax.proofs.Common.{composed, Access, Statement, Test, at_least, equal, Head, Tree, loop, guard}
use Rattle.scop_syntax.proofs.Common.{statement, Trees, none, more, Program, accesses, in_at, IsAffine, IsAccess}
use Rattle.scop_syntax.proofs.Common.{IsStatement, AreScopes, AreTrees, IsKernel, ranks_of, statements_in, Scope}
use Rattle.scop_syntax.proofs.Common.{round, under, loops_in, Placed, in_loop_of, in_guard_of, placed_all}
use Rattle.scop_syntax.proofs.Common.{statements_of, In, tree_of, items_of, length-placed, item_here}
use Rattle.scop_syntax.proofs.Bounds.{access_is}
use Rattle.std.proofs.lemmas.List.{append_assoc}
use Rattle.integer_sets.specs.Parts.{variables_of}
use Rattle.integer_sets.specs.Constraints.{IsSized, Constraints, system_of}
use Rattle.scop_syntax.specs.Statements.{placed}
use Rattle.scop_syntax.specs.declared.tree.Item.{Item}
use Rattle.iteration_domains.specs.Rows.{variable, variables, composed_test, iterator, within_loop, rows_from}
use Rattle.iteration_domains.specs.Rows.{forms_from}
use Rattle.iteration_domains.specs.Constraints.{equalities_in, rows_in, constraints_of}
use Rattle.iteration_domains.specs.Model.{Modelled, statement_model, composed_access, modelled, kernel_model, model_of}
use Rattle.iteration_domains.specs.Sizes.{forms_size, grown, CanCompose, IsNarrow, IsModelled, HaveOneCount}
use Rattle.iteration_domains.specs.Sizes.{IsKernelModel}
use Rattle.iteration_domains.specs.Standing.{Gathered, finished, starting, CanEnter}
use Rattle.iteration_domains.specs.Path.{Path, path_at, placed_at, modelled_in, CanModel, CanAccess}
use Rattle.iteration_domains.proofs.Points.{equalities_in-append, rows_in-append}
use Rattle.iteration_domains.proofs.Sizes.{size-composed, sizes-within, size-variables}
use Rattle.iteration_domains.proofs.Surroundings.{grown_more, grown_five, can_compose, length-variable, sized-variables}
use Rattle.iteration_domains.proofs.Surroundings.{length-variables, length-composed, sized-within}

-- forms over n variables
abbrev Over : ℕ → Affine → Type 0
Over n f = variables_of f ≡ n

sized_tests : (n : ℕ) (forms : List Affine) (tests : List Test) → All (λ f. variables_of f ≡ n) forms
    → All (λ f. variables_of f ≡ n) (equalities_in (map (composed_test n forms) tests))
    × All (λ f. variables_of f ≡ n) (rows_in (map (composed_test n forms) tests))
sized_tests n forms [] sized = (All-nil (Over n), All-nil (Over n))
sized_tests n forms (at_least f ∷ tests) sized =
    let r = sized_tests n forms tests sized in
    let rest = rows_in (map (composed_test n forms) tests) in
    (r.0, All-cons (Over n) (composed f forms n) rest (length-composed n f forms sized) r.1)
sized_tests n forms (equal f ∷ tests) sized =
    let r = sized_tests n forms tests sized in
    let rest = equalities_in (map (composed_test n forms) tests) in
    (All-cons (Over n) (composed f forms n) rest (length-composed n f forms sized) r.0, r.1)

sized_rows : (scopes : List Scope) (n j : ℕ) (forms : List Affine) → All (λ f. variables_of f ≡ n) forms
    → All (λ f. variables_of f ≡ n) (equalities_in (rows_from n j scopes forms))
    × All (λ f. variables_of f ≡ n) (rows_in (rows_from n j scopes forms))
sized_rows [] n j forms sized = (All-nil (Over n), All-nil (Over n))
sized_rows (under tests ∷ scopes) n j forms sized =
    let here = map (composed_test n forms) tests in
    let there = rows_from n j scopes forms in
    let t = sized_tests n forms tests sized in
    let r = sized_rows scopes n j forms sized in (
      subst (λ (fs : List Affine). All (λ f. variables_of f ≡ n) fs) (sym (equalities_in-append here there))
          (All-append (Over n) (equalities_in here) (equalities_in there) t.0 r.0),
      subst (λ (fs : List Affine). All (λ f. variables_of f ≡ n) fs) (sym (rows_in-append here there))
          (All-append (Over n) (rows_in here) (rows_in there) t.1 r.1),
    )
sized_rows (round head ∷ scopes) n j forms sized =
    let inner = within_loop n j head forms in
    let w = sized-within n j head forms sized in
    let r = sized_rows scopes n (j + 1) inner w in
    let rest = rows_in (rows_from n (j + 1) scopes inner) in (
      r.0,
      All-cons (Over n) (variable n j) (composed head.condition inner n ∷ rest) (length-variable n j)
          (All-cons (Over n) (composed head.condition inner n) rest (length-composed n head.condition inner w) r.1),
    )

-- the forms of a statement's point: over n variables, as many as its point has entries, and small
pub record ArePointForms (n entries : ℕ) (forms : List Affine) : Type 0 where
  pub sized : All (λ f. variables_of f ≡ n) forms
  pub count : length forms ≡ entries
  pub small : forms_size forms ≤ 2 ^ 40

pub forms_are : (scopes : List Scope) (n j : ℕ) (forms : List Affine) → All (λ f. variables_of f ≡ n) forms
    → AreScopes (length forms) scopes → grown (loops_in scopes) (forms_size forms) ≤ 2 ^ 40
    → ArePointForms n (length forms + loops_in scopes) (forms_from n j scopes forms)
forms_are [] n j forms sized is small =
    let e : length forms ≡ length forms + 0 = omega arith in
    record { sized = sized; count = e; small = small }
forms_are (under tests ∷ scopes) n j forms sized is small = forms_are scopes n j forms sized is.1 small
forms_are (round head ∷ scopes) n j forms sized is small =
    let inner = within_loop n j head forms in
    let l = length-append forms (iterator n j head forms ∷ []) in
    let b = sizes-within (length forms) n j head forms is.0.first is.0.stride in
    let m = grown_more (loops_in scopes) (forms_size inner) (17 * forms_size forms + 2 ^ 21) b in
    let r = forms_are scopes n (j + 1) inner (sized-within n j head forms sized)
    (subst (λ k. AreScopes k scopes) (sym l) is.1) (omega arith) in
    let e : length inner + loops_in scopes ≡ length forms + suc (loops_in scopes) = omega arith in
    record { sized = r.sized; count = r.count ∙ e; small = r.small }

-- a statement's rows can be gathered from its place
pub can_start : (path : Path) (ts : Trees) → CanModel path ts
    → CanEnter (starting path.parameters (length path.loops)) path.scopes
can_start path ts can =
    let d = length path.loops in
    let m = path.parameters in
    let few = can.few in
    let named = can.loops in
    let params = can.parameters in
    let v = size-variables (d + m) d m in
    record {
      sized = sized-variables (d + m) d m;
      scopes = subst (λ k. AreScopes k path.scopes) (sym (length-variables (d + m) d m)) can.scopes;
      loops = omega arith;
      small = grown_five (loops_in path.scopes) (forms_size (variables (d + m) d m)) (omega arith) (omega arith);
    }

-- the forms of its point
abbrev pub forms_at : Path → List Affine
forms_at path =
    forms_from (length path.loops + path.parameters) 0 path.scopes
    (variables (length path.loops + path.parameters) (length path.loops) path.parameters)

pub point_forms_are : (path : Path) (ts : Trees) → CanModel path ts
    → ArePointForms (length path.loops + path.parameters) (path.parameters + loops_in path.scopes) (forms_at path)
point_forms_are path ts can =
    let d = length path.loops in
    let m = path.parameters in
    let s = can_start path ts can in
    let r = forms_are path.scopes (d + m) 0 (variables (d + m) d m) s.sized s.scopes s.small in
    let e = ap (λ k. k + loops_in path.scopes) (length-variables (d + m) d m) in
    record { sized = r.sized; count = r.count ∙ e; small = r.small }

-- so are its accesses
affine_compose : (n : ℕ) (forms fs : List Affine) → ArePointForms n (length forms) forms
    → All (IsAffine (length forms)) fs
    → All (CanCompose n forms) fs
affine_compose n forms [] are all = All-nil (CanCompose n forms)
affine_compose n forms (f ∷ fs) are all =
    let small = are.small in
    All-cons (CanCompose n forms) f fs
    (can_compose n 16 (2 ^ 20) forms f (All-head (IsAffine (length forms)) f fs all) are.sized (omega arith) (omega
    arith)
    (omega arith))
    (affine_compose n forms fs are (All-tail (IsAffine (length forms)) f fs all))

can_access : (ranks : List ℕ) (n : ℕ) (forms : List Affine) (a : Access) → ArePointForms n (length forms) forms
    → IsAccess ranks (length forms) a → CanAccess n forms a
can_access ranks n forms a are is = record { subscripts = affine_compose n forms a.subscripts are is.subscripts }

-- the accesses of a statement are accesses
pub statement_accesses : (ranks : List ℕ) (n : ℕ) (s : Statement) → IsStatement ranks n s
    → All (IsAccess ranks n) (accesses s)
statement_accesses ranks n s is = λ i d h.
    access_is ranks n s (get_or (accesses s) i d) is (in_at (accesses s) i d h)

-- composed forms stay narrow
narrow_forms : (n : ℕ) (forms fs : List Affine) → ArePointForms n (length forms) forms
    → All (IsAffine (length forms)) fs
    → All (IsNarrow n) (map (λ f. composed f forms n) fs)
narrow_forms n forms [] are all = All-nil (IsNarrow n)
narrow_forms n forms (f ∷ fs) are all =
    let small = are.small in
    let s = size-composed (length forms) 16 (2 ^ 20) n forms f (All-head (IsAffine (length forms)) f fs all) in
    All-cons (IsNarrow n) (composed f forms n) (map (λ g. composed g forms n) fs)
    (record { variables = length-composed n f forms are.sized; numbers = omega arith })
    (narrow_forms n forms fs are (All-tail (IsAffine (length forms)) f fs all))

pub narrow_accesses : (ranks : List ℕ) (n : ℕ) (forms : List Affine) (fs : List Access)
    → ArePointForms n (length forms) forms → All (IsAccess ranks (length forms)) fs
    → All (λ (a : Access). All (IsNarrow n) a.subscripts) (map (composed_access n forms) fs)
narrow_accesses ranks n forms [] are all = All-nil (λ (a : Access). All (IsNarrow n) a.subscripts)
narrow_accesses ranks n forms (f ∷ fs) are all =
    All-cons (λ (a : Access). All (IsNarrow n) a.subscripts) (composed_access n forms f) (map (composed_access n
    forms) fs)
    (narrow_forms n forms f.subscripts are (All-head (IsAccess ranks (length forms)) f fs all).subscripts)
    (narrow_accesses ranks n forms fs are (All-tail (IsAccess ranks (length forms)) f fs all))

-- a statement that stands there is one within its point, and its model is one
pub record Stands (path : Path) (s : Statement) : Type 0 where
  pub ranks : List ℕ
  pub are : ArePointForms (length path.loops + path.parameters) (length (forms_at path)) (forms_at path)
  pub body : IsStatement ranks (length (forms_at path)) s

pub stands_there : (path : Path) (s : Statement) → CanModel path (more (statement s) none) → Stands path s
stands_there path s can =
    let r = point_forms_are path (more (statement s) none) can in
    record {
      ranks = can.ranks;
      are = record { sized = r.sized; count = refl; small = r.small };
      body = subst (λ k. IsStatement can.ranks k s) (sym r.count) can.trees.0;
    }

pub can_accesses : (path : Path) (s : Statement) → CanModel path (more (statement s) none)
    → All (CanAccess (length path.loops + path.parameters) (forms_at path)) (accesses s)
can_accesses path s can =
    let t = stands_there path s can in
    let forms = forms_at path in
    let n = length path.loops + path.parameters in
    All-weaker (IsAccess t.ranks (length forms)) (CanAccess n forms)
    (λ a is. can_access t.ranks n forms a t.are is) (accesses s) (statement_accesses t.ranks (length forms) s t.body)

pub model_is : (path : Path) (number : ℕ) (s : Statement) (rows : List Test) → CanModel path (more (statement s) none)
    → IsModelled (statement_model number path.loops (constraints_of (length path.loops) path.parameters rows)
    (map (composed_access (length path.loops + path.parameters) (forms_at path)) (accesses s)))
model_is path number s rows can =
    let t = stands_there path s can in
    let named = can.loops in
    let few = can.few in
    record {
      loops = refl;
      few_loops = omega arith;
      accesses = narrow_accesses t.ranks (length path.loops + path.parameters) (forms_at path)
          (accesses s) t.are (statement_accesses t.ranks (length (forms_at path)) s t.body);
    }

pub rows_sized : (path : Path) (ts : Trees) → CanModel path ts
    → let n = length path.loops + path.parameters in
    let rows = rows_from n 0 path.scopes (variables n (length path.loops) path.parameters) in
    IsSized n (equalities_in rows) (rows_in rows)
rows_sized path ts can =
    let n = length path.loops + path.parameters in
    let r = sized_rows path.scopes n 0 (variables n (length path.loops) path.parameters) (can_start path ts
    can).sized in
    record { equalities_sized = r.0; rows_sized = r.1 }

-- its rows
abbrev pub rows_at : Path → List Test
rows_at path =
    rows_from (length path.loops + path.parameters) 0 path.scopes
    (variables (length path.loops + path.parameters) (length path.loops) path.parameters)

-- what was gathered there
pub record AreGathered (path : Path) (g : Gathered) : Type 0 where
  pub forms : g.forms ≡ forms_at path
  pub equalities : g.equalities ≡ equalities_in (rows_at path)
  pub rows : g.rows ≡ rows_in (rows_at path)

pub gathered_there : (path : Path) (d : ℕ) (scopes : List Scope) (g : Gathered) → d ≡ length path.loops
    → scopes ≡ path.scopes → g ≡ finished (starting path.parameters d) scopes → AreGathered path g
gathered_there path d scopes g named around is =
    let all = is ∙ ap₂ (λ (k : ℕ) (ss : List Scope). finished (starting path.parameters k) ss) named around in
    record {
      forms = ap (λ (z : Gathered). z.forms) all;
      equalities = ap (λ (z : Gathered). z.equalities) all;
      rows = ap (λ (z : Gathered). z.rows) all;
    }

-- a statement's model, put together there
pub made_there : (path : Path) (number : ℕ) (s : Statement) (d : ℕ) (loops : List ℕ) (domain : Constraints) (g :
    Gathered)
    (forms : List Affine) (found : List Access)
    → d ≡ length path.loops → loops ≡ path.loops → AreGathered path g
    → domain ≡ system_of d path.parameters g.equalities g.rows → forms ≡ g.forms
    → found ≡ map (composed_access (d + path.parameters) forms) (accesses s)
    → statement_model number loops domain found
    ≡ statement_model number path.loops (constraints_of (length path.loops) path.parameters (rows_at path))
    (map (composed_access (length path.loops + path.parameters) (forms_at path)) (accesses s))
made_there path number s d loops domain g forms found named same are is all touches =
    let m = path.parameters in
    let touched : found ≡ map (composed_access (length path.loops + m) (forms_at path)) (accesses s) =
    touches ∙ ap₂ (λ (k : ℕ) (fs : List Affine). map (composed_access (k + m) fs) (accesses s)) named
    (all ∙ are.forms) in
    let system : domain ≡ constraints_of (length path.loops) m (rows_at path) =
    is ∙ (ap (λ (k : ℕ). system_of k m g.equalities g.rows) named
    ∙ ap₂ (λ (es rs : List Affine). system_of (length path.loops) m es rs) are.equalities are.rows) in
    ap (λ (ls : List ℕ). statement_model number ls domain found) same
    ∙ ap₂ (λ (c : Constraints) (fs : List Access). statement_model number path.loops c fs) system touched

-- the model of a statement there
pub modelled_there : (path : Path) (number : ℕ) (s : Statement) → length path.loops ≡ loops_in path.scopes
    → statement_model number path.loops (constraints_of (length path.loops) path.parameters (rows_at path))
    (map (composed_access (length path.loops + path.parameters) (forms_at path)) (accesses s))
    ≡ modelled path.parameters (placed_at path number s)
modelled_there path number s named =
    let m = path.parameters in
    ap (λ (d : ℕ). statement_model number path.loops
    (constraints_of d m (rows_from (d + m) 0 path.scopes (variables (d + m) d m)))
    (map (composed_access (d + m) (forms_from (d + m) 0 path.scopes (variables (d + m) d m)))
    (accesses s))) named

-- places within
loops_in-append : (ss rs : List Scope) → loops_in (ss ++ rs) ≡ loops_in ss + loops_in rs
loops_in-append [] rs = omega arith
loops_in-append (under tests ∷ ss) rs = loops_in-append ss rs
loops_in-append (round head ∷ ss) rs = let r = loops_in-append ss rs in omega arith

scopes_append : (ss rs : List Scope) (n : ℕ) → AreScopes n ss → AreScopes (n + loops_in ss) rs → AreScopes n (ss ++ rs)
scopes_append [] rs n a b = subst (λ k. AreScopes k rs) (omega arith) b
scopes_append (under tests ∷ ss) rs n a b = (a.0, scopes_append ss rs n a.1 b)
scopes_append (round head ∷ ss) rs n a b =
    let e : n + suc (loops_in ss) ≡ n + 1 + loops_in ss = omega arith in
    (a.0, scopes_append ss rs (n + 1) a.1 (subst (λ k. AreScopes k rs) e b))

pub can_loop : (path : Path) (head : Head) (body : Trees) (n : ℕ) → CanModel path (more (loop head body) none)
    → CanModel (path_at path.parameters (path.scopes ++ round head ∷ []) (path.loops ++ n ∷ [])) body
can_loop path head body n can =
    let is = can.trees.0 in
    let more_loops = loops_in-append path.scopes (round head ∷ []) in
    let named = length-append path.loops (n ∷ []) in
    let few = can.few in
    let here = can.loops in
    let some = is.0 in
    let e : path.parameters + loops_in path.scopes + 1 ≡ path.parameters + loops_in (path.scopes ++ round head ∷ []) =
    omega arith in
    record {
      ranks = can.ranks;
      room = can.room - 1;
      comparisons = can.comparisons;
      parameters = can.parameters;
      scopes = scopes_append path.scopes (round head ∷ []) path.parameters can.scopes (is.1, tt);
      loops = omega arith;
      few = omega arith;
      trees = subst (λ k. AreTrees can.ranks k (can.room - 1) can.comparisons body) e is.3;
    }

pub can_guard : (path : Path) (tests : List Test) (body : Trees) → CanModel path (more (guard tests body) none)
    → CanModel (path_at path.parameters (path.scopes ++ under tests ∷ []) path.loops) body
can_guard path tests body can =
    let is = can.trees.0 in
    let same = loops_in-append path.scopes (under tests ∷ []) in
    let few = can.few in
    let here = can.loops in
    let e : path.parameters + loops_in path.scopes ≡ path.parameters + loops_in (path.scopes ++ under tests ∷ []) =
    omega arith in
    record {
      ranks = can.ranks;
      room = can.room;
      comparisons = can.comparisons - length tests;
      parameters = can.parameters;
      scopes = scopes_append path.scopes (under tests ∷ []) path.parameters can.scopes (is.2, tt);
      loops = omega arith;
      few = omega arith;
      trees = subst (λ k. AreTrees can.ranks k can.room (can.comparisons - length tests) body) e is.4;
    }

pub can_first : (path : Path) (t : Tree) (ts : Trees) → CanModel path (more t ts) → CanModel path (more t none)
can_first path t ts can =
    record {
      ranks = can.ranks;
      room = can.room;
      comparisons = can.comparisons;
      parameters = can.parameters;
      scopes = can.scopes;
      loops = can.loops;
      few = can.few;
      trees = (can.trees.0, tt);
    }

pub can_rest : (path : Path) (t : Tree) (ts : Trees) → CanModel path (more t ts) → CanModel path ts
can_rest path t ts can =
    record {
      ranks = can.ranks;
      room = can.room;
      comparisons = can.comparisons;
      parameters = can.parameters;
      scopes = can.scopes;
      loops = can.loops;
      few = can.few;
      trees = can.trees.1;
    }

-- the statements of a loop's or a guard's body, by the place within
pub models_of_loop : (path : Path) (head : Head) (n : ℕ) (ps : List Placed)
    → map (modelled_in (path_at path.parameters (path.scopes ++ round head ∷ []) (path.loops ++ n ∷ []))) ps
    ≡ map (modelled_in path) (map (in_loop_of n head) ps)
models_of_loop path head n [] = refl
models_of_loop path head n (p ∷ ps) =
    let m = path.parameters in
    ap₂ (λ (x : Modelled) (xs : List Modelled). x ∷ xs)
    (ap₂ (λ (ls : List ℕ) (ss : List Scope).
    modelled m (record { number = p.number; loops = ls; scopes = ss; body = p.body }))
    (append_assoc path.loops (n ∷ []) p.loops) (append_assoc path.scopes (round head ∷ []) p.scopes))
    (models_of_loop path head n ps)

pub models_of_guard : (path : Path) (tests : List Test) (ps : List Placed)
    → map (modelled_in (path_at path.parameters (path.scopes ++ under tests ∷ []) path.loops)) ps
    ≡ map (modelled_in path) (map (in_guard_of tests) ps)
models_of_guard path tests [] = refl
models_of_guard path tests (p ∷ ps) =
    let m = path.parameters in
    ap₂ (λ (x : Modelled) (xs : List Modelled). x ∷ xs)
    (ap (λ (ss : List Scope). modelled m (record {
      number = p.number;
      loops = path.loops ++ p.loops;
      scopes = ss;
      body = p.body;
    }))
    (append_assoc path.scopes (under tests ∷ []) p.scopes))
    (models_of_guard path tests ps)

-- items, of which the first have been modelled
pub record Modelling (path now_path : Path) (items : List Item) (i : ℕ) (start now : List Modelled) : Type 0 where
  pub statements : now ++ map (modelled_in path) (placed_all (items_of (drop i items)) (length now))
      ≡ start ++ map (modelled_in path) (placed_all (items_of items) (length start))
  pub path_same : now_path ≡ path
  pub can : CanModel path (items_of (drop i items))

pub item_can : (path now_path : Path) (items : List Item) (i : ℕ) (start now : List Modelled) (item : Item)
    → item ≡ get_or items i item → i < length items → Modelling path now_path items i start now
    → CanModel now_path (more (tree_of item) none)
item_can path now_path items i start now item found h so_far =
    subst (λ (p : Path). CanModel p (more (tree_of item) none)) (sym so_far.path_same)
    (can_first path (tree_of item) (items_of (drop (i + 1) items))
    (subst (CanModel path) (item_here items i item found h) so_far.can))

pub item_step : (path now_path next_path : Path) (items : List Item) (i : ℕ) (start now next : List Modelled) (item :
    Item)
    → item ≡ get_or items i item → i < length items → Modelling path now_path items i start now
    → next ≡ now ++ map (modelled_in now_path) (placed (tree_of item) (length now)) → next_path ≡ now_path
    → Modelling path next_path items (i + 1) start next
item_step path now_path next_path items i start now next item found h so_far is same =
    let t = tree_of item in
    let rest = items_of (drop (i + 1) items) in
    let here = item_here items i item found h in
    let f = modelled_in path in
    let first = map f (placed t (length now)) in
    let is' : next ≡ now ++ first =
    is ∙ ap (λ (p : Path). now ++ map (modelled_in p) (placed t (length now))) so_far.path_same in
    let l : length next ≡ length now + statements_in t =
    ap (λ (xs : List Modelled). length xs) is'
    ∙ (length-append now first
    ∙ ap (λ k. length now + k) (length-map (placed t (length now)) f ∙ length-placed t (length now))) in
    let behind = map f (placed_all rest (length now + statements_in t)) in
    let split : map f (placed_all (more t rest) (length now)) ≡ first ++ behind =
    map-append f (placed t (length now)) (placed_all rest (length now + statements_in t)) in
    record {
      statements = ap₂ (λ (xs : List Modelled) (k : ℕ). xs ++ map f (placed_all rest k)) is' l
          ∙ (append_assoc now first behind
          ∙ (ap (λ (xs : List Modelled). now ++ xs) (sym split)
          ∙ (ap (λ (ts : Trees). now ++ map f (placed_all ts (length now))) (sym here) ∙ so_far.statements)));
      path_same = same ∙ so_far.path_same;
      can = can_rest path t rest (subst (CanModel path) here so_far.can);
    }

-- a whole kernel
pub can_kernel : (program : Program) → IsKernel program
    → CanModel (path_at (length program.parameters) [] []) program.body
can_kernel program is =
    let m = length program.parameters in
    let e : m ≡ m + 0 = omega arith in
    record {
      ranks = ranks_of program;
      room = 5;
      comparisons = 16;
      parameters = is.few_parameters;
      scopes = tt;
      loops = refl;
      few = omega arith;
      trees = subst (λ k. AreTrees (ranks_of program) k 5 16 program.body) e is.body;
    }

pub over_parameters : (m : ℕ) (ps : List Placed) → All (λ (s : Modelled). s.domain.parameters ≡ m) (map (modelled m) ps)
over_parameters m [] = All-nil (λ (s : Modelled). s.domain.parameters ≡ m)
over_parameters m (p ∷ ps) =
    All-cons (λ (s : Modelled). s.domain.parameters ≡ m) (modelled m p) (map (modelled m) ps) refl (over_parameters m
    ps)

pub root_can : (program : Program) (m : ℕ) (scopes : List Scope) (loops : List ℕ) (ts : Trees) → IsKernel program
    → m ≡ length program.parameters → scopes ≡ [] → loops ≡ [] → ts ≡ program.body
    → CanModel (path_at m scopes loops) ts
root_can program m scopes loops ts is count around named body =
    subst (CanModel (path_at m scopes loops)) (sym body)
    (subst (λ (k : ℕ). CanModel (path_at k scopes loops) program.body) (sym count)
    (subst (λ (ss : List Scope). CanModel (path_at (length program.parameters) ss loops) program.body) (sym around)
    (subst (λ (ls : List ℕ). CanModel (path_at (length program.parameters) [] ls) program.body) (sym named)
    (can_kernel program is))))

pub root_models : (program : Program) (m : ℕ) (scopes : List Scope) (loops : List ℕ) (ts : Trees) (start now : List
    Modelled)
    → m ≡ length program.parameters → scopes ≡ [] → loops ≡ [] → ts ≡ program.body → start ≡ []
    → now ≡ start ++ map (modelled_in (path_at m scopes loops)) (placed_all ts (length start))
    → kernel_model m now ≡ model_of program
root_models program m scopes loops ts start now count around named body begin is =
    let all : now ≡ map (modelled_in (path_at m scopes loops)) (placed_all program.body 0) =
    is ∙ ap₂ (λ (xs : List Modelled) (us : Trees). xs ++ map (modelled_in (path_at m scopes loops)) (placed_all us
    (length xs)))
    begin body in
    ap (kernel_model m) (all ∙ ap₂ (λ (ss : List Scope) (ls : List ℕ).
    map (modelled_in (path_at m ss ls)) (placed_all program.body 0)) around named)
    ∙ ap (λ (k : ℕ). kernel_model k (map (modelled k) (statements_of program))) count

-- what holds of the model of each statement
of_each : (P : Modelled → Type 0) (m : ℕ) (ps : List Placed) → ((p : Placed) → In p ps → P (modelled m p))
    → All P (map (modelled m) ps)
of_each P m [] h = All-nil P
of_each P m (p ∷ ps) h =
    All-cons P (modelled m p) (map (modelled m) ps) (h p (inl refl)) (of_each P m ps (λ q among. h q (inr among)))

-- a statement of the model stands at the place of its number
at_place : (m k j : ℕ) (ps : List Placed) (s : Modelled) → ((p : Placed) → slice_get ps j ≡ Some p → p.number ≡ k)
    → slice_get (map (modelled m) ps) j ≡ Some s → s.number ≡ k
at_place m k j [] s number at = absurd cc
at_place m k zero (p ∷ ps) s number at =
    let is : modelled m p ≡ s = cc in
    ap (λ (z : Modelled). z.number) (sym is) ∙ number p refl
at_place m k (suc j) (p ∷ ps) s number at = at_place m k j ps s number at

pub model_is_one : (program : Program) (m : ℕ) (now : List Modelled) → IsKernel program
    → ((p q : Placed) → In p (statements_of program) → In q (statements_of program) → p.number ≡ q.number → p ≡ q)
    → ((k : ℕ) (p : Placed) → slice_get (statements_of program) k ≡ Some p → p.number ≡ k)
    → kernel_model m now ≡ model_of program → IsKernelModel (kernel_model m now)
model_is_one program m now is same number e =
    let n = length program.parameters in
    let ps = statements_of program in
    subst IsKernelModel (sym e)
    (record {
      few_parameters = is.few_parameters;
      domains = over_parameters n ps;
      numbers = of_each (λ s. All (HaveOneCount s) (map (modelled n) ps)) n ps
          (λ p a. of_each (HaveOneCount (modelled n p)) n ps (λ q b number.
          ap (λ (r : Placed). loops_in r.scopes) (same p q a b number)));
      places = λ k s at. at_place n k k ps s (number k) at;
    })

-- the model of a kernel
pub one_model : (program : Program) → IsKernel program
    → ((p q : Placed) → In p (statements_of program) → In q (statements_of program) → p.number ≡ q.number → p ≡ q)
    → ((k : ℕ) (p : Placed) → slice_get (statements_of program) k ≡ Some p → p.number ≡ k)
    → IsKernelModel (model_of program)
one_model program k same number =
    model_is_one program (length program.parameters) (model_of program).statements k same number refl

-- a list without the last that it gained, and where its entries are made from others
pub last_off : {A : Type 0} (xs popped ys : List A) (y : A) (v : ℕ) → popped ≡ take (v - 1) xs → v ≡ length xs
    → xs ≡ ys ++ y ∷ [] → popped ≡ ys
last_off xs popped ys y v rest long e =
    let at : v - 1 ≡ length ys = omega (arith, long, ap length e, length-append ys (y ∷ [])) in
    rest ∙ (ap₂ take at e ∙ take-append_seam ys (y ∷ []))

pub last_off_map : {A B : Type 0} (f : A → B) (xs popped : List A) (ys : List B) (y : B) (v : ℕ)
    → popped ≡ take (v - 1) xs → v ≡ length xs
    → map f xs ≡ ys ++ y ∷ [] → map f popped ≡ ys
last_off_map f xs popped ys y v rest long e =
    last_off (map f xs) (map f popped) ys y v (ap (map f) rest ∙ sym (take-map f (v - 1) xs))
    (long ∙ sym (length-map xs f)) e

-- a path that is back where it was
pub path_back : (p inner : Path) (scopes : List Scope) (loops : List ℕ) → inner.parameters ≡ p.parameters
    → scopes ≡ p.scopes → loops ≡ p.loops → path_at inner.parameters scopes loops ≡ p
path_back p inner scopes loops parameters same_scopes same_loops =
    ap (λ (m : ℕ). path_at m scopes loops) parameters ∙ ap₂ (path_at p.parameters) same_scopes same_loops
