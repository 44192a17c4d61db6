-- A resolved access's quast names the wanted writer.
use Rattle.dataflow.proofs.Common.{◌≡◌, ℕ, zero, suc, ◌+◌, ◌^◌, Bool, true, false, ℤ, pos, negsuc, ◌≤ℤ◌, ◌<ℤ◌, List, []}
use Rattle.dataflow.proofs.Common.{◌∷◌, ◌++◌, length, map, Option, Some, None, Result, Ok, Err, All, refl, sym, ap, ap₂}
use Rattle.dataflow.proofs.Common.{subst, ◌∙◌, arith, length-append, inl, inr, slice_get, nat_eq, if◌then◌else◌}
use Rattle.dataflow.proofs.Common.{eqb-true, eq-eqb, All-nil, All-cons, Affine, form_of, value_of, values_of, composed}
use Rattle.dataflow.proofs.Common.{zeros, NotNegative, length-map, length-zeros, length-multiples, get_map, Program, In}
use Rattle.dataflow.proofs.Common.{Placed, statements_of, in_from_place, place_of, Cell, HasParameters, Visit, walk_of}
use Rattle.dataflow.proofs.Common.{problem_of, row_values, Counted, IsAnswer, lexmin-speaks, lexmin-forms, Source}
use Rattle.dataflow.proofs.Common.{source_of, Tree, leaf, branch, bind, Speaks, LeavesHave, Leaf, found, value, by_sign}
use Rattle.dataflow.proofs.Common.{leaf_limit, named-speaks, Satisfies, IsKernelModel, parts_of, Names, or_initial}
use Rattle.dataflow.proofs.Common.{variable, variables, Modelled, model_of, modelled, Dependence, instance_is_point}
use Rattle.dataflow.proofs.Common.{goes_on_last, one_model, conflicts_of, TouchesAt, IsWanted, writer_end, reader_end}
use Rattle.dataflow.proofs.Common.{wanted_writer, IsCandidate, IsSolved, IsWritePoint, writer_side, reader_side, top}
use Rattle.dataflow.proofs.Common.{below, all_below, turned, moved_pair, moved, moved_variables, flat}
use Rattle.dataflow.proofs.Common.{own_equalities_of, own_rows_of, posed_rows, posed_context, turned_leaf, leaves_fit}
use Rattle.dataflow.proofs.Common.{fitting, sourced, turned_back, turned_tree, solve_between, is_candidate, chosen_deps}
use Rattle.dataflow.proofs.Common.{candidates_of, turns_in, writers_run, AreInRange, most_parameter, params_not_negative}
use Rattle.scop_syntax.proofs.Common.{floor, length-set}
use Rattle.whole_numbers.proofs.Values.{length-combination}
use Rattle.wide_math.specs.declared.Wide.{Wide}
use Rattle.tableau_rows.specs.Problem.{Speaks as RowsSpeak}
use Rattle.pip_solver.specs.Nodes.{lexmin_run}
use Rattle.pip_solver.proofs.Trees.{lexmin-right}
use Rattle.quast_trees.specs.Tree.{initial, named}
use Rattle.quast_trees.specs.Leaf.{mapped_leaf}
use Rattle.quast_trees.proofs.MappedTrees.{map_run-speaks, map_run-value}
use Rattle.quast_joins.specs.declared.way.Way.{Way}
use Rattle.quast_joins.specs.declared.way.Way.TheVariants.{Later, Earlier}
use Rattle.dataflow.proofs.JoinedRuns.{run_joined}
use Rattle.dataflow.proofs.AccessWriters.{Laws, wanted_is_found}
use Rattle.dataflow.proofs.CandidateSolutions.{writer_slot, reader_slot, minimum_wanted, in_statements}
use Rattle.dataflow.specs.Sources.{loops_in}
use Rattle.dataflow.specs.WriterRuns.{solve_run}
use Rattle.dataflow.proofs.ProblemPoints.{all_below-values}
use Rattle.quast_trees.specs.Leaf as answer

-- the chosen ones of a list
pub chosen_in : (test : Dependence → Bool) (ds : List Dependence) (d : Dependence) → In d (chosen_deps test ds)
    → In d ds × (test d ≡ true)
chosen_in test [] d h = absurd h
chosen_in test (x ∷ ds) d h = by_test (test x) refl h (λ k. chosen_in test ds d k)
  where
    by_test : (b : Bool) → test x ≡ b → In d (if b then x ∷ chosen_deps test ds else chosen_deps test ds)
        → (In d (chosen_deps test ds) → In d ds × (test d ≡ true)) → In d (x ∷ ds) × (test d ≡ true)
    by_test true e (inl s) rest = (inl s, ap test s ∙ e)
    by_test true e (inr k) rest = let r = rest k in (inr r.0, r.1)
    by_test false e k rest = let r = rest k in (inr r.0, r.1)

pub in_chosen : (test : Dependence → Bool) (ds : List Dependence) (d : Dependence) → In d ds → test d ≡ true
    → In d (chosen_deps test ds)
in_chosen test [] d h e = absurd h
in_chosen test (x ∷ ds) d (inl s) e = by_test (test x) (sym (ap test s) ∙ e)
  where
    by_test : (b : Bool) → b ≡ true → In d (if b then x ∷ chosen_deps test ds else chosen_deps test ds)
    by_test true g = inl s
    by_test false g = absurd cc
in_chosen test (x ∷ ds) d (inr h) e = by_test (test x) (in_chosen test ds d h e)
  where
    by_test : (b : Bool) → In d (chosen_deps test ds) → In d
        (if b then x ∷ chosen_deps test ds else chosen_deps test ds)
    by_test true k = inr k
    by_test false k = k

-- a candidate by the test
pub candidate_of : (way : Way) (program : Program) (w : Visit) (access : ℕ) (d : Dependence)
    → In d (candidates_of way (model_of program) w.number access) → IsCandidate way program w access d
candidate_of way program w access d h =
    let reader = reader_end way d in
    let writer = writer_end way d in
    let c = chosen_in (is_candidate way w.number access) (conflicts_of (model_of program)) d h in
    let a = first (nat_eq reader.statement w.number)
    (if nat_eq reader.access access then nat_eq writer.access 0 else false) c.1 in
    let b = first (nat_eq reader.access access) (nat_eq writer.access 0) a.1 in
    record {
      among = c.0;
      writes = eqb-true writer.access 0 b.1;
      access =
          record { statement = eqb-true reader.statement w.number a.0; access = eqb-true reader.access access b.0 };
    }
  where
    first : (a b : Bool) → (if a then b else false) ≡ true → (a ≡ true) × (b ≡ true)
    first true b h = (refl, h)
    first false b h = absurd cc

pub of_candidate : (way : Way) (program : Program) (w : Visit) (access : ℕ) (d : Dependence)
    → IsCandidate way program w access d → In d (candidates_of way (model_of program) w.number access)
of_candidate way program w access d is =
    in_chosen (is_candidate way w.number access) (conflicts_of (model_of program)) d is.among
    (rw (
      eq-eqb (reader_end way d).statement w.number is.access.statement,
      eq-eqb (reader_end way d).access access is.access.access,
      eq-eqb (writer_end way d).access 0 is.writes,
    ) refl)

-- forms over all variables
all-append : (P : Affine → Type 0) (xs ys : List Affine) → All P xs → All P ys → All P (xs ++ ys)
all-append P [] ys h k = k
all-append P (x ∷ xs) ys h k = All-cons P x (xs ++ ys) (h 0 x (omega arith))
    (all-append P xs ys (λ i d inside. h (suc i) d (omega arith)) k)

abbrev OfSize : ℕ → Affine → Type 0
OfSize n f = length f.coefficients ≡ n

size-set : (n j : ℕ) → length (variable n j).coefficients ≡ n
size-set n j = simp (length-set, length-zeros) refl

size-variables : (n j m : ℕ) → All (OfSize n) (variables n j m)
size-variables n j zero = All-nil (OfSize n)
size-variables n j (suc m) = All-cons (OfSize n) (variable n j) (variables n (j + 1) m) (size-set n j)
    (size-variables n (j + 1) m)

pub length-all_below : (most : ℤ) (n j m : ℕ) → length (all_below most n j m) ≡ m
length-all_below most n j zero = refl
length-all_below most n j (suc m) = ap suc (length-all_below most n (j + 1) m)

pub size-below : (most : ℤ) (n j m : ℕ) → All (OfSize n) (all_below most n j m)
size-below most n j zero = All-nil (OfSize n)
size-below most n j (suc m) =
    All-cons (OfSize n) (below most n j) (all_below most n (j + 1) m)
    (length-multiples (negsuc 0) (variable n j).coefficients ∙ size-set n j) (size-below most n (j + 1) m)

size-composed : (f : Affine) (inner : List Affine) (n : ℕ) → All (OfSize n) inner → OfSize n (composed f inner n)
size-composed f inner n all = length-combination n (form_of (zeros n) f.constant) f.coefficients inner
    (length-zeros n) all

rows-append : (n : ℕ) (xs ys : List Affine) → RowsSpeak n xs → RowsSpeak n ys → RowsSpeak n (xs ++ ys)
rows-append n [] ys h k = k
rows-append n (x ∷ xs) ys h k = (h.0, rows-append n xs ys h.1 k)

rows-mapped : (n : ℕ) (h : Affine → Affine) (xs : List Affine) → ((f : Affine) → OfSize n (h f))
    → RowsSpeak n (map h xs)
rows-mapped n h [] each = tt
rows-mapped n h (x ∷ xs) each = (each x, rows-mapped n h xs each)

rows-flat : (n : ℕ) (xs : List Affine) → RowsSpeak n xs → RowsSpeak n (flat xs)
rows-flat n [] h = tt
rows-flat n (x ∷ xs) h = (h.0, (length-multiples (negsuc 0) x.coefficients ∙ h.0, rows-flat n xs h.1))

rows-all : (n : ℕ) (xs : List Affine) → All (OfSize n) xs → RowsSpeak n xs
rows-all n [] h = tt
rows-all n (x ∷ xs) h = (h 0 x (omega arith), rows-all n xs (λ i d inside. h (suc i) d (omega arith)))

pub size-pair : (way : Way) (d m e : ℕ) → All (OfSize (d + (m + e))) (moved_pair way d m e)
size-pair Later d m e =
    let n = d + (m + e) in
    all-append (OfSize n) (all_below top n 0 d) (variables n (d + m) e ++ variables n d m) (size-below top n 0 d)
    (all-append (OfSize n) (variables n (d + m) e) (variables n d m) (size-variables n (d + m) e)
    (size-variables n d m))
size-pair Earlier d m e =
    let n = d + (m + e) in
    all-append (OfSize n) (variables n (d + m) e) (variables n 0 d ++ variables n d m) (size-variables n (d + m) e)
    (all-append (OfSize n) (variables n 0 d) (variables n d m) (size-variables n 0 d) (size-variables n d m))

pub posed-speaks : (way : Way) (s t : Modelled) (m : ℕ) (dep : Dependence)
    → RowsSpeak (s.domain.dimensions + (m + t.domain.dimensions)) (posed_rows way s t m dep)
posed-speaks way s t m dep =
    let d = s.domain.dimensions in
    let e = t.domain.dimensions in
    let n = d + (m + e) in
    let h = turned way d m e in
    let each : (f : Affine) → OfSize n (h f) = λ f. size-composed f (moved_pair way d m e) n (size-pair way d m e) in
    let es = own_equalities_of way s t dep in
    let rs = own_rows_of way s t m dep in
    rows-append n (flat (map h es)) (map h rs) (rows-flat n (map h es) (rows-mapped n h es each))
    (rows-mapped n h rs each)

pub context-speaks : (t : Modelled) (m : ℕ) → RowsSpeak (m + t.domain.dimensions) (posed_context t m)
context-speaks t m =
    let e = t.domain.dimensions in
    let n = m + e in
    let all : All (OfSize n) (moved_variables m e) = all-append (OfSize n) (variables n m e) (variables n 0 m)
    (size-variables n m e) (size-variables n 0 m) in
    let each : (f : Affine) → OfSize n (moved m e f) = λ f. size-composed f (moved_variables m e) n all in
    rows-append n (flat (map (moved m e) t.domain.equalities))
    (map (moved m e) t.domain.rows ++ all_below (pos most_parameter) n 0 m)
    (rows-flat n (map (moved m e) t.domain.equalities) (rows-mapped n (moved m e) t.domain.equalities each))
    (rows-append n (map (moved m e) t.domain.rows) (all_below (pos most_parameter) n 0 m)
    (rows-mapped n (moved m e) t.domain.rows each)
    (rows-all n (all_below (pos most_parameter) n 0 m) (size-below (pos most_parameter) n 0 m)))

-- the answer of a named tree
abbrev renamed : Source → Leaf → Leaf
renamed s answer.initial = answer.initial
renamed s (found o xs) = found (Some s) xs

renamed_sign : (s : Source) (z : ℤ) (a b : Leaf) → by_sign z (renamed s a) (renamed s b) ≡ renamed s (by_sign z a b)
renamed_sign s (pos n) a b = refl
renamed_sign s (negsuc n) a b = refl

named-value : (s : Source) (t : Tree) (p : List ℤ) → value (named s t) p ≡ renamed s (value t p)
named-value s initial p = refl
named-value s (leaf l) p = refl
named-value s (branch f x y) p = rw (named-value s x p, named-value s y p)
    (renamed_sign s (value_of f p) (value x p) (value y p))
named-value s (bind f d x) p = named-value s x (p ++ floor (value_of f p) d ∷ [])

-- what a solved candidate is
pub record Solved (way : Way) (m budget : ℕ) (dep : Dependence) (s t : Modelled) (tree : Tree) : Type 0 where
  pub minimum : Tree
  pub left : ℕ
  pub run : lexmin_run budget (m + t.domain.dimensions) (problem_of s.domain.dimensions (posed_rows way s t m dep))
      (posed_context t m) ≡ Ok (minimum, left)
  pub back : Tree
  pub turned : turned_back way s.domain.dimensions minimum ≡ Ok back
  pub is : tree ≡ named (source_of (writer_end way dep).statement s.loops) back

pub solved_of : (way : Way) (m budget : ℕ) (dep : Dependence) (s t : Modelled) (tree : Tree)
    → solve_between way m budget dep (Some s) (Some t) ≡ Ok tree → Solved way m budget dep s t tree
solved_of way m budget dep s t tree h = by_run (lexmin_run budget (m + t.domain.dimensions)
    (problem_of s.domain.dimensions (posed_rows way s t m dep)) (posed_context t m)) refl h
  where
    d : ℕ
    d = s.domain.dimensions

    by_fit : (b : Bool) (q : Tree) → sourced way dep s.loops (if b then Some q else None) ≡ Ok tree
        → tree ≡ named (source_of (writer_end way dep).statement s.loops) q
    by_fit true q h = cc
    by_fit false q h = absurd cc

    by_turned : (t0 : Tree) (left : ℕ) → lexmin_run budget (m + t.domain.dimensions)
        (problem_of s.domain.dimensions (posed_rows way s t m dep)) (posed_context t m) ≡ Ok (t0, left)
        → (r : Result Tree Wide) → turned_back way d t0 ≡ r → sourced way dep s.loops (fitting r) ≡ Ok tree
        → Solved way m budget dep s t tree
    by_turned t0 left run (Err w) e h = absurd cc
    by_turned t0 left run (Ok q) e h =
        record {
          minimum = t0;
          left = left;
          run = run;
          back = q;
          turned = e;
          is = by_fit
              (leaves_fit leaf_limit q) q h;
        }

    by_run : (r : Counted Tree) → lexmin_run budget (m + t.domain.dimensions)
        (problem_of s.domain.dimensions (posed_rows way s t m dep)) (posed_context t m) ≡ r
        → turned_tree way dep d s.loops r ≡ Ok tree → Solved way m budget dep s t tree
    by_run (Err stop) e h = absurd cc
    by_run (Ok pair) e h = by_turned pair.0 pair.1 e (turned_back way d pair.0) refl h

-- a leaf with d forms, turned
sign_case : (P : Leaf → Type 0) (z : ℤ) (a b : Leaf) → P a → P b → P (by_sign z a b)
sign_case P (pos n) a b h k = h
sign_case P (negsuc n) a b h k = k

leaf_value : (number : ℕ) (loops : List ℕ) (d : ℕ) (t : Tree) (p : List ℤ) → LeavesHave d t
    → renamed (source_of number loops) (mapped_leaf (all_below top d 0 d) (value t p)) ≡ turned_leaf Later number loops
    (value t p)
leaf_value number loops d initial p h = refl
leaf_value number loops d (leaf l) p h =
    let x = values_of l.forms p in
    let long : length x ≡ d = length-map l.forms (λ (f : Affine). value_of f p) ∙ h in
    ap (found (Some (source_of number loops))) (all_below-values top d 0 d x x (sym long) long (goes_on_last [] x))
leaf_value number loops d (branch f a b) p h =
    sign_case (λ (l : Leaf). renamed (source_of number loops) (mapped_leaf (all_below top d 0 d) l)
    ≡ turned_leaf Later number loops l) (value_of f p) (value a p) (value b p)
    (leaf_value number loops d a p h.0) (leaf_value number loops d b p h.1)
leaf_value number loops d (bind f e x) p h = leaf_value number loops d x (p ++ floor (value_of f p) e ∷ []) h

-- the answer of a minimum turned back, with its source
back_value : (way : Way) (number : ℕ) (loops : List ℕ) (d : ℕ) (least back : Tree) (p : List ℤ) → LeavesHave d least
    → Speaks (length p) least → turned_back way d least ≡ Ok back
    → renamed (source_of number loops) (value back p) ≡ turned_leaf way number loops (value least p)
back_value Later number loops d least back p forms speaks h =
    ap (renamed (source_of number loops)) (map_run-value (all_below top d 0 d) least back p speaks h)
    ∙ leaf_value number loops d least p forms
back_value Earlier number loops d least back p forms speaks h =
    let same : least ≡ back = cc in
    ap (λ (t : Tree). renamed (source_of number loops) (value t p)) (sym same) ∙ by_leaf (value least p)
  where
    by_leaf : (l : Leaf) → renamed (source_of number loops) l ≡ turned_leaf Earlier number loops l
    by_leaf answer.initial = refl
    by_leaf (found o xs) = refl

-- it speaks of as many variables
pub back_speaks : (way : Way) (d n : ℕ) (least back : Tree) → Speaks n least → turned_back way d least ≡ Ok back
    → Speaks n back
back_speaks Later d n least back speaks h = map_run-speaks (all_below top d 0 d) n least back speaks h
back_speaks Earlier d n least back speaks h = let same : least ≡ back = cc in subst (Speaks n) same speaks

-- the statement of an instance, at its number in the model
placed_slot : (program : Program) (p : Placed) → ((k : ℕ) (q : Placed) → slice_get (statements_of program) k ≡ Some q
    → q.number ≡ k) → In p (statements_of program)
    → slice_get (model_of program).statements p.number ≡ Some (modelled (length program.parameters) p)
placed_slot program p number is =
    let f = place_of (statements_of program) p is in
    let here : slice_get (statements_of program) p.number ≡ Some p = subst
    (λ (k : ℕ). slice_get (statements_of program) k ≡ Some p) (sym (number f.0 p f.1)) f.1 in
    get_map (modelled (length program.parameters)) (statements_of program) p.number p here

pub visit_turns : (program : Program) (params : List ℤ) → Laws program params → (j : ℕ) (w : Visit)
    → slice_get (walk_of program params) j ≡ Some w
    → length w.turns ≡ turns_in (slice_get (model_of program).statements w.number)
visit_turns program params laws j w got =
    let f = laws.places.walk.found w (in_from_place (walk_of program params) j w got) in
    let s = placed_slot program f.0 laws.number f.2 in
    let e = laws.places.walk.turns f.0.scopes params f.1 f.3 in
    subst (λ (u : Visit). length u.turns ≡ turns_in (slice_get (model_of program).statements u.number)) (sym f.4)
    (e ∙ sym (ap turns_in s))

-- an access of a walked instance of a kernel, and what laws say there
pub record AccessAt (program : Program) (params : List ℤ) (j : ℕ) (w : Visit) (access : ℕ) (c : Cell) : Type 0 where
  pub laws : Laws program params
  pub model : IsKernelModel (model_of program)
  pub count : length params ≡ length program.parameters
  pub bounds : AreInRange params
  pub small : (k : ℕ) (u : Visit) → slice_get (walk_of program params) k ≡ Some u
      → All (λ x. (pos 0 ≤ℤ x) × (x <ℤ pos (2 ^ 46))) u.turns
  pub inside : (t : Modelled) → In t (model_of program).statements → w.number ≡ t.number
      → (length w.turns ≡ t.domain.dimensions) × Satisfies t.domain (w.turns ++ params)
  pub touches : TouchesAt program params j w access c

-- these are facts at each access of its walk
pub access_at : (program : Program) (params : List ℤ) (j : ℕ) (w : Visit) (access : ℕ) (c : Cell)
    → HasParameters program params → Laws program params
    → ((v : Visit) → In v (walk_of program params) → All (λ x. (pos 0 ≤ℤ x) × (x <ℤ pos (2 ^ 46))) v.turns)
    → TouchesAt program params j w access c → AccessAt program params j w access c
access_at program params j w access c has laws small touches =
    record {
      laws = laws;
      model = one_model program has.kernel laws.places.walk.same laws.number;
      count = has.count;
      bounds = has.parameters;
      small = λ k u got. small u (in_from_place (walk_of program params) k u got);
      inside = λ t among own. instance_is_point program params t w laws.places.walk has.count (record {
        statement = among;
        walked = in_from_place (walk_of program params) j w touches.place;
        number = own;
      });
      touches = touches;
    }

-- a candidate that the run solves is solved
pub candidate_solved : (way : Way) (program : Program) (params : List ℤ) (j : ℕ) (w : Visit) (access : ℕ) (c : Cell)
    (budget : ℕ) (dep : Dependence) (tree : Tree)
    → AccessAt program params j w access c → IsCandidate way program w access dep
    → solve_run way (model_of program) budget dep ≡ Ok tree
    → IsSolved way program params w (length program.parameters + turns_in
    (slice_get (model_of program).statements w.number)) (params ++ w.turns) dep tree
unfolding solve_run
candidate_solved way program params j w access c budget dep tree at cand run =
    let count = at.count in
    let model = model_of program in
    let m = length program.parameters in
    let p = parts_of model dep at.model cand.among in
    let s = (writer_side way p.from p.to).statement in
    let t = (reader_side way p.from p.to).statement in
    let d = s.domain.dimensions in
    let n = m + t.domain.dimensions in
    let solved = solved_of way m budget dep s t tree
    (sym (ap₂ (solve_between way m budget dep) (writer_slot way program dep p) (reader_slot way program dep p))
    ∙ run) in
    let rows = posed-speaks way s t m dep in
    let context = context-speaks t m in
    let q = solved.minimum in
    let speaks : Speaks n q = lexmin-speaks budget d n (posed_rows way s t m dep)
    (posed_context t m) q solved.left rows context solved.run in
    let forms : LeavesHave d q = lexmin-forms budget d n (posed_rows way s t m dep)
    (posed_context t m) q solved.left rows context solved.run in
    let slot : slice_get model.statements w.number ≡ Some t = subst
    (λ (k : ℕ). slice_get model.statements k ≡ Some t) cand.access.statement (reader_slot way program dep p) in
    let same : n ≡ m + turns_in (slice_get model.statements w.number) = ap (λ (o : Option Modelled). m + turns_in o)
    (sym slot) in
    let number = (writer_end way dep).statement in
    let number_is : w.number ≡ t.number = sym (at.model.places w.number t slot) in
    let dims = at.inside t (in_statements way program dep p) number_is in
    let long : length (params ++ w.turns) ≡ n =
    (let a = length-append params w.turns in let b = dims.0 in omega arith) in
    let back = solved.back in
    let value_is : value tree (params ++ w.turns) ≡ turned_leaf way number s.loops (value q (params ++ w.turns)) =
    ap (λ (z : Tree). value z (params ++ w.turns)) solved.is
    ∙ (named-value (source_of number s.loops) back (params ++ w.turns)
    ∙ back_value way number s.loops d q back (params ++ w.turns) forms
    (subst (λ (i : ℕ). Speaks i q) (sym long) speaks) solved.turned) in
    let wanted = minimum_wanted way program params j w access c dep p number s.loops q at.laws count at.bounds at.small
    at.touches cand dims
    (λ z size up above.
    subst (λ (i : ℕ). IsAnswer (problem_of d (posed_rows way s t i dep)) z (value q z)) (sym count)
    (lexmin-right budget d n (posed_rows way s t m dep) (posed_context t m) q solved.left rows context solved.run z
    (size ∙ ap (λ (i : ℕ). i + t.domain.dimensions) count) up
    (subst (λ (i : ℕ). NotNegative (row_values (posed_context t i) z)) count above))) in
    record {
      speaks = subst (λ (i : ℕ). Speaks i tree) same (subst (Speaks n) (sym solved.is)
          (named-speaks (source_of number s.loops) n back (back_speaks way d n q back speaks solved.turned)));
      wanted =
          subst (λ (ls : List ℕ). IsWanted way number ls (λ xs. IsWritePoint way program params dep xs w.turns)
          (value tree (params ++ w.turns))) (sym (ap loops_in (writer_slot way program dep p)))
          (subst (IsWanted way number s.loops (λ xs. IsWritePoint way program params dep xs w.turns)) (sym value_is)
          wanted);
    }

-- the quast of a resolved access names the wanted writer at each walked instance
pub resolved_wanted : (way : Way) (program : Program) (params : List ℤ) (j : ℕ) (w : Visit) (access : ℕ) (c : Cell)
    (budget : ℕ) (u : Tree)
    → AccessAt program params j w access c → writers_run way (model_of program) budget w.number access ≡ Ok u
    → Names (walk_of program params) (value u (params ++ w.turns)) (wanted_writer way (walk_of program params) j c)
resolved_wanted way program params j w access c budget u at run =
    let count = at.count in
    let model = model_of program in
    let n = length program.parameters + turns_in (slice_get model.statements w.number) in
    let deps = candidates_of way model w.number access in
    let solve = solve_run way model budget in
    let r = run_joined way n solve deps initial u run in
    let long : length (params ++ w.turns) ≡ n =
    (let a = length-append params w.turns in let b = visit_turns program params at.laws j w at.touches.place in omega
    arith) in
    ap_names (sym r.0)
    (wanted_is_found way program params j w access c n (params ++ w.turns) (λ d. or_initial (solve d)) deps at.laws count
    (params_not_negative params at.bounds) at.touches long
    (λ d h. of_candidate way program w access d h) (λ d h. candidate_of way program w access d h)
    (λ d h. candidate_solved way program params j w access c budget d
    (or_initial (solve d)) at (candidate_of way program w access d h) (r.1 d h)))
  where
    ap_names : {x y : Tree} → x ≡ y → Names (walk_of program params) (value x (params ++ w.turns))
        (wanted_writer way (walk_of program params) j c)
        → Names (walk_of program params) (value y (params ++ w.turns)) (wanted_writer way (walk_of program params) j c)
    ap_names e h = subst (λ (z : Tree). Names (walk_of program params) (value z (params ++ w.turns))
        (wanted_writer way (walk_of program params) j c)) e h
