-- The conflicts with an access to an array that is not marked are all among those without the marked arrays.
use Rattle.dataflow.proofs.Common.{◌≡◌, ℕ, ◌+◌, Bool, true, false, List, [], ◌∷◌, ◌++◌, map, Some, inl, inr, ap, ap₂}
use Rattle.dataflow.proofs.Common.{subst, sym, ◌∙◌, refl, arith, slice_get, nat_eq, if◌then◌else◌, flat_map, eqb-true}
use Rattle.dataflow.proofs.Common.{In, is_marked, Access, both, in_map_from, place_of, Dependence, KernelModel}
use Rattle.dataflow.proofs.Common.{Modelled, IsKernelModel, in_flat_map, Side, sides_of, sides_in, After, conflicts_of}
use Rattle.dataflow.proofs.Common.{stands, in_flat_map_from, in_unless_from, side_to, is_in_role, reader_end}
use Rattle.dataflow.proofs.Common.{writer_end, candidates_of, chosen_deps, is_candidate}
use Rattle.scop_syntax.proofs.Common.{in_if_from}
use Rattle.quast_joins.specs.declared.way.Way.{Way}
use Rattle.quast_joins.specs.declared.way.Way.TheVariants.{Later, Earlier}
use Rattle.conflict_deps.specs.Conflicts.{dep_of, afters_of, may_conflict, deps_between, deps_on, conflicts_without}
use Rattle.conflict_deps.proofs.Sides.{may_to}
use Rattle.dataflow.specs.Covering.{HoldConflicts}

-- ---- choosing

chosen_append : (test : Dependence → Bool) (xs ys : List Dependence)
    → chosen_deps test (xs ++ ys) ≡ chosen_deps test xs ++ chosen_deps test ys
chosen_append test [] ys = refl
chosen_append test (x ∷ xs) ys = by (test x) (chosen_append test xs ys)
  where
    by : (b : Bool) → chosen_deps test (xs ++ ys) ≡ chosen_deps test xs ++ chosen_deps test ys
        → (if b then x ∷ chosen_deps test (xs ++ ys) else chosen_deps test (xs ++ ys))
        ≡ (if b then x ∷ chosen_deps test xs else chosen_deps test xs) ++ chosen_deps test ys
    by true rest = ap (λ (zs : List Dependence). x ∷ zs) rest
    by false rest = rest

none_chosen : (test : Dependence → Bool) (ds : List Dependence) → ((d : Dependence) → In d ds → test d ≡ false)
    → chosen_deps test ds ≡ []
none_chosen test [] h = refl
none_chosen test (d ∷ ds) h = rw (h d (inl refl)) (none_chosen test ds (λ e i. h e (inr i)))

-- what a narrower test chooses, the wider leaves there
chosen_within : (wide narrow : Dependence → Bool) → ((d : Dependence) → narrow d ≡ true → wide d ≡ true)
    → (ds : List Dependence) → chosen_deps narrow (chosen_deps wide ds) ≡ chosen_deps narrow ds
chosen_within wide narrow within [] = refl
chosen_within wide narrow within (d ∷ ds) = by (wide d) (narrow d) refl refl (chosen_within wide narrow within ds)
  where
    by : (a b : Bool) → wide d ≡ a → narrow d ≡ b
        → chosen_deps narrow (chosen_deps wide ds) ≡ chosen_deps narrow ds
        → chosen_deps narrow (if a then d ∷ chosen_deps wide ds else chosen_deps wide ds)
        ≡ (if b then d ∷ chosen_deps narrow ds else chosen_deps narrow ds)
    by true true e f rest = rw f (ap (λ (zs : List Dependence). d ∷ zs) rest)
    by true false e f rest = rw f rest
    by false true e f rest = let g = within d f in absurd cc
    by false false e f rest = rest

candidate_in_role : (way : Way) (statement access : ℕ) (d : Dependence) → is_candidate way statement access d ≡ true
    → is_in_role way statement access d ≡ true
candidate_in_role way statement access d h =
    let r = reader_end way d in
    let a = both (nat_eq r.statement statement)
    (if nat_eq r.access access then nat_eq (writer_end way d).access 0 else false) h in
    let b = both (nat_eq r.access access) (nat_eq (writer_end way d).access 0) a.1 in
    rw (a.0, b.0) refl

-- so the candidates are all there too
pub candidates_held : (way : Way) (model : KernelModel) (statement access : ℕ) (deps : List Dependence)
    → HoldConflicts way model statement access deps
    → chosen_deps (is_candidate way statement access) deps ≡ candidates_of way model statement access
candidates_held way model statement access deps holds =
    let role = is_in_role way statement access in
    let candidate = is_candidate way statement access in
    let within = candidate_in_role way statement access in
    sym (chosen_within role candidate within deps)
    ∙ (ap (chosen_deps candidate) holds.role ∙ chosen_within role candidate within (conflicts_of model))

pub all_held : (way : Way) (model : KernelModel) (statement access : ℕ) (deps : List Dependence)
    → deps ≡ conflicts_of model → HoldConflicts way model statement access deps
all_held way model statement access deps are =
    record {
      among = λ d. subst (In d) are;
      role = ap (chosen_deps (is_in_role way statement access)) are;
    }

-- ---- the conflicts without marked arrays

among_all : (marked : List ℕ) (model : KernelModel) (d : Dependence) → In d (conflicts_without marked model)
    → In d (conflicts_of model)
among_all marked model d h =
    let s = in_flat_map_from (deps_on marked model) (sides_in model) d h in
    let kept = in_unless_from (is_marked marked s.0.access.array) d
    (flat_map (deps_between model.parameters s.0) (sides_in model)) s.2 in
    in_flat_map (deps_on [] model) (sides_in model) s.0 d s.1 kept.1

-- where a test chooses none on a marked array nothing is missing
none_missing : (test : Dependence → Bool) (marked : List ℕ) (model : KernelModel) (ss : List Side)
    → ((s : Side) → In s ss → is_marked marked s.access.array ≡ true → (d : Dependence)
    → In d (flat_map (deps_between model.parameters s) (sides_in model)) → test d ≡ false)
    → chosen_deps test (flat_map (deps_on marked model) ss) ≡ chosen_deps test (flat_map (deps_on [] model) ss)
none_missing test marked model [] h = refl
none_missing test marked model (s ∷ ss) h =
    let all = flat_map (deps_between model.parameters s) (sides_in model) in
    chosen_append test (deps_on marked model s) (flat_map (deps_on marked model) ss)
    ∙ (ap₂ (λ (xs ys : List Dependence). xs ++ ys) (own (is_marked marked s.access.array) refl)
    (none_missing test marked model ss (λ t i. h t (inr i)))
    ∙ sym (chosen_append test all (flat_map (deps_on [] model) ss)))
  where
    own : (b : Bool) → is_marked marked s.access.array ≡ b
        → chosen_deps test (if b then [] else flat_map (deps_between model.parameters s) (sides_in model))
        ≡ chosen_deps test (flat_map (deps_between model.parameters s) (sides_in model))
    own true e = sym (none_chosen test (flat_map (deps_between model.parameters s) (sides_in model)) (h s (inl refl) e))
    own false e = refl

-- both accesses of a conflict are to one array
one_array : (way : Way) (model : KernelModel) (statement access : ℕ) (marked : List ℕ) (s : Side) (d : Dependence)
    → ((u : Side) → In u (sides_in model) → u.statement.number ≡ statement → u.number ≡ access
    → is_marked marked u.access.array ≡ false)
    → In s (sides_in model) → In d (flat_map (deps_between model.parameters s) (sides_in model))
    → is_marked marked s.access.array ≡ true → (b : Bool) → is_in_role way statement access d ≡ b → b ≡ false
one_array way model statement access marked s d own among h marks false e = refl
one_array way model statement access marked s d own among h marks true e =
    let m = model.parameters in
    let t = in_flat_map_from (deps_between m s) (sides_in model) d h in
    let c = in_if_from (may_conflict s t.0) d (map (dep_of m s t.0) (afters_of m s t.0)) t.2 in
    let a = in_map_from (dep_of m s t.0) d (afters_of m s t.0) c.1 in
    let array = (may_to s t.0 c.0).0 in
    let r = reader_end way d in
    let ends = both (nat_eq r.statement statement) (nat_eq r.access access) e in
    let at = eqb-true r.statement statement ends.0 in
    let number = eqb-true r.access access ends.1 in
    absurd (reader way t.0 a.0 t.1 a.2 array at number)
  where
    reader : (way : Way) (t : Side) (a : After) → In t (sides_in model) → d ≡ dep_of model.parameters s t a
        → s.access.array ≡ t.access.array → (reader_end way d).statement ≡ statement
        → (reader_end way d).access ≡ access → ⊥
    reader Later t a there is array at number =
        let free = own t there (sym (ap (λ (z : Dependence). z.target.statement) is) ∙ at)
        (sym (ap (λ (z : Dependence). z.target.access) is) ∙ number) in
        let same = ap (is_marked marked) array in
        absurd cc
    reader Earlier t a there is array at number =
        let free = own s among (sym (ap (λ (z : Dependence). z.source.statement) is) ∙ at)
        (sym (ap (λ (z : Dependence). z.source.access) is) ∙ number) in
        absurd cc

-- an access of the model by its numbers
one_access : (model : KernelModel) (marked : List ℕ) (reader u : Side) → IsKernelModel model
    → In reader.statement model.statements → slice_get reader.statement.accesses reader.number ≡ Some reader.access
    → is_marked marked reader.access.array ≡ false → In u (sides_in model)
    → u.statement.number ≡ reader.statement.number → u.number ≡ reader.number
    → is_marked marked u.access.array ≡ false
one_access model marked reader u is among access free there statement number =
    let p = place_of model.statements reader.statement among in
    let slot : slice_get model.statements reader.statement.number ≡ Some reader.statement =
    subst (λ (k : ℕ). slice_get model.statements k ≡ Some reader.statement)
    (sym (is.places p.0 reader.statement p.1)) p.1 in
    let here = sym (ap (slice_get model.statements) statement) ∙ stands model u is there in
    let same : reader.statement ≡ u.statement = (let e = sym slot ∙ here in cc) in
    let q = in_flat_map_from sides_of model.statements u there in
    let r = side_to q.0 0 q.0.accesses u q.2 in
    let j : r.1.0 ≡ reader.number = let e = r.1.1 in omega (arith, e, number) in
    let touched : slice_get reader.statement.accesses reader.number ≡ Some u.access =
    ap₂ (λ (s : Modelled) (k : ℕ). slice_get s.accesses k) (same ∙ r.0) (sym j) ∙ r.1.2 in
    let one : reader.access ≡ u.access = (let e = sym access ∙ touched in cc) in
    subst (λ (g : Access). is_marked marked g.array ≡ false) one free

-- so all conflicts with such an access are there
pub unmarked_held : (way : Way) (model : KernelModel) (marked : List ℕ) (reader : Side) (deps : List Dependence)
    → IsKernelModel model → In reader.statement model.statements
    → slice_get reader.statement.accesses reader.number ≡ Some reader.access
    → is_marked marked reader.access.array ≡ false → deps ≡ conflicts_without marked model
    → HoldConflicts way model reader.statement.number reader.number deps
unmarked_held way model marked reader deps is among access free are =
    let test = is_in_role way reader.statement.number reader.number in
    record {
      among = λ d i. among_all marked model d (subst (In d) are i);
      role = ap (chosen_deps test) are
          ∙ none_missing test marked model (sides_in model)
          (λ s there marks d h. one_array way model reader.statement.number reader.number marked s d
          (λ u i. one_access model marked reader u is among access free i) there h marks (test d) refl);
    }
