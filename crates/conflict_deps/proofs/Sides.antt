-- The accesses of a model's statements as those of the text, and the dependences between them.
use Rattle.conflict_deps.proofs.Common.{◌≡◌, ℕ, zero, suc, ◌+◌, Bool, true, false, List, [], ◌∷◌, length, map, Some}
use Rattle.conflict_deps.proofs.Common.{inl, inr, ap, ap₂, subst, sym, ◌∙◌, refl, arith, ◌≤◌, slice_get, flat_map}
use Rattle.conflict_deps.proofs.Common.{Access, In, common, is_marked, Placed, accesses, in_map, in_map_from, in_if}
use Rattle.conflict_deps.proofs.Common.{in_if_from, Modelled, kernel_model, access_over, modelled, Dependence, Side}
use Rattle.conflict_deps.proofs.Common.{side, sides_from, sides_of, After, dep_of, afters_of, may_conflict}
use Rattle.conflict_deps.proofs.Common.{deps_between, deps_on, conflicts_without}
use Rattle.scop_syntax.proofs.Common.{nat_eq, if◌then◌else◌, eqb-true, eq-eqb, get_map, in_append, both}
use Rattle.scop_syntax.specs.Cells.{OneWrites}
use Rattle.iteration_domains.proofs.OutsideLaws.{in_flat_map}

pub in_flat_map_from : {A B : Type 0} (f : A → List B) (xs : List A) (y : B) → In y (flat_map f xs)
    → (x : A) × In x xs × In y (f x)
in_flat_map_from f [] y h = absurd h
in_flat_map_from f (x ∷ xs) y h = elim (in_append y (f x) (flat_map f xs) h) [
  | inl g ↦ (x, inl refl, g)
  | inr g ↦ let k = in_flat_map_from f xs y g in (k.0, inr k.1, k.2)
]

-- the accesses of a statement with their numbers
pub side_to : (p : Modelled) (k : ℕ) (fs : List Access) (s : Side) → In s (sides_from p k fs)
    → (s.statement ≡ p) × ((j : ℕ) × (s.number ≡ k + j) × (slice_get fs j ≡ Some s.access))
side_to p k [] s h = absurd h
side_to p k (f ∷ fs) s (inl e) = (
  ap (λ (z : Side). z.statement) e,
  (0, ap (λ (z : Side). z.number) e ∙ omega arith, ap (λ (z : Side). Some z.access) (sym e)),
)
side_to p k (f ∷ fs) s (inr h) =
    let r = side_to p (k + 1) fs s h in (r.0, (suc r.1.0, r.1.1 ∙ omega arith, r.1.2))

side_from : (p : Modelled) (k : ℕ) (fs : List Access) (j : ℕ) (f : Access) → slice_get fs j ≡ Some f
    → In (side p (k + j) f) (sides_from p k fs)
side_from p k [] j f h = absurd cc
side_from p k (g ∷ gs) zero f h =
    let e : g ≡ f = cc in
    let z : k + 0 ≡ k = omega arith in
    inl (ap₂ (λ (n : ℕ) (a : Access). side p n a) z (sym e))
side_from p k (g ∷ gs) (suc j) f h =
    let z : k + 1 + j ≡ k + suc j = omega arith in
    inr (subst (λ (n : ℕ). In (side p n f) (sides_from p (k + 1) gs)) z (side_from p (k + 1) gs j f h))

-- the two accesses
pub may_to : (s t : Side) → may_conflict s t ≡ true → (s.access.array ≡ t.access.array) × OneWrites s.number t.number
may_to s t h =
    let b = both (nat_eq s.access.array t.access.array) (if nat_eq s.number 0 then true else nat_eq t.number 0) h in
    (eqb-true s.access.array t.access.array b.0, one (nat_eq s.number 0) refl b.1)
  where
    one : (c : Bool) → nat_eq s.number 0 ≡ c → (if c then true else nat_eq t.number 0) ≡ true
        → OneWrites s.number t.number
    one true e g = inl (eqb-true s.number 0 e)
    one false e g = inr (eqb-true t.number 0 g)

pub may_of : (s t : Side) → s.access.array ≡ t.access.array → OneWrites s.number t.number → may_conflict s t ≡ true
may_of s t e (inl w) = rw (eq-eqb s.access.array t.access.array e, eq-eqb s.number 0 w) refl
may_of s t e (inr w) =
    rw (eq-eqb s.access.array t.access.array e, eq-eqb t.number 0 w) (either (nat_eq s.number 0))
  where
    either : (c : Bool) → (if c then true else true) ≡ true
    either true = refl
    either false = refl

pub common_left : (ks ls : List ℕ) → common ks ls ≤ length ks
common_left [] ls = omega arith
common_left (k ∷ ks) [] = omega arith
common_left (k ∷ ks) (l ∷ ls) = let r = common_left ks ls in grind arith

pub common_right : (ks ls : List ℕ) → common ks ls ≤ length ls
common_right [] ls = omega arith
common_right (k ∷ ks) [] = omega arith
common_right (k ∷ ks) (l ∷ ls) = let r = common_right ks ls in grind arith

-- the sides of the model are the accesses of the statements
abbrev pub side_at : ℕ → Placed → ℕ → Access → Side
side_at m p k f = side (modelled m p) k (access_over m p f)

get_map_from : {A B : Type 0} (h : A → B) (xs : List A) (k : ℕ) (y : B) → slice_get (map h xs) k ≡ Some y
    → (x : A) × (slice_get xs k ≡ Some x) × (y ≡ h x)
get_map_from h [] k y e = absurd cc
get_map_from h (x ∷ xs) zero y e = (x, refl, cc)
get_map_from h (x ∷ xs) (suc k) y e = get_map_from h xs k y e

-- a side, by its statement in the text
pub record IsSide (m : ℕ) (ps : List Placed) (s : Side) : Type 0 where
  pub placed : Placed
  pub access : Access
  pub stands : In placed ps
  pub is_access : slice_get (accesses placed.body) s.number ≡ Some access
  pub is : s ≡ side_at m placed s.number access

sides_to : (m : ℕ) (ps : List Placed) (s : Side) → In s (flat_map sides_of (map (modelled m) ps)) → IsSide m ps s
sides_to m ps s h =
    let q = in_flat_map_from sides_of (map (modelled m) ps) s h in
    let p = in_map_from (modelled m) q.0 ps q.1 in
    let r = side_to q.0 0 q.0.accesses s q.2 in
    let j : r.1.0 ≡ s.number = let e = r.1.1 in omega arith in
    let there : slice_get (map (access_over m p.0) (accesses p.0.body)) s.number ≡ Some s.access =
    ap₂ (λ (z : Modelled) (i : ℕ). slice_get z.accesses i) (sym p.2) (sym j) ∙ r.1.2 in
    let f = get_map_from (access_over m p.0) (accesses p.0.body) s.number s.access there in
    record {
      placed = p.0;
      access = f.0;
      stands = p.1;
      is_access = f.1;
      is = ap₂ (λ (z : Modelled) (a : Access). side z s.number a) (r.0 ∙ p.2) f.2;
    }

pub sides_from_access : (m : ℕ) (ps : List Placed) (p : Placed) (k : ℕ) (f : Access) → In p ps
    → slice_get (accesses p.body) k ≡ Some f → In (side_at m p k f) (flat_map sides_of (map (modelled m) ps))
sides_from_access m ps p k f h e =
    let z : 0 + k ≡ k = omega arith in
    let g = get_map (access_over m p) (accesses p.body) k f e in
    let there = subst (λ (i : ℕ). In (side (modelled m p) i (access_over m p f)) (sides_of (modelled m p))) z
    (side_from (modelled m p) 0 (modelled m p).accesses k (access_over m p f) g) in
    in_flat_map sides_of (map (modelled m) ps) (modelled m p) (side_at m p k f) (in_map (modelled m) p ps h) there

pub in_unless : {A : Type 0} (b : Bool) (x : A) (xs : List A) → b ≡ false → In x xs → In x (if b then [] else xs)
in_unless true x xs h g = absurd cc
in_unless false x xs h g = g

pub in_unless_from : {A : Type 0} (b : Bool) (x : A) (xs : List A) → In x (if b then [] else xs) → (b ≡ false) × In x xs
in_unless_from true x xs h = absurd h
in_unless_from false x xs h = (refl, h)

-- a dependence is one of two sides, of an array that is not marked
pub record IsDep (m : ℕ) (ps : List Placed) (marked : List ℕ) (dep : Dependence) : Type 0 where
  pub from : Side
  pub to : Side
  pub source : IsSide m ps from
  pub target : IsSide m ps to
  pub order : After
  pub unmarked : is_marked marked from.access.array ≡ false
  pub may : may_conflict from to ≡ true
  pub ordered : In order (afters_of m from to)
  pub is : dep ≡ dep_of m from to order

pub deps_to : (m : ℕ) (ps : List Placed) (marked : List ℕ) (dep : Dependence)
    → In dep (conflicts_without marked (kernel_model m (map (modelled m) ps))) → IsDep m ps marked dep
deps_to m ps marked dep h =
    let all = flat_map sides_of (map (modelled m) ps) in
    let s = in_flat_map_from (deps_on marked (kernel_model m (map (modelled m) ps))) all dep h in
    let kept = in_unless_from (is_marked marked s.0.access.array) dep (flat_map (deps_between m s.0) all) s.2 in
    let t = in_flat_map_from (deps_between m s.0) all dep kept.1 in
    let b = in_if_from (may_conflict s.0 t.0) dep (map (dep_of m s.0 t.0) (afters_of m s.0 t.0)) t.2 in
    let a = in_map_from (dep_of m s.0 t.0) dep (afters_of m s.0 t.0) b.1 in
    record {
      from = s.0;
      to = t.0;
      source = sides_to m ps s.0 s.1;
      target = sides_to m ps t.0 t.1;
      order = a.0;
      unmarked = kept.0;
      may = b.0;
      ordered = a.1;
      is = a.2;
    }

pub deps_from : (m : ℕ) (ps : List Placed) (marked : List ℕ) (s t : Side) (a : After)
    → In s (flat_map sides_of (map (modelled m) ps)) → In t (flat_map sides_of (map (modelled m) ps))
    → is_marked marked s.access.array ≡ false → may_conflict s t ≡ true → In a (afters_of m s t)
    → In (dep_of m s t a) (conflicts_without marked (kernel_model m (map (modelled m) ps)))
deps_from m ps marked s t a hs ht unmarked may ha =
    let all = flat_map sides_of (map (modelled m) ps) in
    in_flat_map (deps_on marked (kernel_model m (map (modelled m) ps))) all s (dep_of m s t a) hs
    (in_unless (is_marked marked s.access.array) (dep_of m s t a) (flat_map (deps_between m s) all) unmarked
    (in_flat_map (deps_between m s) all t (dep_of m s t a) ht
    (in_if (may_conflict s t) (dep_of m s t a) (map (dep_of m s t) (afters_of m s t)) may
    (in_map (dep_of m s t) a (afters_of m s t) ha))))
