-- How many pairs of statements dependences join: no more where they are restricted, fewer where some are cut.
use Rattle.scop_syntax.proofs.Common.{◌≡◌, ℕ, zero, suc, ◌+◌, ◌*◌, ◌<◌, ◌≤◌, Bool, true, false, List, [], ◌∷◌, inl, inr}
use Rattle.scop_syntax.proofs.Common.{ap, ap₂, sym, ◌∙◌, subst, refl, arith, length, nat_eq, if◌then◌else◌, eq-eqb}
use Rattle.scop_syntax.proofs.Common.{eqb-true, In, in_map, in_map_from, nat_cases}
use Rattle.stmt_graph.specs.Graph.{number_in}
use Rattle.iteration_domains.specs.Dependence.{Dependence}
use Rattle.schedule_rows.specs.Dependences.{edge_of, edges_of, equal_at}
use Rattle.schedule_rows.specs.Items.{Marked}
use Rattle.schedule_rows.specs.Next.{IsSizedDep, Restricts, Uncuts, restricted}
use Rattle.schedule_rows.proofs.RunInvariants.{uncuts_from}

-- whether some edge leads from a to b
abbrev pub joins : ℕ → ℕ → List (ℕ × ℕ) → Bool
joins a b [] = false
joins a b (e ∷ es) = if (if nat_eq a e.0 then nat_eq b e.1 else false) then true else joins a b es

-- to how many numbers below n edges lead from a
abbrev pub row_count : ℕ → ℕ → List (ℕ × ℕ) → ℕ
row_count a zero es = 0
row_count a (suc n) es = (if joins a n es then 1 else 0) + row_count a n es

-- from how many numbers below k to how many below n
abbrev pub pair_count : ℕ → ℕ → List (ℕ × ℕ) → ℕ
pair_count zero n es = 0
pair_count (suc k) n es = row_count k n es + pair_count k n es

-- an edge leads from a to b just where the two are one of the edges
joined_in : (a b : ℕ) (es : List (ℕ × ℕ)) → joins a b es ≡ true → In (a, b) es
joined_in a b [] h = absurd cc
joined_in a b (e ∷ es) h = first (nat_eq a e.0) (nat_eq b e.1) refl refl (joined_in a b es) h
  where
    first : (p q : Bool) → nat_eq a e.0 ≡ p → nat_eq b e.1 ≡ q → (joins a b es ≡ true → In (a, b) es)
        → (if (if p then q else false) then true else joins a b es) ≡ true → In (a, b) (e ∷ es)
    first true true f g rest h = inl (ap₂ (λ (x y : ℕ). (x, y)) (eqb-true a e.0 f) (eqb-true b e.1 g))
    first true false f g rest h = inr (rest h)
    first false q f g rest h = inr (rest h)

here : (p : Bool) → p ≡ true → (q : Bool) → (if p then true else q) ≡ true
here true h q = refl
here false h q = absurd cc

behind : (p q : Bool) → q ≡ true → (if p then true else q) ≡ true
behind true q h = refl
behind false q h = h

in_joined : (a b : ℕ) (es : List (ℕ × ℕ)) → In (a, b) es → joins a b es ≡ true
in_joined a b [] i = absurd i
in_joined a b (e ∷ es) (inl same) =
    here (if nat_eq a e.0 then nat_eq b e.1 else false)
    (rw (eq-eqb a e.0 (ap (λ (p : ℕ × ℕ). p.0) same)) (eq-eqb b e.1 (ap (λ (p : ℕ × ℕ). p.1) same))) (joins a b es)
in_joined a b (e ∷ es) (inr i) =
    behind (if nat_eq a e.0 then nat_eq b e.1 else false) (joins a b es) (in_joined a b es i)

-- edges that join no two which others do not
abbrev AreAmong : List (ℕ × ℕ) → List (ℕ × ℕ) → Type 0
AreAmong es ds = (a b : ℕ) → joins a b es ≡ true → joins a b ds ≡ true

one_most : (p q : Bool) → (p ≡ true → q ≡ true) → (if p then 1 else 0) ≤ (if q then 1 else 0)
one_most true q h = let e = h refl in rw e (omega arith)
one_most false q h = omega arith

row_least : (a n : ℕ) (es ds : List (ℕ × ℕ)) → AreAmong es ds → row_count a n es ≤ row_count a n ds
row_least a zero es ds among = omega arith
row_least a (suc n) es ds among =
    let r = row_least a n es ds among in
    let o = one_most (joins a n es) (joins a n ds) (among a n) in
    omega arith

one_less : (p q : Bool) → p ≡ false → q ≡ true → (if p then 1 else 0) < (if q then 1 else 0)
one_less p q e f = rw (e, f) (omega arith)

row_less : (a b n : ℕ) (es ds : List (ℕ × ℕ)) → AreAmong es ds → b < n → joins a b es ≡ false
    → joins a b ds ≡ true → row_count a n es < row_count a n ds
row_less a b zero es ds among l e f = absurd (omega arith)
row_less a b (suc n) es ds among l e f =
    let o = one_most (joins a n es) (joins a n ds) (among a n) in
    nat_cases b n (λ less. let r = row_less a b n es ds among less e f in omega arith)
    (λ same.
    let r = row_least a n es ds among in
    let s = one_less (joins a n es) (joins a n ds) (subst (λ k. joins a k es ≡ false) same e)
    (subst (λ k. joins a k ds ≡ true) same f) in
    omega arith)
    (λ more. absurd (omega arith))

pair_least : (k n : ℕ) (es ds : List (ℕ × ℕ)) → AreAmong es ds → pair_count k n es ≤ pair_count k n ds
pair_least zero n es ds among = omega arith
pair_least (suc k) n es ds among =
    let r = row_least k n es ds among in
    let p = pair_least k n es ds among in
    omega arith

pair_less : (k n a b : ℕ) (es ds : List (ℕ × ℕ)) → AreAmong es ds → a < k → b < n → joins a b es ≡ false
    → joins a b ds ≡ true → pair_count k n es < pair_count k n ds
pair_less zero n a b es ds among l m e f = absurd (omega arith)
pair_less (suc k) n a b es ds among l m e f =
    let r = row_least k n es ds among in
    nat_cases a k (λ less. let p = pair_less k n a b es ds among less m e f in omega arith)
    (λ same.
    let p = pair_least k n es ds among in
    let s = row_less k b n es ds among m (subst (λ i. joins i b es ≡ false) same e)
    (subst (λ i. joins i b ds ≡ true) same f) in
    omega arith)
    (λ more. absurd (omega arith))

row_most : (a n : ℕ) (es : List (ℕ × ℕ)) → row_count a n es ≤ n
row_most a zero es = omega arith
row_most a (suc n) es = one (joins a n es) (row_most a n es)
  where
    one : (p : Bool) → row_count a n es ≤ n → (if p then 1 else 0) + row_count a n es ≤ suc n
    one true r = omega arith
    one false r = omega arith

pair_most : (k n : ℕ) (es : List (ℕ × ℕ)) → n ≤ 32 → pair_count k n es ≤ k * 32
pair_most zero n es few = omega arith
pair_most (suc k) n es few =
    let r = row_most k n es in
    let p = pair_most k n es few in
    omega arith

-- how many pairs of n statements dependences join
abbrev pub joined_pairs : ℕ → List Dependence → ℕ
joined_pairs n ds = pair_count n n (edges_of ds)

-- of the statements of a kernel they join no more than 1024
pub joined_few : (n : ℕ) (ds : List Dependence) → n ≤ 32 → joined_pairs n ds ≤ 1024
joined_few n ds few = let p = pair_most n n (edges_of ds) few in omega arith

-- each of these dependences has the ends of one of those
abbrev HaveEnds : List Dependence → List Dependence → Type 0
HaveEnds kept ds = (e : Dependence) → In e kept → (d : Dependence) × In d ds × (edge_of e ≡ edge_of d)

among_ends : (kept ds : List Dependence) → HaveEnds kept ds → AreAmong (edges_of kept) (edges_of ds)
among_ends kept ds ends a b h =
    let e = in_map_from edge_of (a, b) kept (joined_in a b (edges_of kept) h) in
    let d = ends e.0 e.1 in
    in_joined a b (edges_of ds)
    (subst (λ (p : ℕ × ℕ). In p (edges_of ds)) (sym (e.2 ∙ d.2)) (in_map edge_of d.0 ds d.1))

-- a dependence that is restricted keeps its ends
restricted_ends : (m : ℕ) (ms : List Marked) (d : Dependence) → edge_of (restricted m ms d) ≡ edge_of d
restricted_ends m [] d = refl
restricted_ends m (r ∷ ms) d = restricted_ends m ms (equal_at m r.row d)

restricts_ends : (m : ℕ) (ms : List Marked) (ds kept : List Dependence) → Restricts m ms ds kept → HaveEnds kept ds
restricts_ends m ms [] kept h e i = absurd (subst (λ (l : List Dependence). In e l) h i)
restricts_ends m ms (c ∷ ds) kept (inl h) e i =
    let d = restricts_ends m ms ds kept h.1 e i in (d.0, inr d.1, d.2)
restricts_ends m ms (c ∷ ds) kept (inr h) e i = elim (subst (λ (l : List Dependence). In e l) h.3 i) [
  | inl q ↦ (c, inl refl, ap edge_of q ∙ restricted_ends m ms c)
  | inr j ↦ let d = restricts_ends m ms ds h.0 h.2 e j in (d.0, inr d.1, d.2)
]

pub restricted_pairs : (n m : ℕ) (ms : List Marked) (ds kept : List Dependence) → Restricts m ms ds kept
    → joined_pairs n kept ≤ joined_pairs n ds
restricted_pairs n m ms ds kept h =
    pair_least n n (edges_of kept) (edges_of ds) (among_ends kept ds (restricts_ends m ms ds kept h))

-- of those that are kept where components are cut, both ends have one number; where fewer are kept, one's have two
uncut_numbers : (numbers : List ℕ) (ds kept : List Dependence) → Uncuts numbers ds kept → (e : Dependence) → In e kept
    → number_in numbers e.source.statement ≡ number_in numbers e.target.statement
uncut_numbers numbers [] kept u e i = absurd (subst (λ (l : List Dependence). In e l) u i)
uncut_numbers numbers (c ∷ ds) kept (inl u) e i = uncut_numbers numbers ds kept u.1 e i
uncut_numbers numbers (c ∷ ds) kept (inr u) e i = elim (subst (λ (l : List Dependence). In e l) u.3 i) [
  | inl q ↦ subst (λ (z : Dependence). number_in numbers z.source.statement ≡ number_in numbers z.target.statement)
      (sym q) u.1
  | inr j ↦ uncut_numbers numbers ds u.0 u.2 e j
]

cut_one : (numbers : List ℕ) (ds kept : List Dependence) → Uncuts numbers ds kept → length kept < length ds
    → (d : Dependence) × In d ds
    × (number_in numbers d.source.statement ≡ number_in numbers d.target.statement → ⊥)
cut_one numbers [] kept u l = absurd (omega arith)
cut_one numbers (c ∷ ds) kept (inl u) l = (c, inl refl, u.0)
cut_one numbers (c ∷ ds) kept (inr u) l =
    let same = ap length u.3 in
    let d = cut_one numbers ds u.0 u.2 (omega arith) in
    (d.0, inr d.1, d.2)

no_edge : (b : Bool) → (b ≡ true → ⊥) → b ≡ false
no_edge true h = absurd (h refl)
no_edge false h = refl

pub cut_pairs : (loops numbers : List ℕ) (ds kept : List Dependence) → Uncuts numbers ds kept
    → length kept < length ds → ((d : Dependence) → In d ds → IsSizedDep loops d)
    → joined_pairs (length loops) kept < joined_pairs (length loops) ds
cut_pairs loops numbers ds kept u l sized =
    let d = cut_one numbers ds kept u l in
    let s = sized d.0 d.1 in
    let a = d.0.source.statement in
    let b = d.0.target.statement in
    let none : joins a b (edges_of kept) ≡ false = no_edge (joins a b (edges_of kept)) (λ h.
    let e = in_map_from edge_of (a, b) kept (joined_in a b (edges_of kept) h) in
    let own = uncut_numbers numbers ds kept u e.0 e.1 in
    d.2 (ap (λ (p : ℕ × ℕ). number_in numbers p.0) e.2 ∙ (own
    ∙ sym (ap (λ (p : ℕ × ℕ). number_in numbers p.1) e.2)))) in
    pair_less (length loops) (length loops) a b (edges_of kept) (edges_of ds)
    (among_ends kept ds (λ e i. (e, uncuts_from numbers ds kept e u i, refl))) s.source s.target none
    (in_joined a b (edges_of ds) (in_map edge_of d.0 ds d.1))
