-- Chains of edges, and what is reached by them.
use Rattle.scop_syntax.proofs.Common.{get_or, ◌≡◌, ℕ, zero, suc, ◌<◌, Bool, true, false, List, [], ◌∷◌, ◌++◌, refl, sym}
use Rattle.scop_syntax.proofs.Common.{◌∙◌, ap, subst, ◌⊎◌, inl, inr, arith, length, set, All, None, Some, drop}
use Rattle.scop_syntax.proofs.Common.{drop-cons, add-one, ◌+◌, length-set, get_or-set_same, get_or-set_other, All-head}
use Rattle.scop_syntax.proofs.Common.{All-tail, All-same, All-cons, false≢true, cases_lt, get_or_same, In}
use Rattle.stmt_graph.specs.Graph.{AreWithin, IsChain, Reaches}
use Rattle.stmt_graph.specs.steps.Closure.{at, Leads, IsReached, IsClosure, AreSquare}

pub in_all : {X : Type 0} (P : X → Type 0) (x : X) (xs : List X) → All P xs → In x xs → P x
in_all P x [] h i = absurd i
in_all P x (y ∷ xs) h (inl e) = subst P (sym e) (All-head P y xs h)
in_all P x (y ∷ xs) h (inr i) = in_all P x xs (All-tail P y xs h) i

chain_more : (edges : List (ℕ × ℕ)) (a b c : ℕ) (path : List ℕ) → IsChain edges a path b → In (b, c) edges
    → IsChain edges a (path ++ c ∷ []) c
chain_more edges a b c [] h i = (subst (λ (z : ℕ). In (z, c) edges) (sym h) i, refl)
chain_more edges a b c (d ∷ path) h i = (h.0, chain_more edges d b c path h.1 i)

-- an edge more
pub reaches_more : (edges : List (ℕ × ℕ)) (a b c : ℕ) → Reaches edges a b → In (b, c) edges
    → Reaches edges a c
reaches_more edges a b c r i = (r.0 ++ c ∷ [], chain_more edges a b c r.0 r.1 i)

chain_on : (edges : List (ℕ × ℕ)) (a b c : ℕ) (path more : List ℕ) → IsChain edges a path b
    → IsChain edges b more c → IsChain edges a (path ++ more) c
chain_on edges a b c [] more h k = subst (λ (z : ℕ). IsChain edges z more c) (sym h) k
chain_on edges a b c (d ∷ path) more h k = (h.0, chain_on edges d b c path more h.1 k)

pub reaches_on : (edges : List (ℕ × ℕ)) (a b c : ℕ) → Reaches edges a b → Reaches edges b c
    → Reaches edges a c
reaches_on edges a b c r s = (r.0 ++ s.0, chain_on edges a b c r.0 s.0 r.1 s.1)

-- what no edge leaves holds all that is reached from within
stable_chain : (edges : List (ℕ × ℕ)) (reached : List Bool) (a b : ℕ) (path : List ℕ)
    → All (λ (e : ℕ × ℕ). at reached e.0 ≡ true → at reached e.1 ≡ true) edges
    → at reached a ≡ true → IsChain edges a path b → at reached b ≡ true
stable_chain edges reached a b [] h t k = subst (λ (z : ℕ). at reached z ≡ true) k t
stable_chain edges reached a b (c ∷ path) h t k =
    stable_chain edges reached c b path h
    (in_all (λ (e : ℕ × ℕ). at reached e.0 ≡ true → at reached e.1 ≡ true) (a, c) edges h k.0 t) k.1

-- what is reached so far
pub record IsGrowing (n : ℕ) (edges : List (ℕ × ℕ)) (from : ℕ) (reached : List Bool) : Type 0 where
  pub size : length reached ≡ n
  pub first : at reached from ≡ true
  pub sound : (b : ℕ) → b < n → at reached b ≡ true → Reaches edges from b

pub grown : (n : ℕ) (edges : List (ℕ × ℕ)) (from : ℕ) (reached : List Bool) → IsGrowing n edges from reached
    → Leads edges reached None → IsReached n edges from reached
grown n edges from reached g h =
    record {
      size = g.size;
      exact = λ b l.
          (g.sound b l, λ r. stable_chain edges reached from b r.0 h g.first r.1);
    }

set_at : (reached : List Bool) (t b : ℕ) → t < length reached → at reached b ≡ true
    → at (set reached t true) b ≡ true
set_at reached t b l e = elim (cases_lt b t) [
  | inl u ↦ get_or-set_other reached t b true false (λ q. omega arith) ∙ e
  | inr u ↦ elim (cases_lt t b) [
    | inl v ↦ get_or-set_other reached t b true false (λ q. omega arith) ∙ e
    | inr v ↦ let s : b ≡ t = omega arith in ap (λ (z : ℕ). at (set reached t true) z) s
        ∙ get_or-set_same reached t true false l
  ]
]

set_from : (reached : List Bool) (t b : ℕ) → at (set reached t true) b ≡ true
    → (at reached b ≡ true) ⊎ (b ≡ t)
set_from reached t b e = elim (cases_lt b t) [
  | inl u ↦ inl (sym (get_or-set_other reached t b true false (λ q. omega arith)) ∙ e)
  | inr u ↦ elim (cases_lt t b) [
    | inl v ↦ inl (sym (get_or-set_other reached t b true false (λ q. omega arith)) ∙ e)
    | inr v ↦ inr (omega arith)
  ]
]

pub grows : (n : ℕ) (edges : List (ℕ × ℕ)) (from t : ℕ) (reached : List Bool) → AreWithin n edges
    → IsGrowing n edges from reached
    → Leads edges reached (Some t) → IsGrowing n edges from (set reached t true)
grows n edges from t reached within g h =
    let l = h.3 in
    let ends = in_all (λ (x : ℕ × ℕ). (x.0 < n) × (x.1 < n)) (h.0, t) edges within h.1 in
    record {
      size = length-set reached t true ∙ g.size;
      first = set_at reached t from l g.first;
      sound = λ b m k. elim (set_from reached t b k) [
        | inl q ↦ g.sound b m q
        | inr q ↦ subst (Reaches edges from) (sym q)
            (reaches_more edges from h.0 t (g.sound h.0 ends.0 h.2) h.1)
      ];
    }

-- each step leaves fewer
abbrev pub unreached : List Bool → ℕ
unreached [] = 0
unreached (true ∷ bs) = unreached bs
unreached (false ∷ bs) = suc (unreached bs)

pub unreached_falls : (reached : List Bool) (t : ℕ) → t < length reached → at reached t ≡ false
    → unreached (set reached t true) < unreached reached
unreached_falls [] t l e = absurd (omega arith)
unreached_falls (true ∷ bs) zero l e = absurd (false≢true (sym e))
unreached_falls (false ∷ bs) zero l e = omega arith
unreached_falls (true ∷ bs) (suc t) l e = let k = unreached_falls bs t (omega (arith, l)) e in omega arith
unreached_falls (false ∷ bs) (suc t) l e = let k = unreached_falls bs t (omega (arith, l)) e in omega arith

-- one more from the front
pub all_from : {X : Type 0} (P : X → Type 0) (xs : List X) (i : ℕ) (d : X) → i < length xs → P (get_or xs i d)
    → All P (drop (i + 1) xs) → All P (drop i xs)
all_from P xs i d h p all =
    All-same P (drop i xs) (get_or xs i d ∷ drop (suc i) xs) (drop-cons xs i d h)
    (All-cons P (get_or xs i d) (drop (suc i) xs) p
    (All-same P (drop (suc i) xs) (drop (i + 1) xs) (ap (λ (k : ℕ). drop k xs) (sym (add-one i))) all))

pub square : (n : ℕ) (edges : List (ℕ × ℕ)) (rows : List (List Bool)) → IsClosure n edges rows
    → AreSquare rows
square n edges rows c k d l =
    let s = c.size in
    ap length (get_or_same rows k d [] l) ∙ ((c.rows_are k (omega arith)).size ∙ sym c.size)

pub get_or_append : {X : Type 0} (xs ys : List X) (i : ℕ) (d : X) → i < length xs
    → get_or (xs ++ ys) i d ≡ get_or xs i d
get_or_append [] ys i d h = absurd (omega arith)
get_or_append (x ∷ xs) ys zero d h = refl
get_or_append (x ∷ xs) ys (suc i) d h = get_or_append xs ys i d (omega (arith, h))

pub get_or_last : {X : Type 0} (xs : List X) (y : X) (i : ℕ) (d : X) → i ≡ length xs
    → get_or (xs ++ y ∷ []) i d ≡ y
get_or_last [] y zero d h = refl
get_or_last [] y (suc i) d h = absurd (omega (arith, h))
get_or_last (x ∷ xs) y zero d h = absurd (omega (arith, h))
get_or_last (x ∷ xs) y (suc i) d h = get_or_last xs y i d (omega (arith, h))
