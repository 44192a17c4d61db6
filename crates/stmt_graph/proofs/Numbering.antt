-- There is one numbering of the components.
use Rattle.scop_syntax.proofs.Common.{◌≡◌, ℕ, zero, suc, ◌<◌, pos, List, [], ◌∷◌, refl, sym, ◌∙◌, ap₂, subst, ◌⊎◌, inl}
use Rattle.scop_syntax.proofs.Common.{inr, arith, length, ◌≤◌, ints, le_or_lt}
use Rattle.stmt_graph.specs.Graph.{number_in}
use Rattle.stmt_graph.specs.Graph.{IsNumbering, Reaches}
use Rattle.stmt_graph.proofs.Counts.{lt_or_eq}

abbrev pub Agrees : ℕ → List ℕ → List ℕ → ℕ → Type 0
Agrees n f g k = (a j : ℕ) → a < n → j < k → number_in f a ≡ j → number_in g a ≡ j

abbrev IsFree : ℕ → List (ℕ × ℕ) → List ℕ → ℕ → ℕ → Type 0
IsFree n ds g k a = (b : ℕ) → b < n → Reaches ds b a → (number_in g b < k) ⊎ (number_in g b ≡ number_in g a)

one_component : (n : ℕ) (ds : List (ℕ × ℕ)) (f g : List ℕ) → IsNumbering n ds f → IsNumbering n ds g
    → (a b : ℕ) → a < n → b < n
    → number_in f a ≡ number_in f b → number_in g a ≡ number_in g b
one_component n ds f g F G a b la lb e = (G.together a b la lb).1 ((F.together a b la lb).0 e)

-- a component with number k in the one numbering has at least k in the other, and is free there
at_least_there : (n : ℕ) (f g : List ℕ) (k a : ℕ) → Agrees n g f k → a < n → number_in f a ≡ k
    → k ≤ number_in g a
at_least_there n f g k a back la e = elim (le_or_lt (pos k) (pos (number_in g a))) [
  | inl l ↦ omega (arith, ints)
  | inr l ↦ let q = back a (number_in g a) la (omega (arith, ints)) refl in absurd (omega (arith, ints))
]

free_there : (n : ℕ) (ds : List (ℕ × ℕ)) (f g : List ℕ) (k a : ℕ) → IsNumbering n ds f → IsNumbering n ds g
    → Agrees n f g k → a < n
    → number_in f a ≡ k → IsFree n ds g k a
free_there n ds f g k a F G agree la e b lb r =
    elim (lt_or_eq (number_in f b) (number_in f a) (F.rising b a lb la r)) [
      | inl l ↦ let q = agree b (number_in f b) lb (omega arith) refl in inl (omega arith)
      | inr s ↦ inr (one_component n ds f g F G b a lb la s)
    ]

one_side : (n : ℕ) (ds : List (ℕ × ℕ)) (f g : List ℕ) (k : ℕ) → IsNumbering n ds f → IsNumbering n ds g
    → Agrees n f g k → Agrees n g f k
    → (fuel a : ℕ) → a < fuel → a < n → number_in f a ≡ k → number_in g a ≡ k
one_side n ds f g k F G there back zero a lf la e = absurd (omega arith)
one_side n ds f g k F G there back (suc fuel) a lf la e =
    let b = G.first k a la (at_least_there n f g k a back la e) (free_there n ds f g k a F G there la e) in
    let le = b.1 in
    let lb : b.0 < n = omega arith in
    let c = F.first k b.0 lb (at_least_there n g f k b.0 there lb b.2)
    (free_there n ds g f k b.0 G F back lb b.2) in
    let lc = c.1 in
    elim (lt_or_eq c.0 a (omega arith)) [
      | inl u ↦
          let q = one_side n ds f g k F G there back fuel c.0 (omega arith) (omega arith) c.2 in
          sym (one_component n ds f g F G c.0 a (omega arith) la (c.2 ∙ sym e)) ∙ q
      | inr s ↦ let z : b.0 ≡ a = omega arith in subst (λ (x : ℕ). number_in g x ≡ k) z b.2
    ]

agrees_more : (n : ℕ) (f g : List ℕ) (k : ℕ) → Agrees n f g k
    → ((a : ℕ) → a < n → number_in f a ≡ k → number_in g a ≡ k) → Agrees n f g (suc k)
agrees_more n f g k h more a j la lj e = elim (lt_or_eq j k (omega arith)) [
  | inl l ↦ h a j la l e
  | inr s ↦ more a la (e ∙ s) ∙ sym s
]

agree_all : (n : ℕ) (ds : List (ℕ × ℕ)) (f g : List ℕ) → IsNumbering n ds f → IsNumbering n ds g → (k : ℕ)
    → Agrees n f g k × Agrees n g f k
agree_all n ds f g F G zero = (λ a j la lj e. absurd (omega arith), λ a j la lj e. absurd (omega arith))
agree_all n ds f g F G (suc k) =
    let h = agree_all n ds f g F G k in (
      agrees_more n f g k h.0 (λ a la e. one_side n ds f g k F G h.0 h.1 (suc a) a (omega arith) la e),
      agrees_more n g f k h.1 (λ a la e. one_side n ds g f k G F h.1 h.0 (suc a) a (omega arith) la e),
    )

numbers_same : (f g : List ℕ) → length f ≡ length g → ((a : ℕ) → a < length f → number_in f a ≡ number_in g a)
    → f ≡ g
numbers_same [] [] h k = refl
numbers_same [] (y ∷ g) h k = absurd (omega (arith, h))
numbers_same (x ∷ f) [] h k = absurd (omega (arith, h))
numbers_same (x ∷ f) (y ∷ g) h k =
    ap₂ (λ (v : ℕ) (vs : List ℕ). v ∷ vs) (k 0 (omega arith))
    (numbers_same f g (omega (arith, h)) (λ a l. k (suc a) (omega arith)))

pub numbering_unique : (n : ℕ) (ds : List (ℕ × ℕ)) (f g : List ℕ) → IsNumbering n ds f → IsNumbering n ds g
    → f ≡ g
numbering_unique n ds f g F G =
    let s = F.size in
    numbers_same f g (F.size ∙ sym G.size)
    (λ a l. sym ((agree_all n ds f g F G (suc (number_in f a))).0 a (number_in f a) (omega arith)
    (omega arith) refl))
