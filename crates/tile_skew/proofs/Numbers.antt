-- The numbers of a numbering of n statements are below n.
use Rattle.scop_syntax.proofs.Common.{◌≡◌, ℕ, zero, suc, ◌<◌, true, false, List, sym, ◌∙◌, ◌⊎◌, inl, inr, arith, nat_eq}
use Rattle.scop_syntax.proofs.Common.{nat_lt, ◌≤◌, eq-eqb, eqb-true, false≢true, cases_lt, nat_tests}
use Rattle.stmt_graph.specs.Graph.{number_in, IsNumbering, Reaches}
use Rattle.stmt_graph.proofs.Counts.{lt_or_eq, count, count_falls, count_within, found}

-- each number up to that of a statement is the number of one
each_taken : (n : ℕ) (edges : List (ℕ × ℕ)) (f : List ℕ) → IsNumbering n edges f → (fuel a k : ℕ)
    → number_in f a < fuel → a < n → k ≤ number_in f a → (b : ℕ) × (b < n) × (number_in f b ≡ k)
each_taken n edges f is zero a k lf la le = absurd (omega arith)
each_taken n edges f is (suc fuel) a k lf la le = elim (found (λ b. nat_eq (number_in f b) k) n) [
  | inl b ↦ (b.0, b.1, eqb-true (number_in f b.0) k b.2)
  | inr none ↦
      let free : (b : ℕ) → b < n → Reaches edges b a → (number_in f b < k) ⊎ (number_in f b ≡ number_in f a) =
      λ b lb r. elim (cases_lt (number_in f b) k) [
        | inl u ↦ inl u
        | inr u ↦ elim (lt_or_eq (number_in f b) (number_in f a) (is.rising b a lb la r)) [
          | inl v ↦
              let t = each_taken n edges f is fuel b k (omega arith) lb u in
              absurd (false≢true (sym (none t.0 t.1) ∙ eq-eqb (number_in f t.0) k t.2))
          | inr v ↦ inr v
        ]
      ] in
      let t = is.first k a la le free in
      let tl = t.1 in
      (t.0, omega arith, t.2)
]

less_more : (a v : ℕ) → nat_lt a v ≡ true → nat_lt a (suc v) ≡ true
less_more a v h = grind (arith, nat_tests, h)

less_same : (a v : ℕ) → a ≡ v → nat_lt a v ≡ false
less_same a v h = grind (arith, nat_tests, h)

less_next : (a v : ℕ) → a ≡ v → nat_lt a (suc v) ≡ true
less_next a v h = grind (arith, nat_tests, h)

-- where each number below v is one of the statements', v of the statements have such numbers
each_counted : (n : ℕ) (f : List ℕ) (v : ℕ) → ((k : ℕ) → k < v → (b : ℕ) × (b < n) × (number_in f b ≡ k))
    → v ≤ count (λ b. nat_lt (number_in f b) v) n
each_counted n f zero h = omega arith
each_counted n f (suc v) h =
    let r = each_counted n f v (λ k l. h k (omega arith)) in
    let t = h v (omega arith) in
    let more = count_falls (λ b. nat_lt (number_in f b) v) (λ b. nat_lt (number_in f b) (suc v)) n t.0
    (λ b l e. less_more (number_in f b) v e) t.1 (less_same (number_in f t.0) v t.2)
    (less_next (number_in f t.0) v t.2) in
    omega arith

pub numbers_below : (n : ℕ) (edges : List (ℕ × ℕ)) (f : List ℕ) → IsNumbering n edges f → (a : ℕ) → a < n
    → number_in f a < n
numbers_below n edges f is a la =
    let v = number_in f a in
    let c = each_counted n f (suc v) (λ k l. each_taken n edges f is (suc v) a k (omega arith) la (omega arith)) in
    let w = count_within (λ b. nat_lt (number_in f b) (suc v)) n in
    omega arith
