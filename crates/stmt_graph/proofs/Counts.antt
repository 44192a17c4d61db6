-- Counting the places at which something holds; of two numbers one is less, or they are equal.
use Rattle.scop_syntax.proofs.Common.{◌≡◌, ℕ, zero, suc, ◌+◌, ◌<◌, Bool, true, false, refl, sym, ◌∙◌, ap, ◌⊎◌, inl, inr}
use Rattle.scop_syntax.proofs.Common.{arith, ◌≤◌, cases_lt, cases_Bool}

pub lt_or_eq : (a b : ℕ) → a ≤ b → (a < b) ⊎ (a ≡ b)
lt_or_eq a b h = elim (cases_lt a b) [
  | inl k ↦ inl k
  | inr k ↦ inr (omega arith)
]

abbrev pub one : Bool → ℕ
one true = 1
one false = 0

abbrev pub count : (ℕ → Bool) → ℕ → ℕ
count f zero = 0
count f (suc n) = count f n + one (f n)

one_most : (a b : Bool) → (a ≡ true → b ≡ true) → one a ≤ one b
one_most true b h = let e = ap one (h refl) in omega arith
one_most false b h = omega arith

pub count_most : (f g : ℕ → Bool) (n : ℕ) → ((b : ℕ) → b < n → f b ≡ true → g b ≡ true)
    → count f n ≤ count g n
count_most f g zero h = omega arith
count_most f g (suc n) h =
    let k = count_most f g n (λ b l. h b (omega arith)) in
    let o = one_most (f n) (g n) (h n (omega arith)) in
    omega arith

-- fewer, where one is left out
pub count_falls : (f g : ℕ → Bool) (n c : ℕ) → ((b : ℕ) → b < n → f b ≡ true → g b ≡ true) → c < n
    → f c ≡ false → g c ≡ true
    → count f n < count g n
count_falls f g zero c h l e k = absurd (omega arith)
count_falls f g (suc n) c h l e k = elim (lt_or_eq c n (omega arith)) [
  | inl u ↦
      let q = count_falls f g n c (λ b m. h b (omega arith)) u e k in
      let o = one_most (f n) (g n) (h n (omega arith)) in
      omega arith
  | inr u ↦
      let q = count_most f g n (λ b m. h b (omega arith)) in
      let x = ap (λ (z : ℕ). one (f z)) (sym u) ∙ ap one e in
      let y = ap (λ (z : ℕ). one (g z)) (sym u) ∙ ap one k in
      omega arith
]

pub none_counted : (f : ℕ → Bool) (n : ℕ) → count f n ≡ 0 → (b : ℕ) → b < n → f b ≡ false
none_counted f zero h b l = absurd (omega arith)
none_counted f (suc n) h b l = elim (lt_or_eq b n (omega arith)) [
  | inl u ↦ none_counted f n (omega arith) b u
  | inr u ↦ elim (cases_Bool (f n)) [
    | inl t ↦ let o = ap one t in absurd (omega arith)
    | inr t ↦ ap f u ∙ t
  ]
]

pub count_within : (f : ℕ → Bool) (n : ℕ) → count f n ≤ n
count_within f zero = omega arith
count_within f (suc n) =
    let k = count_within f n in
    let o = one_most (f n) true (λ e. refl) in
    omega arith

-- one place below n at which it holds, or none
pub found : (f : ℕ → Bool) (n : ℕ) → ((b : ℕ) × (b < n) × (f b ≡ true)) ⊎ ((b : ℕ) → b < n → f b ≡ false)
found f zero = inr (λ b l. absurd (omega arith))
found f (suc n) = elim (cases_Bool (f n)) [
  | inl t ↦ inl (n, omega arith, t)
  | inr t ↦ elim (found f n) [
    | inl h ↦ let l = h.1 in inl (h.0, omega arith, h.2)
    | inr h ↦ inr (λ b l. elim (lt_or_eq b n (omega arith)) [
      | inl u ↦ h b u
      | inr u ↦ ap f u ∙ t
    ])
  ]
]
