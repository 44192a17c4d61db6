-- Components are numbered one after another.
use Rattle.scop_syntax.proofs.Common.{◌≡◌, ℕ, zero, suc, ◌<◌, Bool, true, false, List, [], refl, sym, ◌∙◌, ap, ◌⊎◌, inl}
use Rattle.scop_syntax.proofs.Common.{inr, arith, length, None, Some, nat_eq, nat_lt, ◌≤◌, ◌↔◌, if◌then◌else◌}
use Rattle.scop_syntax.proofs.Common.{false≢true, eq-eqb, le-ltb, ltb-false, eqb-true, cases_lt, cases_Bool, both}
use Rattle.scop_syntax.proofs.Common.{nat_eq_below}
use Rattle.whole_numbers.proofs.Tests.{if_both}
use Rattle.stmt_graph.specs.Graph.{number_in, Reaches, IsNumbering}
use Rattle.stmt_graph.specs.steps.Closure.{IsClosure, reaches, joined, IsFree, IsNext, IsGiven}
use Rattle.stmt_graph.proofs.Counts.{lt_or_eq, count, count_falls, found, none_counted}
use Rattle.stmt_graph.proofs.Reachability.{reaches_on}

abbrev pub Mutual : List (ℕ × ℕ) → ℕ → ℕ → Type 0
Mutual edges a b = Reaches edges a b × Reaches edges b a

-- the components with numbers below k are numbered; all other statements have the number n
pub record IsPartial (n : ℕ) (edges : List (ℕ × ℕ)) (k : ℕ) (numbers : List ℕ) : Type 0 where
  pub size : length numbers ≡ n
  pub each : (a : ℕ) → a < n → (number_in numbers a < k) ⊎ (number_in numbers a ≡ n)
  pub within : k ≤ n
  pub together : (a b : ℕ) → a < n → b < n → number_in numbers a < k
      → (number_in numbers a ≡ number_in numbers b) ↔ Mutual edges a b
  pub rising : (a b : ℕ) → a < n → b < n → Reaches edges a b → number_in numbers a ≤ number_in numbers b
  pub first : (j a : ℕ) → j < k → a < n → j ≤ number_in numbers a
      → ((b : ℕ) → b < n → Reaches edges b a → (number_in numbers b < j) ⊎ Mutual edges b a)
      → (b : ℕ) × (b ≤ a) × (number_in numbers b ≡ j)

reach_to : (n : ℕ) (edges : List (ℕ × ℕ)) (rows : List (List Bool)) (a b : ℕ) → IsClosure n edges rows → a < n
    → b < n → reaches rows a b ≡ true → Reaches edges a b
reach_to n edges rows a b c la lb e = ((c.rows_are a la).exact b lb).0 e

reach_from : (n : ℕ) (edges : List (ℕ × ℕ)) (rows : List (List Bool)) (a b : ℕ) → IsClosure n edges rows
    → a < n → b < n → Reaches edges a b → reaches rows a b ≡ true
reach_from n edges rows a b c la lb e = ((c.rows_are a la).exact b lb).1 e

joined_to : (n : ℕ) (edges : List (ℕ × ℕ)) (rows : List (List Bool)) (a b : ℕ) → IsClosure n edges rows
    → a < n → b < n → joined rows a b ≡ true → Mutual edges a b
joined_to n edges rows a b c la lb e =
    let k = both (reaches rows a b) (reaches rows b a) e in
    (reach_to n edges rows a b c la lb k.0, reach_to n edges rows b a c lb la k.1)

joined_from : (n : ℕ) (edges : List (ℕ × ℕ)) (rows : List (List Bool)) (a b : ℕ) → IsClosure n edges rows
    → a < n → b < n → Mutual edges a b → joined rows a b ≡ true
joined_from n edges rows a b c la lb m =
    if_both (reaches rows a b) (reaches rows b a) (reach_from n edges rows a b c la lb m.0)
    (reach_from n edges rows b a c lb la m.1)

-- what a statement's number is when a's component is given k: it is of that component, or its number stays
given_at : (n : ℕ) (edges : List (ℕ × ℕ)) (rows : List (List Bool)) (a k : ℕ) (old new : List ℕ) (b : ℕ)
    → IsClosure n edges rows → a < n → b < n → length old ≡ n
    → IsGiven rows a k old new → ((number_in new b ≡ k) × Mutual edges a b) ⊎
    ((number_in new b ≡ number_in old b) × (Mutual edges a b → ⊥))
given_at n edges rows a k old new b c la lb size g = elim (cases_Bool (joined rows a b)) [
  | inl t ↦ inl (
    g b (omega arith)
        ∙ ap (λ (z : Bool). if z then k else number_in old b) t,
    joined_to n edges rows a b c la lb t,
  )
  | inr t ↦ inr (
    g b (omega arith) ∙ ap (λ (z : Bool). if z then k else number_in old b) t,
    λ m. false≢true (sym t ∙ joined_from n edges rows a b c la lb m),
  )
]

turn : (edges : List (ℕ × ℕ)) (a b : ℕ) → Mutual edges a b → Mutual edges b a
turn edges a b m = (m.1, m.0)

chain : (edges : List (ℕ × ℕ)) (a b c : ℕ) → Mutual edges a b → Mutual edges b c → Mutual edges a c
chain edges a b c m k = (reaches_on edges a b c m.0 k.0, reaches_on edges c b a k.1 m.1)

-- one component more
pub given : (n : ℕ) (edges : List (ℕ × ℕ)) (rows : List (List Bool)) (a k : ℕ) (old new : List ℕ)
    → IsClosure n edges rows → k < n
    → IsPartial n edges k old → IsNext n rows old k
    (Some a) → length new ≡ length old → IsGiven rows a k old new → IsPartial n edges (suc k) new
given n edges rows a k old new c lk p next size g =
    let la = next.0 in
    let ka = next.1 in
    let s = p.size in
    let apart : number_in old a ≡ n = elim (p.each a la) [
      | inl u ↦ absurd (omega arith)
      | inr u ↦ u
    ] in
    -- what is in a's component had no number
    let fresh : (b : ℕ) → b < n → Mutual edges a b → number_in old b ≡ n = λ b lb m. elim (p.each b lb) [
      | inl u ↦ let q = (p.together b a lb la u).1 (turn edges a b m) in absurd (omega arith)
      | inr u ↦ u
    ] in
    let at_b : (b : ℕ) → b < n → ((number_in new b ≡ k) × Mutual edges a b) ⊎
    ((number_in new b ≡ number_in old b) × (Mutual edges a b → ⊥)) =
    λ b lb. given_at n edges rows a k old new b c la lb s g in
    record {
      size = size ∙ s;
      each = λ b lb. elim (at_b b lb) [
        | inl u ↦ let q = u.0 in inl (omega arith)
        | inr u ↦ let q = u.0 in elim (p.each b lb) [
          | inl v ↦ inl (omega arith)
          | inr v ↦ inr (omega arith)
        ]
      ];
      within = omega arith;
      together = λ x y lx ly l. elim (at_b x lx) [
        | inl u ↦ elim (at_b y ly) [
          | inl v ↦ (λ e. chain edges x a y (turn edges a x u.1) v.1, λ m. u.0 ∙ sym v.0)
          | inr v ↦
              let q = u.0 in
              let w = v.0 in (
                λ e. elim (p.each y ly) [
                  | inl z ↦ absurd (omega arith)
                  | inr z ↦ absurd (omega arith)
                ],
                λ m. absurd (v.1 (chain edges a x y u.1 m)),
              )
        ]
        | inr u ↦
            let q = u.0 in
            let lo : number_in old x < k = elim (p.each x lx) [
              | inl z ↦ z
              | inr z ↦ absurd (omega arith)
            ] in
            elim (at_b y ly) [
              | inl v ↦
                  let w = v.0 in
                  (λ e. absurd (omega arith), λ m. absurd (u.1 (chain edges a y x v.1 (turn edges x y m))))
              | inr v ↦
                  let w = v.0 in
                  let t = p.together x y lx ly lo in
                  (λ e. t.0 (omega arith), λ m. let r = t.1 m in omega arith)
            ]
      ];
      rising = λ x y lx ly r. elim (at_b y ly) [
        | inl v ↦
            let w = v.0 in
            elim (at_b x lx) [
              | inl u ↦ let q = u.0 in omega arith
              | inr u ↦
                  let q = u.0 in
                  elim (cases_lt (number_in old x) k) [
                    | inl z ↦ omega arith
                    | inr z ↦
                        let xa = reaches_on edges x y a r v.1.1 in
                        let back = next.2 x lx z (reach_from n edges rows x a c lx la xa) in
                        absurd (u.1 (reach_to n edges rows a x c la lx back, xa))
                  ]
            ]
        | inr v ↦
            let w = v.0 in
            let o = p.rising x y lx ly r in
            elim (at_b x lx) [
              | inl u ↦ let q = u.0 in let f = fresh x lx u.1 in elim (p.each y ly) [
                | inl z ↦ absurd (omega arith)
                | inr z ↦ omega arith
              ]
              | inr u ↦ let q = u.0 in omega arith
            ]
      ];
      first = λ j x lj lx le free. elim (lt_or_eq j k (omega arith)) [
        | inl u ↦
            -- an earlier number
            let old_le : j ≤ number_in old x = elim (at_b x lx) [
              | inl v ↦ let f = fresh x lx v.1 in omega arith
              | inr v ↦ let q = v.0 in omega arith
            ] in
            let found = p.first j x u lx old_le (λ b lb r. elim (free b lb r) [
              | inl z ↦ elim (at_b b lb) [
                | inl v ↦ let q = v.0 in absurd (omega arith)
                | inr v ↦ let q = v.0 in inl (omega arith)
              ]
              | inr z ↦ inr z
            ]) in
            let b = found.0 in
            let lb = found.1 in
            let e = found.2 in
            elim (at_b b (omega arith)) [
              | inl v ↦ let f = fresh b (omega arith) v.1 in absurd (omega arith)
              | inr v ↦ let q = v.0 in (b, omega arith, omega arith)
            ]
        | inr u ↦
            -- the new one: a is the least that is free
            let old_le : k ≤ number_in old x = elim (at_b x lx) [
              | inl v ↦ let f = fresh x lx v.1 in omega arith
              | inr v ↦ let q = v.0 in omega arith
            ] in
            let is_free : IsFree n rows old k x =
            λ b lb kb rb. elim (free b lb (reach_to n edges rows b x c lb lx rb)) [
              | inl z ↦ elim (at_b b lb) [
                | inl v ↦ let q = v.0 in absurd (omega arith)
                | inr v ↦ let q = v.0 in absurd (omega arith)
              ]
              | inr z ↦ reach_from n edges rows x b c lx lb z.1
            ] in
            elim (cases_lt x a) [
              | inl v ↦ absurd (next.3 x v old_le is_free)
              | inr v ↦ elim (at_b a la) [
                | inl w ↦ let q = w.0 in (a, omega arith, omega arith)
                | inr w ↦ absurd (w.1 (([], refl), ([], refl)))
              ]
            ]
      ];
    }

-- before the first
pub none_given : (n : ℕ) (edges : List (ℕ × ℕ)) (numbers : List ℕ) → length numbers ≡ n
    → ((a : ℕ) → a < n → number_in numbers a ≡ n) → IsPartial n edges 0 numbers
none_given n edges numbers s h =
    record {
      size = s;
      each = λ a l. inr (h a l);
      within = omega arith;
      together = λ a b la lb l. absurd (omega arith);
      rising = λ a b la lb r. let x = h a la in let y = h b lb in omega arith;
      first = λ j a l. absurd (omega arith);
    }

-- all have numbers
pub all_given : (n : ℕ) (edges : List (ℕ × ℕ)) (k : ℕ) (numbers : List ℕ) → IsPartial n edges k numbers
    → ((a : ℕ) → a < n → number_in numbers a < k) → IsNumbering n edges numbers
all_given n edges k numbers p h =
    record {
      size = p.size;
      together = λ a b la lb. p.together a b la lb (h a la);
      rising = p.rising;
      first = λ j a la le free.
          let l = h a la in
          p.first j a (omega arith) la le (λ b lb r. elim (free b lb r) [
            | inl u ↦ inl u
            | inr u ↦ inr ((p.together b a lb la (h b lb)).0 u)
          ]);
    }

-- Some statement without a number is free: going back from one that is not, fewer lead to it.
abbrev blocks : List (List Bool) → List ℕ → ℕ → ℕ → ℕ → Bool
blocks rows numbers k a b =
    if nat_lt (number_in numbers b) k then false else
    (if reaches rows b a then (if reaches rows a b then false else true) else false)

blocks_to : (x y z : Bool) → (if x then false else (if y then (if z then false else true) else false)) ≡ true
    → (x ≡ false) × (y ≡ true) × (z ≡ false)
blocks_to true y z e = absurd (false≢true e)
blocks_to false true true e = absurd (false≢true e)
blocks_to false true false e = (refl, refl, refl)
blocks_to false false z e = absurd (false≢true e)

blocks_off : (x y z : Bool)
    → (if x then false else
    (if y then (if z then false else true) else false)) ≡ false → x ≡ false → y ≡ true → z ≡ true
blocks_off true y z e h k = absurd (false≢true (sym h))
blocks_off false true true e h k = refl
blocks_off false true false e h k = absurd (false≢true (sym e))
blocks_off false false z e h k = absurd (false≢true k)

pub some_free : (n : ℕ) (edges : List (ℕ × ℕ)) (rows : List (List Bool)) (numbers : List ℕ) (k : ℕ)
    → IsClosure n edges rows
    → (fuel a : ℕ) → count (λ c. reaches rows c a) n < fuel → a < n → k ≤ number_in numbers a
    → (b : ℕ) × (b < n) × (k ≤ number_in numbers b) × IsFree n rows numbers k b
some_free n edges rows numbers k c zero a lf la ka = absurd (omega arith)
some_free n edges rows numbers k c (suc fuel) a lf la ka = elim (found (blocks rows numbers k a) n) [
  | inl f ↦
      let b = f.0 in
      let lb = f.1 in
      let t = blocks_to (nat_lt (number_in numbers b) k) (reaches rows b a) (reaches rows a b) f.2 in
      let fall = count_falls (λ x. reaches rows x b) (λ x. reaches rows x a) n a
      (λ x lx r. reach_from n edges rows x a c lx la
      (reaches_on edges x b a (reach_to n edges rows x b c lx lb r)
      (reach_to n edges rows b a c lb la t.1)))
      la t.2 (reach_from n edges rows a a c la la ([], refl)) in
      some_free n edges rows numbers k c fuel b (omega arith) lb (ltb-false (number_in numbers b) k t.0)
  | inr f ↦ (
    a,
    la,
    ka,
    λ b lb kb r.
        blocks_off (nat_lt (number_in numbers b) k) (reaches rows b a) (reaches rows a b) (f b lb)
        (le-ltb (number_in numbers b) k kb) r,
  )
]

-- where none is next all have numbers
pub none_next : (n : ℕ) (edges : List (ℕ × ℕ)) (rows : List (List Bool)) (numbers : List ℕ) (k : ℕ)
    → IsClosure n edges rows → IsPartial n edges k numbers
    → IsNext n rows numbers k None → IsNumbering n edges numbers
none_next n edges rows numbers k c p none =
    all_given n edges k numbers p (λ a la. elim (cases_lt (number_in numbers a) k) [
      | inl u ↦ u
      | inr u ↦
          let s = some_free n edges rows numbers k c (suc (count (λ x. reaches rows x a) n)) a (omega arith) la u in
          absurd (none s.0 s.1 s.2 s.3)
    ])

-- how many have no number
abbrev pub unnumbered : ℕ → List ℕ → ℕ
unnumbered n numbers = count (λ a. nat_eq (number_in numbers a) n) n

pub fewer_unnumbered : (n : ℕ) (edges : List (ℕ × ℕ)) (rows : List (List Bool)) (a k : ℕ) (old new : List ℕ)
    → IsClosure n edges rows → k < n
    → IsPartial n edges k old → IsNext n rows old k
    (Some a) → IsGiven rows a k old new → unnumbered n new < unnumbered n old
fewer_unnumbered n edges rows a k old new c lk p next g =
    let la = next.0 in
    let ka = next.1 in
    let s = p.size in
    count_falls (λ x. nat_eq (number_in new x) n) (λ x. nat_eq (number_in old x) n) n a
    (λ b lb e.
    let q = eqb-true (number_in new b) n e in
    elim (given_at n edges rows a k old new b c la lb s g) [
      | inl u ↦ let w = u.0 in absurd (omega arith)
      | inr u ↦ eq-eqb (number_in old b) n (sym u.0 ∙ q)
    ])
    la
    (elim (given_at n edges rows a k old new a c la la s g) [
      | inl u ↦ let w = u.0 in nat_eq_below (number_in new a) n (omega arith)
      | inr u ↦ absurd (u.1 (([], refl), ([], refl)))
    ])
    (elim (p.each a la) [
      | inl u ↦ absurd (omega arith)
      | inr u ↦ eq-eqb (number_in old a) n u
    ])

pub none_unnumbered : (n : ℕ) (edges : List (ℕ × ℕ)) (k : ℕ) (numbers : List ℕ) → IsPartial n edges k numbers
    → unnumbered n numbers ≡ 0 → IsNumbering n edges numbers
none_unnumbered n edges k numbers p z = all_given n edges k numbers p (λ a la. elim (p.each a la) [
  | inl u ↦ u
  | inr u ↦ absurd
      (false≢true (sym (none_counted (λ x. nat_eq (number_in numbers x) n) n z a la)
      ∙ eq-eqb (number_in numbers a) n u))
])
