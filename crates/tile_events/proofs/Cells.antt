-- What the cells hold where some places are done.
use Rattle.scop_syntax.proofs.Common.{◌≡◌, ℕ, zero, suc, ◌+◌, ◌%◌, ◌^◌, ◌<◌, ◌≤◌, ◌≢◌, inl, inr, ⊎_elim, ◌&&◌, Bool}
use Rattle.scop_syntax.proofs.Common.{true, false, ap, ap₂, sym, refl, ◌∙◌, subst, arith, nat_eq, if◌then◌else◌}
use Rattle.scop_syntax.proofs.Common.{eqb-true, eq-eqb, lt-ltb, le-ltb, cases_lt, In, nat_cases}
use Rattle.std.proofs.Math.Nat.{mod-add-mod}
use Rattle.tile_events.specs.Plan.{Plan, updated, before, stored, words_of}
use Rattle.tile_events.specs.steps.Ready.{up_to, IsReady}

-- only what F says of the writers of the cell counts
step_same : (x y z : ℕ) (f g b : Bool) (add : Bool) → (b ≡ true → f ≡ g) → x ≡ y
    → (if f && b then updated add x z else x) ≡ (if g && b then updated add y z else y)
step_same x y z true true true add h ih = ap (λ (w : ℕ). updated add w z) ih
step_same x y z true false true add h ih = let e = h refl in absurd cc
step_same x y z false true true add h ih = let e = h refl in absurd cc
step_same x y z false false true add h ih = ih
step_same x y z true true false add h ih = ih
step_same x y z true false false add h ih = ih
step_same x y z false true false add h ih = ih
step_same x y z false false false add h ih = ih

pub words_same : (p : Plan) (F G : ℕ → Bool) (n c : ℕ) → ((i : ℕ) → i < n → p.written i ≡ c → F i ≡ G i)
    → words_of p F n c ≡ words_of p G n c
words_same p F G zero c h = refl
words_same p F G (suc n) c h =
    step_same (words_of p F n c) (words_of p G n c) (stored p n) (F n) (G n) (nat_eq (p.written n) c) (p.adds c)
    (λ e. h n (omega arith) (eqb-true (p.written n) c e))
    (words_same p F G n c (λ i l e. h i (omega arith) e))

-- where all places below n are done, the cells are those before place n
pub words_all : (p : Plan) (F : ℕ → Bool) (n c : ℕ) → ((i : ℕ) → i < n → F i ≡ true) → words_of p F n c ≡ before p n c
words_all p F zero c h = refl
words_all p F (suc n) c h =
    rw (h n (omega arith)) (ap (λ (x : ℕ). if nat_eq (p.written n) c then updated (p.adds c) x (stored p n) else x)
    (words_all p F n c (λ i l. h i (omega arith))))

-- where those below j are done, the cells are those before place j
pub words_before : (p : Plan) (n j c : ℕ) → j ≤ n → words_of p (up_to j) n c ≡ before p j c
words_before p zero zero c h = refl
words_before p zero (suc j) c h = absurd (omega arith)
words_before p (suc n) j c h =
    ⊎_elim (λ (l : j < suc n). rw (le-ltb n j (omega arith)) (words_before p n j c (omega arith)))
    (λ (g : suc n ≤ j). let e : suc n ≡ j = omega arith in
    subst (λ (k : ℕ). words_of p (up_to k) (suc n) c ≡ before p k c) e
    (words_all p (up_to (suc n)) (suc n) c (λ i l. lt-ltb i (suc n) l)))
    (cases_lt j (suc n))

-- a load at place j reads what execution read
pub load_reads : (p : Plan) (F : ℕ → Bool) (j c : ℕ) → j < p.places → IsReady p F j → In c (p.read j)
    → words_of p F p.places c ≡ before p j c
load_reads p F j c less r is =
    words_same p F (up_to j) p.places c
    (λ i l e. let q : In (p.written i) (p.read j) = subst (λ (d : ℕ). In d (p.read j)) (sym e) is in
    nat_cases i j (λ a. r.earlier i a (inr (inl q)) ∙ sym (lt-ltb i j a))
    (λ a. ap F a ∙ (r.itself ∙ sym (le-ltb i j (omega arith))))
    (λ a. r.later i a l (inr (inr q)) ∙ sym (le-ltb i j (omega arith))))
    ∙ words_before p p.places j c (omega arith)

-- where place j is done too, a cell in which it stores holds what it stores
stored_here : (p : Plan) (F G : ℕ → Bool) (j : ℕ) → j < p.places → IsReady p F j → p.adds (p.written j) ≡ false
    → ((i : ℕ) → i < p.places → i ≢ j → G i ≡ F i) → G j ≡ true
    → words_of p G p.places (p.written j) ≡ stored p j
stored_here p F G j less r stores same now =
    words_same p G (up_to (suc j)) p.places (p.written j)
    (λ i l e. nat_cases i j
    (λ a. same i l (λ x. omega arith) ∙ (r.earlier i a (inl (e, ap p.adds e ∙ stores))
    ∙ sym (lt-ltb i (suc j) (omega arith))))
    (λ a. ap G a ∙ (now ∙ sym (lt-ltb i (suc j) (omega arith))))
    (λ a. same i l (λ x. omega arith) ∙ (r.later i a l (inl (sym e, stores)) ∙ sym (le-ltb i (suc j) (omega arith)))))
    ∙ (words_before p p.places (suc j) (p.written j) (omega arith) ∙ before_here p j stores)
  where
    before_here : (p : Plan) (j : ℕ) → p.adds (p.written j) ≡ false → before p (suc j) (p.written j) ≡ stored p j
    before_here p j e = rw (eq-eqb (p.written j) (p.written j) refl)
        (ap (λ (b : Bool). updated b (before p j (p.written j)) (stored p j)) e)

-- sums modulo 2^64 may be taken in either order
pub sums_swap : (a x y : ℕ) → ((a + x) % 2 ^ 64 + y) % 2 ^ 64 ≡ ((a + y) % 2 ^ 64 + x) % 2 ^ 64
sums_swap a x y = add_mod a x y ∙ (ap (λ (n : ℕ). n % 2 ^ 64) (let e : a + x + y ≡ a + y + x = omega arith in e)
    ∙ sym (add_mod a y x))
  where
    add_mod : (a x y : ℕ) → ((a + x) % 2 ^ 64 + y) % 2 ^ 64 ≡ (a + x + y) % 2 ^ 64
    add_mod a x y = mod-add-mod (a + x) (2 ^ 64) y

-- where it adds, the cell holds so much more
added_here : (p : Plan) (F G : ℕ → Bool) (j n : ℕ) → j < n → F j ≡ false → p.adds (p.written j) ≡ true
    → ((i : ℕ) → i < n → i ≢ j → G i ≡ F i) → G j ≡ true
    → words_of p G n (p.written j) ≡ updated true (words_of p F n (p.written j)) (stored p j)
added_here p F G j zero less was adds same now = absurd (omega arith)
added_here p F G j (suc n) less was adds same now = nat_cases n j
    (λ a. absurd (omega arith))
    (λ a. here a)
    (λ a. later (same n (omega arith) (λ x. omega arith))
    (added_here p F G j n a was adds (λ i l ne. same i (omega arith) ne) now))
  where
    c : ℕ
    c = p.written j

    here : n ≡ j → words_of p G (suc n) c ≡ updated true (words_of p F (suc n) c) (stored p j)
    here a =
        rw (ap G a ∙ now, ap F a ∙ was, eq-eqb (p.written n) c (ap p.written a), adds)
        (ap₂ (λ (w v : ℕ). updated true w v)
        (words_same p G F n c (λ i l e. same i (omega arith) (λ x. omega arith))) (ap (stored p) a))

    later : G n ≡ F n → words_of p G n c ≡ updated true (words_of p F n c) (stored p j)
        → words_of p G (suc n) c ≡ updated true (words_of p F (suc n) c) (stored p j)
    later e ih = by_test (F n && nat_eq (p.written n) c) refl
      where
        by_test : (b : Bool) → (F n && nat_eq (p.written n) c) ≡ b
            → words_of p G (suc n) c ≡ updated true (words_of p F (suc n) c) (stored p j)
        by_test true t = rw (e, t, adds) (ap (λ (w : ℕ). updated true w (stored p n)) ih
            ∙ sums_swap (words_of p F n c) (stored p j) (stored p n))
        by_test false t = rw (e, t) ih

-- where place j is done too, its cell holds what its last act leaves there
pub updated_here : (p : Plan) (F G : ℕ → Bool) (j : ℕ) → j < p.places → IsReady p F j
    → ((i : ℕ) → i < p.places → i ≢ j → G i ≡ F i) → G j ≡ true
    → words_of p G p.places (p.written j)
    ≡ updated (p.adds (p.written j)) (words_of p F p.places (p.written j)) (stored p j)
updated_here p F G j less r same now = by_kind (p.adds (p.written j)) refl
  where
    by_kind : (b : Bool) → p.adds (p.written j) ≡ b → words_of p G p.places (p.written j)
        ≡ updated b (words_of p F p.places (p.written j)) (stored p j)
    by_kind true e = added_here p F G j p.places less r.itself e same now
    by_kind false e = stored_here p F G j less r e same now

-- and the other cells hold what they held
pub store_else : (p : Plan) (F G : ℕ → Bool) (j c : ℕ) → ((i : ℕ) → i < p.places → i ≢ j → G i ≡ F i)
    → c ≢ p.written j
    → words_of p G p.places c ≡ words_of p F p.places c
store_else p F G j c same ne = words_same p G F p.places c (λ i l e. same i l (λ x. ne (sym e ∙ ap p.written x)))
