-- A path on which a test fails by itself, or is passed on both sides, no point goes.
use Rattle.whole_numbers.proofs.Common.{◌≡◌, suc, Bool, true, false, ℤ, pos, negsuc, List, [], ◌∷◌, ◌++◌, ap, ◌∙◌, refl}
use Rattle.whole_numbers.proofs.Common.{arith, ◌⊎◌, inl, inr, ◌≤ℤ◌, ◌<ℤ◌, ◌+ℤ◌, ◌*ℤ◌, ◌&&◌, ◌||◌, not, All, Contains}
use Rattle.whole_numbers.proofs.Common.{filter, list_all, int_eq, Decides-int_eq, ints, All-cons, All-contains}
use Rattle.whole_numbers.proofs.Common.{All-filter, All-nil, Affine, value_of, dot}
use Rattle.std.specs.Cmp.Lexicographic.{pointwise}
use Rattle.std.specs.Cmp.Rules.{signed_items}
use Rattle.std.proofs.lemmas.List.Elements.{All-contains_itself}
use Rattle.quast_trees.specs.Tree.{Tree}
use Rattle.quast_trees.specs.Paths.{Turn, up, down, bound, LeafPath, leaf_paths, live_paths, Goes}
use Rattle.quast_trees.specs.Paths.{is_same, is_number, is_below, fails, are_opposite, is_crossed, is_blocked, has_no_point}

both_true : (a b : Bool) → (a && b) ≡ true → (a ≡ true) × (b ≡ true)
both_true true b h = (refl, h)
both_true false b h = absurd cc

one_true : (a b : Bool) → (a || b) ≡ true → (a ≡ true) ⊎ (b ≡ true)
one_true true b h = inl refl
one_true false b h = inr h

-- forms with the same numbers have the same values
same_value : (f g : Affine) (point : List ℤ) → is_same f g ≡ true → value_of f point ≡ value_of g point
same_value f g point h =
    let b = both_true (int_eq f.constant g.constant) (pointwise int_eq f.coefficients g.coefficients) h in
    let c = (Decides-int_eq f.constant g.constant).0 b.0 in
    let e = (signed_items f.coefficients g.coefficients).0 b.1 in
    ap (λ (cs : List ℤ). dot cs point +ℤ f.constant) e ∙ ap (λ (z : ℤ). dot g.coefficients point +ℤ z) c

-- a form that speaks of no variable has its constant for value
number_dot : (cs point : List ℤ) → list_all (λ c. int_eq c (pos 0)) cs ≡ true → dot cs point ≡ pos 0
number_dot [] point h = refl
number_dot (c ∷ cs) [] h = refl
number_dot (c ∷ cs) (x ∷ point) h =
    let b = both_true (int_eq c (pos 0)) (list_all (λ c. int_eq c (pos 0)) cs) h in
    let z = (Decides-int_eq c (pos 0)).0 b.0 in
    let rest = number_dot cs point b.1 in
    ap (λ (y : ℤ). (y *ℤ x) +ℤ dot cs point) z ∙ omega (arith, ints)

number_value : (f : Affine) (point : List ℤ) → is_number f ≡ true → value_of f point ≡ f.constant
number_value f point h = let e = number_dot f.coefficients point h in omega (arith, ints)

below : (z : ℤ) → is_below z ≡ true → z <ℤ pos 0
below (pos n) h = absurd cc
below (negsuc n) h = omega (arith, ints)

not_below : (z : ℤ) → not (is_below z) ≡ true → pos 0 ≤ℤ z
not_below (pos n) h = omega (arith, ints)
not_below (negsuc n) h = absurd cc

-- a test that fails is not passed
fails_not : (t : Turn) (ts : List Turn) (point qs : List ℤ) → fails t ≡ true → Goes (t ∷ ts) point qs → ⊥
fails_not (up f) ts point qs h goes =
    let b = both_true (is_number f) (is_below f.constant) h in
    let e = number_value f point b.0 in
    let l = below f.constant b.1 in
    let g = goes.0 in
    omega (arith, ints)
fails_not (down f) ts point qs h goes =
    let b = both_true (is_number f) (not (is_below f.constant)) h in
    let e = number_value f point b.0 in
    let l = not_below f.constant b.1 in
    let g = goes.0 in
    omega (arith, ints)
fails_not (bound f d) ts point qs h goes = absurd cc

-- what a test says of a point
abbrev Passes : Turn → List ℤ → Type 0
Passes (up f) point = pos 0 ≤ℤ value_of f point
Passes (down f) point = value_of f point <ℤ pos 0
Passes (bound f d) point = ⊥

opposite_not : (t u : Turn) (point : List ℤ) → are_opposite t u ≡ true → Passes t point → Passes u point → ⊥
opposite_not (up f) (up g) point h p q = absurd cc
opposite_not (up f) (down g) point h p q = let e = same_value f g point h in omega (arith, ints)
opposite_not (up f) (bound g d) point h p q = absurd cc
opposite_not (down f) (up g) point h p q = let e = same_value f g point h in omega (arith, ints)
opposite_not (down f) (down g) point h p q = absurd cc
opposite_not (down f) (bound g d) point h p q = absurd cc
opposite_not (bound f d) u point h p q = p

crossed_by : (t u : Turn) (ts : List Turn) (point : List ℤ)
    → (are_opposite t u ≡ true) ⊎ (is_crossed t ts ≡ true) → Passes t point → Passes u point
    → (is_crossed t ts ≡ true → ⊥) → ⊥
crossed_by t u ts point (inl o) p q more = opposite_not t u point o p q
crossed_by t u ts point (inr c) p q more = more c

crossed_not : (t : Turn) (ts : List Turn) (point qs : List ℤ) → is_crossed t ts ≡ true → Passes t point
    → Goes ts point qs → ⊥
crossed_not t [] point qs h p goes = absurd cc
crossed_not t (up f ∷ ts) point qs h p goes =
    crossed_by t (up f) ts point (one_true (are_opposite t (up f)) (is_crossed t ts) h) p goes.0
    (λ c. crossed_not t ts point qs c p goes.1)
crossed_not t (down f ∷ ts) point qs h p goes =
    crossed_by t (down f) ts point (one_true (are_opposite t (down f)) (is_crossed t ts) h) p goes.0
    (λ c. crossed_not t ts point qs c p goes.1)
crossed_not t (bound f d ∷ ts) point qs h p goes = absurd cc

-- a bind is nobody's other side
bound_not_crossed : (f : Affine) (d : ℤ) (ts : List Turn) → is_crossed (bound f d) ts ≡ true → ⊥
bound_not_crossed f d [] h = absurd cc
bound_not_crossed f d (up g ∷ ts) h = bound_not_crossed f d ts h
bound_not_crossed f d (down g ∷ ts) h = bound_not_crossed f d ts h
bound_not_crossed f d (bound g e ∷ ts) h = absurd cc

-- the three ways in which a turn and what is behind it are blocked
blocked_by : (t : Turn) (ts : List Turn) → is_blocked (t ∷ ts) ≡ true
    → (fails t ≡ true) ⊎ ((is_crossed t ts ≡ true) ⊎ (is_blocked ts ≡ true))
blocked_by t ts h = next (one_true (fails t) (is_crossed t ts || is_blocked ts) h)
  where
    next : (fails t ≡ true) ⊎ ((is_crossed t ts || is_blocked ts) ≡ true)
        → (fails t ≡ true) ⊎ ((is_crossed t ts ≡ true) ⊎ (is_blocked ts ≡ true))
    next (inl a) = inl a
    next (inr b) = inr (one_true (is_crossed t ts) (is_blocked ts) b)

test_not : (t : Turn) (ts : List Turn) (point qs : List ℤ)
    → (fails t ≡ true) ⊎ ((is_crossed t ts ≡ true) ⊎ (is_blocked ts ≡ true)) → Goes (t ∷ ts) point qs
    → Passes t point → (is_blocked ts ≡ true → ⊥) → Goes ts point qs → ⊥
test_not t ts point qs (inl a) goes passes rest more = fails_not t ts point qs a goes
test_not t ts point qs (inr (inl c)) goes passes rest more = crossed_not t ts point qs c passes more
test_not t ts point qs (inr (inr b)) goes passes rest more = rest b

-- a path of turns that are blocked no point goes
pub blocked_not : (ts : List Turn) (point qs : List ℤ) → is_blocked ts ≡ true → Goes ts point qs → ⊥
blocked_not [] point qs h goes = absurd cc
blocked_not (up f ∷ ts) point qs h goes =
    test_not (up f) ts point qs (blocked_by (up f) ts h) goes goes.0 (λ b. blocked_not ts point qs b goes.1) goes.1
blocked_not (down f ∷ ts) point qs h goes =
    test_not (down f) ts point qs (blocked_by (down f) ts h) goes goes.0 (λ b. blocked_not ts point qs b goes.1) goes.1
blocked_not (bound f d ∷ ts) point [] h goes = goes
blocked_not (bound f d ∷ ts) point (q ∷ qs) h goes =
    bind_not (blocked_by (bound f d) ts h) (λ b. blocked_not ts (point ++ q ∷ []) qs b goes.1)
  where
    bind_not : (fails (bound f d) ≡ true) ⊎ ((is_crossed (bound f d) ts ≡ true) ⊎ (is_blocked ts ≡ true))
        → (is_blocked ts ≡ true → ⊥) → ⊥
    bind_not (inl a) rest = absurd cc
    bind_not (inr (inl c)) rest = bound_not_crossed f d ts c
    bind_not (inr (inr b)) rest = rest b

-- what passes a test stays where it is filtered by it
kept_cases : {A : Type 0} (test : A → Bool) (x : A) (xs : List A) (b : Bool) → test x ≡ b
    → All (λ y. test y ≡ true → Contains (filter test xs) y) xs
    → All (λ y. test y ≡ true → Contains (filter test (x ∷ xs)) y) (x ∷ xs)
kept_cases {A} test x xs true e h =
    All-cons (λ y. test y ≡ true → Contains (filter test (x ∷ xs)) y) x xs
    (λ is. rw e (0, omega arith, refl)) (λ k d lt is. rw e (later (h k d lt is)))
  where
    later : {y : A} → Contains (filter test xs) y → Contains (x ∷ filter test xs) y
    later c = let lt = c.1 in (suc c.0, omega arith, c.2)
kept_cases test x xs false e h =
    All-cons (λ y. test y ≡ true → Contains (filter test (x ∷ xs)) y) x xs
    (λ is. absurd cc) (λ k d lt is. rw e (h k d lt is))

kept_all : {A : Type 0} (test : A → Bool) (xs : List A) → All (λ y. test y ≡ true → Contains (filter test xs) y) xs
kept_all test [] = All-nil (λ y. test y ≡ true → Contains [] y)
kept_all test (x ∷ xs) = kept_cases test x xs (test x) refl (kept_all test xs)

not_true : (b : Bool) → (b ≡ true → ⊥) → not b ≡ true
not_true true h = absurd (h refl)
not_true false h = refl

pub live : (t : Tree) (point qs : List ℤ) (p : LeafPath) → Contains (leaf_paths t) p → Goes p.turns point qs
    → Contains (live_paths t) p
live t point qs p among goes =
    let test : LeafPath → Bool = λ p. not (has_no_point p) in
    All-contains (λ y. test y ≡ true → Contains (filter test (leaf_paths t)) y) (leaf_paths t) p
    (kept_all test (leaf_paths t)) among (not_true (has_no_point p) (λ b. blocked_not p.turns point qs b goes))

pub live_among : (t : Tree) (p : LeafPath) → Contains (live_paths t) p → Contains (leaf_paths t) p
live_among t p among =
    All-contains (Contains (leaf_paths t)) (live_paths t) p
    (All-filter (λ (p : LeafPath). not (has_no_point p)) (Contains (leaf_paths t)) (leaf_paths t)
    (All-contains_itself (leaf_paths t))) among
