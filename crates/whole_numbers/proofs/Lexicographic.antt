-- The lexicographic order: total, transitive, decided by a prefix; least lists.
use Rattle.std.proofs.Common.{◌≡◌, ℕ, ℤ, ◌≤ℤ◌, ◌<ℤ◌, ◌⊎◌, inl, inr, List, [], ◌∷◌, ◌++◌, length, ◌↔◌, refl, subst, ap₂}
use Rattle.std.proofs.Common.{sym, ◌∙◌, arith}
use Rattle.std.proofs.lemmas.Int.{ints, by_lt_z}
use Rattle.whole_numbers.specs.Lexicographic.{LexLess, LexLe, IsLeast}

-- no list comes before itself
pub LexLess-irrefl : (xs : List ℤ) → LexLess xs xs → ⊥
LexLess-irrefl [] h = h
LexLess-irrefl (x ∷ xs) (inl l) = omega (arith, ints)
LexLess-irrefl (x ∷ xs) (inr h) = LexLess-irrefl xs h.1

-- the order is transitive
pub LexLess-trans : (xs ys zs : List ℤ) → LexLess xs ys → LexLess ys zs → LexLess xs zs
LexLess-trans xs [] zs h k = absurd h
LexLess-trans [] (y ∷ ys) [] h k = k
LexLess-trans [] (y ∷ ys) (z ∷ zs) h k = tt
LexLess-trans (x ∷ xs) (y ∷ ys) [] h k = k
LexLess-trans (x ∷ xs) (y ∷ ys) (z ∷ zs) (inl l) (inl m) = inl (omega (arith, ints))
LexLess-trans (x ∷ xs) (y ∷ ys) (z ∷ zs) (inl l) (inr m) = let e = m.0 in inl (omega (arith, ints))
LexLess-trans (x ∷ xs) (y ∷ ys) (z ∷ zs) (inr l) (inl m) = let e = l.0 in inl (omega (arith, ints))
LexLess-trans (x ∷ xs) (y ∷ ys) (z ∷ zs) (inr l) (inr m) = inr (l.0 ∙ m.0, LexLess-trans xs ys zs l.1 m.1)

-- of two lists one comes before the other, or they are equal
pub lex_total : (xs ys : List ℤ) → LexLess xs ys ⊎ ((xs ≡ ys) ⊎ LexLess ys xs)
lex_total [] [] = inr (inl refl)
lex_total [] (y ∷ ys) = inl tt
lex_total (x ∷ xs) [] = inr (inr tt)
lex_total (x ∷ xs) (y ∷ ys) =
    by_lt_z x y
    (λ (l : x <ℤ y). inl (inl l))
    (λ (l : y ≤ℤ x).
    by_lt_z y x
    (λ (m : y <ℤ x). inr (inr (inl m)))
    (λ (m : x ≤ℤ y). let e : x ≡ y = omega (arith, ints) in with_heads x y xs ys e (lex_total xs ys)))
  where
    with_heads : (x y : ℤ) (xs ys : List ℤ) → x ≡ y → LexLess xs ys ⊎ ((xs ≡ ys) ⊎ LexLess ys xs)
        → LexLess (x ∷ xs) (y ∷ ys) ⊎ (((x ∷ xs) ≡ (y ∷ ys)) ⊎ LexLess (y ∷ ys) (x ∷ xs))
    with_heads x y xs ys e (inl l) = inl (inr (e, l))
    with_heads x y xs ys e (inr (inl s)) = inr (inl (ap₂ (λ (k : ℤ) (ks : List ℤ). k ∷ ks) e s))
    with_heads x y xs ys e (inr (inr l)) = inr (inr (inr (sym e, l)))

-- two lists do not come before each other
pub LexLess-asym : (xs ys : List ℤ) → LexLess xs ys → LexLess ys xs → ⊥
LexLess-asym xs ys h k = LexLess-irrefl xs (LexLess-trans xs ys xs h k)

-- a list that comes before another is at most it
pub LexLe-from_less : (xs ys : List ℤ) → LexLess xs ys → LexLe xs ys
LexLe-from_less xs [] h = absurd h
LexLe-from_less [] (y ∷ ys) h = tt
LexLe-from_less (x ∷ xs) (y ∷ ys) (inl l) = inl l
LexLe-from_less (x ∷ xs) (y ∷ ys) (inr h) = inr (h.0, LexLe-from_less xs ys h.1)

-- each list is at most itself
pub LexLe-refl : (xs : List ℤ) → LexLe xs xs
LexLe-refl [] = tt
LexLe-refl (x ∷ xs) = inr (refl, LexLe-refl xs)

-- at most is before or equal
pub LexLe-cases : (xs ys : List ℤ) → LexLe xs ys → LexLess xs ys ⊎ (xs ≡ ys)
LexLe-cases [] [] h = inr refl
LexLe-cases [] (y ∷ ys) h = inl tt
LexLe-cases (x ∷ xs) [] h = absurd h
LexLe-cases (x ∷ xs) (y ∷ ys) (inl l) = inl (inl l)
LexLe-cases (x ∷ xs) (y ∷ ys) (inr h) = with_head (LexLe-cases xs ys h.1)
  where
    with_head : LexLess xs ys ⊎ (xs ≡ ys) → LexLess (x ∷ xs) (y ∷ ys) ⊎ ((x ∷ xs) ≡ (y ∷ ys))
    with_head (inl l) = inl (inr (h.0, l))
    with_head (inr s) = inr (ap₂ (λ (k : ℤ) (ks : List ℤ). k ∷ ks) h.0 s)

-- lists that are at most each other are equal
pub LexLe-antisym : (xs ys : List ℤ) → LexLe xs ys → LexLe ys xs → xs ≡ ys
LexLe-antisym xs ys h k = decided (LexLe-cases xs ys h) (LexLe-cases ys xs k)
  where
    decided : LexLess xs ys ⊎ (xs ≡ ys) → LexLess ys xs ⊎ (ys ≡ xs) → xs ≡ ys
    decided (inr e) m = e
    decided (inl l) (inr e) = sym e
    decided (inl l) (inl m) = absurd (LexLess-asym xs ys l m)

-- before and then at most is before
pub LexLess-from_le : (xs ys zs : List ℤ) → LexLess xs ys → LexLe ys zs → LexLess xs zs
LexLess-from_le xs ys zs h k = further (LexLe-cases ys zs k)
  where
    further : LexLess ys zs ⊎ (ys ≡ zs) → LexLess xs zs
    further (inl l) = LexLess-trans xs ys zs h l
    further (inr e) = subst (LexLess xs) e h

-- fronts of one length that are in order decide, whatever follows
pub LexLess-front : (xs ys us vs : List ℤ) → length xs ≡ length ys → LexLess xs ys → LexLess (xs ++ us) (ys ++ vs)
LexLess-front xs [] us vs e h = absurd h
LexLess-front [] (y ∷ ys) us vs e h = absurd (omega arith)
LexLess-front (x ∷ xs) (y ∷ ys) us vs e (inl l) = inl l
LexLess-front (x ∷ xs) (y ∷ ys) us vs e (inr h) = inr (h.0, LexLess-front xs ys us vs (omega arith) h.1)

-- behind one front the rests decide
pub LexLess-rest : (front us vs : List ℤ) → LexLess us vs → LexLess (front ++ us) (front ++ vs)
LexLess-rest [] us vs h = h
LexLess-rest (x ∷ front) us vs h = inr (refl, LexLess-rest front us vs h)

-- lists with fronts of one length are in order where the fronts are, or they are equal and the rests are in order
pub LexLess-append : (xs ys us vs : List ℤ) → length xs ≡ length ys
    → LexLess (xs ++ us) (ys ++ vs) → LexLess xs ys ⊎ ((xs ≡ ys) × LexLess us vs)
LexLess-append [] [] us vs e h = inr (refl, h)
LexLess-append [] (y ∷ ys) us vs e h = absurd (omega arith)
LexLess-append (x ∷ xs) [] us vs e h = absurd (omega arith)
LexLess-append (x ∷ xs) (y ∷ ys) us vs e (inl l) = inl (inl l)
LexLess-append (x ∷ xs) (y ∷ ys) us vs e (inr h) = with_head (LexLess-append xs ys us vs (omega arith) h.1)
  where
    with_head : LexLess xs ys ⊎ ((xs ≡ ys) × LexLess us vs)
        → LexLess (x ∷ xs) (y ∷ ys) ⊎ (((x ∷ xs) ≡ (y ∷ ys)) × LexLess us vs)
    with_head (inl l) = inl (inr (h.0, l))
    with_head (inr s) = inr (ap₂ (λ (k : ℤ) (ks : List ℤ). k ∷ ks) h.0 s.0, s.1)

-- both directions
pub LexLess-append_iff : (xs ys us vs : List ℤ) → length xs ≡ length ys
    → LexLess (xs ++ us) (ys ++ vs) ↔ (LexLess xs ys ⊎ ((xs ≡ ys) × LexLess us vs))
LexLess-append_iff xs ys us vs e = (LexLess-append xs ys us vs e, joined)
  where
    joined : LexLess xs ys ⊎ ((xs ≡ ys) × LexLess us vs) → LexLess (xs ++ us) (ys ++ vs)
    joined (inl l) = LexLess-front xs ys us vs e l
    joined (inr s) = subst (λ (zs : List ℤ). LexLess (xs ++ us) (zs ++ vs)) s.0 (LexLess-rest xs us vs s.1)

-- at most is before or equal, in both directions
pub LexLe-iff : (xs ys : List ℤ) → LexLe xs ys ↔ (LexLess xs ys ⊎ (xs ≡ ys))
LexLe-iff xs ys = (LexLe-cases xs ys, joined)
  where
    joined : LexLess xs ys ⊎ (xs ≡ ys) → LexLe xs ys
    joined (inl l) = LexLe-from_less xs ys l
    joined (inr e) = subst (LexLe xs) e (LexLe-refl xs)

-- a property has at most one least list
pub IsLeast-unique : (P : List ℤ → Type 0) (n : ℕ) (x y : List ℤ) → IsLeast P n x → IsLeast P n y → x ≡ y
IsLeast-unique P n x y hx hy = decided (lex_total x y)
  where
    decided : LexLess x y ⊎ ((x ≡ y) ⊎ LexLess y x) → x ≡ y
    decided (inl l) = absurd (hy.least x hx.size hx.inside l)
    decided (inr (inl e)) = e
    decided (inr (inr l)) = absurd (hx.least y hy.size hy.inside l)

pub ruleset order_laws = (LexLess-irrefl, LexLess-trans, lex_total, LexLe-iff, LexLe-antisym)

pub ruleset prefix_laws = (LexLess-append_iff)
