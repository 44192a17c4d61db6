-- A pass over the places meets at each place those that it covers, or the last writers of what it reads.
use Rattle.scop_syntax.proofs.Common.{◌≡◌, ℕ, zero, suc, ◌<◌, ◌≢◌, ◌⊎◌, inl, inr, ⊎_elim, Bool, true, false, List, []}
use Rattle.scop_syntax.proofs.Common.{◌∷◌, ◌++◌, Some, None, ap, sym, refl, ◌∙◌, subst, arith, Option, nat_eq}
use Rattle.scop_syntax.proofs.Common.{if◌then◌else◌, eqb-true, eqb-false, eq-eqb, ne_eqb, In, nat_cases, in_append}
use Rattle.scop_syntax.proofs.Common.{in_front, in_back}
use Rattle.tile_events.specs.Plan.{Plan}
use Rattle.tile_events.specs.Covers.{AreFree, Covers}
use Rattle.tile_edges.specs.steps.Passing.{is_in, last_at, readers_at, listed, lasts_at, sources_at}

pub in_is : (c : ℕ) (xs : List ℕ) → is_in c xs ≡ true → In c xs
in_is c [] h = absurd cc
in_is c (x ∷ xs) h = by_test (nat_eq c x) refl (λ h. in_is c xs h) h
  where
    by_test : (b : Bool) → nat_eq c x ≡ b → (is_in c xs ≡ true → In c xs)
        → (if b then true else is_in c xs) ≡ true → In c (x ∷ xs)
    by_test true e ih h = inl (eqb-true c x e)
    by_test false e ih h = inr (ih h)

pub is_in_of : (c : ℕ) (xs : List ℕ) → In c xs → is_in c xs ≡ true
is_in_of c [] h = absurd h
is_in_of c (x ∷ xs) (inl e) = rw (eq-eqb c x e) refl
is_in_of c (x ∷ xs) (inr h) = by_test (nat_eq c x) (is_in_of c xs h)
  where
    by_test : (b : Bool) → is_in c xs ≡ true → (if b then true else is_in c xs) ≡ true
    by_test true h = refl
    by_test false h = h

-- the last writer is below n, writes the cell, and nobody behind it does
record IsLastOf (p : Plan) (n c i : ℕ) : Type 0 where
  less : i < n
  wrote : p.written i ≡ c
  free : AreFree p i n c

last_is : (p : Plan) (n c i : ℕ) → last_at p n c ≡ Some i → IsLastOf p n c i
last_is p zero c i h = absurd cc
last_is p (suc n) c i h = by_test (nat_eq (p.written n) c) refl (λ h. last_is p n c i h) h
  where
    by_test : (b : Bool) → nat_eq (p.written n) c ≡ b → (last_at p n c ≡ Some i → IsLastOf p n c i)
        → (if b then Some n else last_at p n c) ≡ Some i → IsLastOf p (suc n) c i
    by_test true e ih h =
        let same : n ≡ i = cc in record {
          less = omega (arith, same);
          wrote = ap p.written (sym same) ∙ eqb-true (p.written n) c e;
          free = λ k l m. absurd (omega (arith, same, l, m));
        }
    by_test false e ih h =
        let r = ih h in
        let less = r.less in record {
          less = omega (arith, less);
          wrote = r.wrote;
          free = λ k l m. nat_cases k n (λ a. r.free k l a)
              (λ a. subst (λ (x : ℕ). p.written x ≢ c) (sym a) (eqb-false (p.written n) c e))
              (λ a. absurd (omega (arith, a, m)));
        }

last_of : (p : Plan) (n c i : ℕ) → i < n → p.written i ≡ c → AreFree p i n c → last_at p n c ≡ Some i
last_of p zero c i l w free = absurd (omega (arith, l))
last_of p (suc n) c i l w free = nat_cases i n
    (λ a. rw (ne_eqb (p.written n) c (free n a (omega arith)))
    (last_of p n c i a w (λ k x y. free k x (omega (arith, y)))))
    (λ a. rw (eq-eqb (p.written n) c (ap p.written (sym a) ∙ w)) (ap Some (sym a)))
    (λ a. absurd (omega (arith, a, l)))

-- a reader is below n, reads the cell, and nobody from it on writes it
record IsReader (p : Plan) (n c i : ℕ) : Type 0 where
  less : i < n
  read : In c (p.read i)
  free : AreFree p i n c

reader_is : (p : Plan) (n c i : ℕ) → In i (readers_at p n c) → IsReader p n c i
reader_is p zero c i h = absurd h
reader_is p (suc n) c i h =
    by_test (nat_eq (p.written n) c) (is_in c (p.read n)) refl refl (λ h. reader_is p n c i h) h
  where
    more : nat_eq (p.written n) c ≡ false → IsReader p n c i → IsReader p (suc n) c i
    more e r = let less = r.less in record {
      less = omega (arith, less);
      read = r.read;
      free = λ k l m. nat_cases k n (λ a. r.free k l a)
          (λ a. subst (λ (x : ℕ). p.written x ≢ c) (sym a) (eqb-false (p.written n) c e))
          (λ a. absurd (omega (arith, a, m)));
    }

    by_test : (b d : Bool) → nat_eq (p.written n) c ≡ b → is_in c (p.read n) ≡ d
        → (In i (readers_at p n c) → IsReader p n c i)
        → In i (if b then [] else (if d then n ∷ readers_at p n c else readers_at p n c)) → IsReader p (suc n) c i
    by_test true d e f ih h = absurd h
    by_test false true e f ih (inl same) = record {
      less = omega (arith, same);
      read = subst (λ (x : ℕ). In c (p.read x)) (sym same) (in_is c (p.read n) f);
      free = λ k l m. absurd (omega (arith, same, l, m));
    }
    by_test false true e f ih (inr h) = more e (ih h)
    by_test false false e f ih h = more e (ih h)

reader_of : (p : Plan) (n c i : ℕ) → i < n → In c (p.read i) → p.written i ≢ c → AreFree p i n c
    → In i (readers_at p n c)
reader_of p zero c i l r w free = absurd (omega (arith, l))
reader_of p (suc n) c i l r w free = nat_cases i n
    (λ a. rw (ne_eqb (p.written n) c (free n a (omega arith)))
    (further (is_in c (p.read n)) (reader_of p n c i a r w (λ k x y. free k x (omega (arith, y))))))
    (λ a. rw (
      ne_eqb (p.written n) c (subst (λ (x : ℕ). p.written x ≢ c) a w),
      is_in_of c (p.read n) (subst (λ (x : ℕ). In c (p.read x)) a r),
    ) (inl a))
    (λ a. absurd (omega (arith, a, l)))
  where
    further : (d : Bool) → In i (readers_at p n c)
        → In i (if d then n ∷ readers_at p n c else readers_at p n c)
    further true h = inr h
    further false h = h

-- the last writers of cells
listed_is : (i : ℕ) (o : Option ℕ) → In i (listed o) → o ≡ Some i
listed_is i None h = absurd h
listed_is i (Some k) (inl e) = ap Some (sym e)
listed_is i (Some k) (inr h) = absurd h

is_listed : (i : ℕ) (o : Option ℕ) → o ≡ Some i → In i (listed o)
is_listed i o e = subst (λ p. In i (listed p)) (sym e) (inl refl)

pub lasts_are : (p : Plan) (n i : ℕ) (cs : List ℕ) → In i (lasts_at p n cs)
    → (c : ℕ) × In c cs × (last_at p n c ≡ Some i)
lasts_are p n i [] h = absurd h
lasts_are p n i (c ∷ cs) h = ⊎_elim (λ a. (c, inl refl, listed_is i (last_at p n c) a))
    (λ a. let r = lasts_are p n i cs a in (r.0, inr r.1, r.2))
    (in_append i (listed (last_at p n c)) (lasts_at p n cs) h)

pub lasts_of : (p : Plan) (n i c : ℕ) (cs : List ℕ) → In c cs → last_at p n c ≡ Some i → In i (lasts_at p n cs)
lasts_of p n i c [] h e = absurd h
lasts_of p n i c (d ∷ cs) (inl same) e =
    in_front i (listed (last_at p n d)) (lasts_at p n cs)
    (is_listed i (last_at p n d) (ap (last_at p n) (sym same) ∙ e))
lasts_of p n i c (d ∷ cs) (inr h) e = in_back i (listed (last_at p n d)) (lasts_at p n cs) (lasts_of p n i c cs h e)

-- unless flow alone counts, the places that are met are those of covers
module _ (p : Plan) (n : ℕ) where
  abbrev lasts : List ℕ
  lasts = lasts_at p n (p.read n)

  abbrev last : Option ℕ
  last = last_at p n (p.written n)

  abbrev readers : List ℕ
  readers = readers_at p n (p.written n)

  pub found_covers : (i : ℕ) → n < p.places → In i (sources_at false p n) → Covers p i n
  found_covers i less h = ⊎_elim
      (λ a. let r = lasts_are p n i (p.read n) a in
      let l = last_is p n r.0 i r.2 in
      record { before = l.less; within = less; cell = r.0; free = l.free; meet = inl (l.wrote, inr r.1) })
      (λ b. ⊎_elim
      (λ a. let l = last_is p n (p.written n) i (listed_is i last a) in
      record {
        before = l.less;
        within = less;
        cell = p.written n;
        free = l.free;
        meet = inl (l.wrote, inl refl);
      })
      (λ a. let r = reader_is p n (p.written n) i a in
      record { before = r.less; within = less; cell = p.written n; free = r.free; meet = inr (refl, r.read) })
      (in_append i (listed last) readers b))
      (in_append i lasts (listed last ++ readers) h)

  pub covers_found : (i : ℕ) → Covers p i n → In i (sources_at false p n)
  covers_found i c = by_kind c.meet
    where
      written_last : p.written i ≡ c.cell → p.written n ≡ c.cell → In i (sources_at false p n)
      written_last w v =
          in_back i lasts (listed last ++ readers) (in_front i (listed last) readers
          (is_listed i last (ap (last_at p n) v ∙ last_of p n c.cell i c.before w c.free)))

      by_kind : ((p.written i ≡ c.cell) × ((p.written n ≡ c.cell) ⊎ In c.cell (p.read n)))
          ⊎ ((p.written n ≡ c.cell) × In c.cell (p.read i)) → In i (sources_at false p n)
      by_kind (inl (w, inl v)) = written_last w v
      by_kind (inl (w, inr h)) =
          in_front i lasts (listed last ++ readers)
          (lasts_of p n i c.cell (p.read n) h (last_of p n c.cell i c.before w c.free))
      by_kind (inr (w, h)) = by_test (nat_eq (p.written i) c.cell) refl
        where
          by_test : (b : Bool) → nat_eq (p.written i) c.cell ≡ b → In i (sources_at false p n)
          by_test true e = written_last (eqb-true (p.written i) c.cell e) w
          by_test false e = in_back i lasts (listed last ++ readers) (in_back i (listed last) readers
              (subst (λ (d : ℕ). In i (readers_at p n d)) (sym w)
              (reader_of p n c.cell i c.before h (eqb-false (p.written i) c.cell e) c.free)))
