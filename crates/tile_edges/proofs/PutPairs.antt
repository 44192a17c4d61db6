-- Pairs that are put into rows of tiles.
use Rattle.scop_syntax.proofs.Common.{◌≡◌, ◌≢◌, ◌<◌, ◌+◌, ◌-◌, ℕ, zero, suc, ◌⊎◌, inl, inr, ⊎_elim, Bool, true, false}
use Rattle.scop_syntax.proofs.Common.{List, [], ◌∷◌, ◌++◌, ap, sym, refl, ◌∙◌, subst, arith, length, map, get_or, take}
use Rattle.scop_syntax.proofs.Common.{slice_set, nat_lt, ◌==◌, eqb-true, eqb-false, ltb-true, ltb-false}
use Rattle.scop_syntax.proofs.Common.{get_or-set_same, get_or-set_other, get_or_default, length-set, length-map}
use Rattle.scop_syntax.proofs.Common.{map-append, In, Sorted, in_append, in_front, in_back, nat_cases}
use Rattle.std.specs.BTreeSet.{insert_key}
use Rattle.std.specs.Ordering.{nat_cmp}
use Rattle.std.proofs.lemmas.List.{length-append}
use Rattle.std.proofs.lemmas.List.{append_assoc}
use Rattle.tile_edges.specs.steps.Gains.{Gains}
use Rattle.tile_edges.specs.steps.Rows.{AreKept, joined, rows_in}
use Rattle.tile_edges.specs.steps.Traces.{marked}
use Rattle.tile_edges.specs.declared.pairing.Pairs.{Pairs}
use Rattle.tile_edges.proofs.Taken.{taken_more, seen_at, seen_set}

-- what is put into a list that rises
record IsPut (u : ℕ) (old new : List ℕ) : Type 0 where
  pub found : (v : ℕ) → In v new → In v old ⊎ (v ≡ u)
  pub kept : (v : ℕ) → In v old → In v new
  pub there : In u new
  pub rises : Sorted (λ a b. a < b) old → Sorted (λ a b. a < b) new

put_is : (u : ℕ) (xs : List ℕ) → IsPut u xs (insert_key nat_cmp xs u)
put_is u [] = record {
  found = λ v i. ⊎_elim (λ e. inr e) (λ i. absurd i) i;
  kept = λ v i. absurd i;
  there = inl refl;
  rises = λ s. (λ y i. absurd i, tt);
}
put_is u (x ∷ xs) = by_less (nat_lt u x) (u == x) refl refl (put_is u xs)
  where
    by_less : (b d : Bool) → nat_lt u x ≡ b → (u == x) ≡ d → IsPut u xs (insert_key nat_cmp xs u)
        → IsPut u (x ∷ xs) (insert_key nat_cmp (x ∷ xs) u)
    by_less true d e f ih = rw e (record {
      found = λ v i. ⊎_elim (λ same. inr same) (λ j. inl j) i;
      kept = λ v i. inr i;
      there = inl refl;
      rises = λ s. (
        λ y i. ⊎_elim
            (λ (same : y ≡ x). let l = ltb-true u x e in omega (arith, same, l))
            (λ j. let l = ltb-true u x e in let m = s.0 y j in omega (arith, l, m)) i,
        s,
      );
    })
    by_less false true e f ih = rw (e, f) (record {
      found = λ v i. inl i;
      kept = λ v i. i;
      there = inl (eqb-true u x f);
      rises = λ s. s;
    })
    by_less false false e f ih = rw (e, f) (record {
      found = λ v i. ⊎_elim (λ same. inl (inl same)) (λ j. ⊎_elim (λ k. inl (inr k)) (λ same. inr same) (ih.found v j)) i;
      kept = λ v i. ⊎_elim (λ same. inl same) (λ j. inr (ih.kept v j)) i;
      there = inr ih.there;
      rises = λ s. (
        λ y i. ⊎_elim (λ j. s.0 y j)
            (λ (same : y ≡ u). let l = ltb-false u x e in let n = eqb-false u x f in
            nat_cases u x (λ a. absurd (omega (arith, a, l))) (λ a. absurd (n a)) (λ a. omega (arith, a, same)))
            (ih.found y i),
        ih.rises s.1,
      );
    })

-- a row that gains a number
pub put_gains : (t u : ℕ) (rows : List (List ℕ)) → t < length rows → t ≢ u
    → Gains (t ∷ []) u rows (slice_set rows t (insert_key nat_cmp (get_or rows t []) u))
put_gains t u rows less apart = record {
  long = length-set rows t new;
  rises = λ s r. at r (λ row. Sorted (λ a b. a < b) row) (λ e. p.rises (s t)) (λ ne. s r);
  found = λ r v. at r (λ row. In v row → In v (get_or rows r []) ⊎ (In r (t ∷ []) × (v ≡ u) × (r ≢ u)))
      (λ e i. ⊎_elim (λ j. inl (subst (λ k. In v (get_or rows k [])) (sym e) j))
      (λ same. inr (inl e, same, λ k. apart (sym e ∙ k))) (p.found v i))
      (λ ne i. inl i);
  kept = λ r v. at r (λ row. In v (get_or rows r []) → In v row)
      (λ e i. p.kept v (subst (λ k. In v (get_or rows k [])) e i)) (λ ne i. i);
  gained = λ r i ne. at r (λ row. In u row) (λ e. p.there) (λ other. absurd (⊎_elim other (λ j. absurd j) i));
}
  where
    new : List ℕ
    new = insert_key nat_cmp (get_or rows t []) u

    p : IsPut u (get_or rows t []) new
    p = put_is u (get_or rows t [])

    at : (r : ℕ) (P : List ℕ → Type 0) → (r ≡ t → P new) → (r ≢ t → P (get_or rows r []))
        → P (get_or (slice_set rows t new) r [])
    at r P here there = nat_cases r t
        (λ l. other (λ e. omega (arith, l, e)))
        (λ e. subst P (sym (ap (λ k. get_or (slice_set rows t new) k []) e ∙ get_or-set_same rows t new [] less)) (here e))
        (λ l. other (λ e. omega (arith, l, e)))
      where
        other : r ≢ t → P (get_or (slice_set rows t new) r [])
        other ne = subst P (sym (get_or-set_other rows t r new [] ne)) (there ne)

-- nor does one that has the number
pub told_gains : (t u : ℕ) (rows : List (List ℕ)) → In u (get_or rows t []) → Gains (t ∷ []) u rows rows
told_gains t u rows has = record {
  long = refl;
  rises = λ s. s;
  found = λ r v i. inl i;
  kept = λ r v i. i;
  gained = λ r i ne. ⊎_elim (λ (e : r ≡ t). subst (λ k. In u (get_or rows k [])) (sym e) has) (λ j. absurd j) i;
}

-- no tile gains nothing
pub none_gains : (u : ℕ) (rows : List (List ℕ)) → Gains [] u rows rows
none_gains u rows = record {
  long = refl;
  rises = λ s. s;
  found = λ r v i. inl i;
  kept = λ r v i. i;
  gained = λ r i. absurd i;
}

-- gains one after another
pub gains_join : (ts ss : List ℕ) (u : ℕ) (a b c : List (List ℕ)) → Gains ts u a b → Gains ss u b c
    → Gains (ts ++ ss) u a c
gains_join ts ss u a b c g h = record {
  long = h.long ∙ g.long;
  rises = λ s. h.rises (g.rises s);
  found = λ r v i. ⊎_elim
      (λ j. ⊎_elim (λ k. inl k) (λ k. inr (in_front r ts ss k.0, k.1, k.2)) (g.found r v j))
      (λ j. inr (in_back r ts ss j.0, j.1, j.2)) (h.found r v i);
  kept = λ r v i. h.kept r v (g.kept r v i);
  gained = λ r i ne. ⊎_elim (λ j. h.kept r u (g.gained r j ne)) (λ j. h.gained r j ne) (in_append r ts ss i);
}

-- gains of a tile more
pub gains_more : (firsts : List ℕ) (k first u : ℕ) (a b c : List (List ℕ)) → k < length firsts
    → first ≡ get_or firsts k first → Gains (take k firsts) u a b → Gains (first ∷ []) u b c
    → Gains (take (k + 1) firsts) u a c
gains_more firsts k first u a b c inside is g h =
    subst (λ ts. Gains ts u a c) (sym (taken_more firsts k first inside is))
    (gains_join (take k firsts) (first ∷ []) u a b c g h)

-- a row that is seen through a function
pub seen_gains : {A : Type 0} (f : A → List ℕ) (rows : List A) (row new : A) (t u : ℕ) → t < length rows
    → row ≡ get_or rows t row → f new ≡ insert_key nat_cmp (f row) u → t ≢ u
    → Gains (t ∷ []) u (map f rows) (map f (slice_set rows t new))
seen_gains f rows row new t u inside taken is apart =
    let long = length-map rows f in
    subst (λ rs. Gains (t ∷ []) u (map f rows) rs)
    (sym (seen_set f rows new t (insert_key nat_cmp (get_or (map f rows) t []) u)
    (is ∙ ap (λ (r : List ℕ). insert_key nat_cmp r u) (sym (seen_at f rows row t inside taken)))))
    (put_gains t u (map f rows) (omega (arith, inside, long)) apart)

-- how many numbers there are with one row replaced
total_set : (rows : List (List ℕ)) (t more : ℕ) (new : List ℕ) → t < length rows
    → length new ≡ length (get_or rows t []) + more
    → length (joined (slice_set rows t new)) ≡ length (joined rows) + more
total_set [] t more new inside e = absurd (omega (arith, inside))
total_set (row ∷ rows) zero more new inside e =
    let a = length-append new (joined rows) in
    let b = length-append row (joined rows) in
    omega (arith, a, b, e)
total_set (row ∷ rows) (suc t) more new inside e =
    let a = length-append row (joined (slice_set rows t new)) in
    let b = length-append row (joined rows) in
    let r = total_set rows t more new (omega (arith, inside)) e in
    omega (arith, a, b, r)

pub seen_total : {A : Type 0} (f : A → List ℕ) (rows : List A) (row new : A) (t more : ℕ) → t < length rows
    → row ≡ get_or rows t row → length (f new) ≡ length (f row) + more
    → length (joined (map f (slice_set rows t new))) ≡ length (joined (map f rows)) + more
seen_total f rows row new t more inside taken e =
    let long = length-map rows f in
    ap (λ (rs : List (List ℕ)). length (joined rs)) (seen_set f rows new t (f new) refl)
    ∙ total_set (map f rows) t more (f new) (omega (arith, inside, long))
    (e ∙ ap (λ (r : List ℕ). length r + more) (sym (seen_at f rows row t inside taken)))

-- rows one behind another
pub joined_append : (xs ys : List (List ℕ)) → joined (xs ++ ys) ≡ joined xs ++ joined ys
joined_append [] ys = refl
joined_append (x ∷ xs) ys =
    ap (λ (zs : List ℕ). x ++ zs) (joined_append xs ys) ∙ sym (append_assoc x (joined xs) (joined ys))

-- a row without numbers more
pub none_more : {A : Type 0} (f : A → List ℕ) (rows new : List A) (x : A) → joined (map f rows) ≡ [] → f x ≡ []
    → new ≡ rows ++ x ∷ [] → joined (map f new) ≡ []
none_more {A = A} f rows new x none empty e =
    ap (λ (xs : List A). joined (map f xs)) e
    ∙ (ap joined (map-append f rows (x ∷ []))
    ∙ (joined_append (map f rows) (f x ∷ [])
    ∙ (ap (λ (zs : List ℕ). zs ++ (f x ++ [])) none ∙ ap (λ (zs : List ℕ). zs ++ []) empty)))

-- a mark of a tile
pub marked_is : (mark : ℕ) → mark ≢ 0 → (mark - 1) ∷ [] ≡ marked mark
marked_is zero some = absurd (some refl)
marked_is (suc t) some =
    let less : suc t - 1 ≡ t = omega arith in
    ap (λ (n : ℕ). n ∷ []) less

-- what was told last, if not the tile itself, is a pair
pub told_before : (pairs : Pairs) (t u told : ℕ) → AreKept pairs → t < length pairs.rows.items
    → told ≡ get_or pairs.told.items t told → told ≡ u → t ≢ u → In u (get_or (rows_in pairs) t [])
told_before pairs t u told are inside taken same apart =
    let long = are.long in
    let is : get_or pairs.told.items t t ≡ u =
    get_or_default pairs.told.items t t told (omega (arith, inside, long)) ∙ (sym taken ∙ same) in
    ⊎_elim (λ e. absurd (apart (sym e ∙ is))) (λ i. subst (λ v. In v (get_or (rows_in pairs) t [])) is i) (are.told t)

pub told_after : (pairs new : Pairs) (t u : ℕ) → AreKept pairs → t < length pairs.rows.items → t ≢ u
    → Gains (t ∷ []) u (rows_in pairs) (rows_in new) → new.told.items ≡ slice_set pairs.told.items t u
    → new.count ≡ length (joined (rows_in new)) → AreKept new
told_after pairs new t u are inside apart gains is count =
    let long = are.long in
    let same = gains.long in
    let seen = length-map pairs.rows.items (λ s. s.keys) in
    let seen_then = length-map new.rows.items (λ s. s.keys) in
    let set = ap length is ∙ length-set pairs.told.items t u in
    record {
      count = count;
      long = omega (arith, long, same, seen, seen_then, set);
      told = λ r. subst (λ (ts : List ℕ). (get_or ts r r ≡ r) ⊎ In (get_or ts r r) (get_or (rows_in new) r [])) (sym is)
          (nat_cases r t (λ l. other r (λ e. omega (arith, l, e)))
          (λ e. subst (λ k. (get_or (slice_set pairs.told.items t u) k k ≡ k)
          ⊎ In (get_or (slice_set pairs.told.items t u) k k) (get_or (rows_in new) k [])) (sym e)
          (inr (subst (λ v. In v (get_or (rows_in new) t []))
          (sym (get_or-set_same pairs.told.items t u t (omega (arith, inside, long))))
          (gains.gained t (inl refl) apart))))
          (λ l. other r (λ e. omega (arith, l, e))));
    }
  where
    other : (r : ℕ) → r ≢ t → (get_or (slice_set pairs.told.items t u) r r ≡ r)
        ⊎ In (get_or (slice_set pairs.told.items t u) r r) (get_or (rows_in new) r [])
    other r ne =
        subst (λ v. (v ≡ r) ⊎ In v (get_or (rows_in new) r [])) (sym (get_or-set_other pairs.told.items t r u r ne))
        (⊎_elim (λ e. inl e) (λ i. inr (gains.kept r (get_or pairs.told.items r r) i)) (are.told r))

-- the numbers of places, and one more
pub indices_more : (xs new : List ℕ) (k : ℕ) → length xs ≡ k → ((t : ℕ) → get_or xs t t ≡ t) → new ≡ xs ++ k ∷ []
    → (t : ℕ) → get_or new t t ≡ t
indices_more xs new k count is e t =
    ap (λ (ys : List ℕ). get_or ys t t) e
    ∙ ⊎_elim (λ same. same ∙ is t) (λ last. last.1 ∙ (sym count ∙ sym last.0)) (pushed xs t)
  where
    pushed : (ys : List ℕ) (i : ℕ) → (get_or (ys ++ k ∷ []) i t ≡ get_or ys i t)
        ⊎ ((i ≡ length ys) × (get_or (ys ++ k ∷ []) i t ≡ k))
    pushed [] zero = inr (refl, refl)
    pushed [] (suc i) = inl refl
    pushed (y ∷ ys) zero = inl refl
    pushed (y ∷ ys) (suc i) =
        ⊎_elim (λ same. inl same) (λ last. let at = last.0 in inr (omega (arith, at), last.1)) (pushed ys i)
