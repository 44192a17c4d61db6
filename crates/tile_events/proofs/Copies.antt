-- Reads from copies give what reads of the cells give.
use Rattle.scop_syntax.proofs.Common.{◌≡◌, ℕ, zero, suc, ◌+◌, ◌<◌, ◌≤◌, ◌≢◌, ◌⊎◌, ◌&&◌, Bool, true, false, List, []}
use Rattle.scop_syntax.proofs.Common.{◌∷◌, map, inl, inr, ⊎_elim, ap, ap₂, sym, refl, ◌∙◌, subst, arith, Option, Some}
use Rattle.scop_syntax.proofs.Common.{None, nat_eq, if◌then◌else◌, lt-ltb, le-ltb, eq-eqb, ne_eqb, In, nat_cases}
use Rattle.std.proofs.lemmas.Bool.{and_right}
use Rattle.tile_events.specs.Plan.{Plan, waves, before, stored, values_read, words_of, Touch, Ordered}
use Rattle.tile_events.specs.Plan.{GoodPlan, IsDealt, IsGated}
use Rattle.tile_events.proofs.Covers.{ordered_by_waves}
use Rattle.tile_events.specs.Copies.{copy_of, copies_of, expanded, IsSource, AreSources, IsFlowPlan}

module _ (p : Plan) (sources : ℕ → List (Option ℕ)) where
  abbrev q : Plan
  q = expanded p sources

  -- the cells stay as they were at first
  initial_old : (c : ℕ) → c < p.cells → q.initial c ≡ p.initial c
  initial_old c l = rw (lt-ltb c p.cells l) refl

  pub cells_stay : (done : ℕ → Bool) (n c : ℕ) → c < p.cells → words_of q done n c ≡ p.initial c
  cells_stay done zero c l = initial_old c l
  cells_stay done (suc n) c l =
      rw (and_right (done n) (nat_eq (p.cells + n) c) (ne_eqb (p.cells + n) c (λ h. omega (arith, h, l))))
      (cells_stay done n c l)

  before_cells : (n c : ℕ) → c < p.cells → before q n c ≡ p.initial c
  before_cells zero c l = initial_old c l
  before_cells (suc n) c l = rw (ne_eqb (p.cells + n) c (λ h. omega (arith, h, l))) (before_cells n c l)

  module _ (stores : (c : ℕ) → p.adds c ≡ false) where
    -- a copy holds what its place stores, where that is done
    copy_none : (done : ℕ → Bool) (n i : ℕ) → n ≤ i → words_of q done n (p.cells + i) ≡ 0
    copy_none done zero i l = rw (le-ltb (p.cells + i) p.cells (omega arith)) refl
    copy_none done (suc n) i l =
        rw (and_right (done n) (nat_eq (p.cells + n) (p.cells + i))
        (ne_eqb (p.cells + n) (p.cells + i) (λ h. omega (arith, h, l)))) (copy_none done n i (omega (arith, l)))

    pub copy_holds : (done : ℕ → Bool) (n i : ℕ) → i < n
        → words_of q done n (p.cells + i) ≡ (if done i then stored q i else 0)
    copy_holds done zero i l = absurd (omega (arith, l))
    copy_holds done (suc n) i l = nat_cases i n
        (λ a. rw (and_right (done n) (nat_eq (p.cells + n) (p.cells + i))
        (ne_eqb (p.cells + n) (p.cells + i) (λ h. omega (arith, h, a)))) (copy_holds done n i a))
        (λ a. subst (λ (m : ℕ). words_of q done (suc m) (p.cells + i) ≡ (if done i then stored q i else 0)) a here)
        (λ a. absurd (omega (arith, a, l)))
      where
        here : words_of q done (suc i) (p.cells + i) ≡ (if done i then stored q i else 0)
        here = rw (eq-eqb (p.cells + i) (p.cells + i) refl, stores (p.cells + i))
            (by_test (done i))
          where
            by_test : (b : Bool) → (if b && true then stored q i else words_of q done i (p.cells + i))
                ≡ (if b then stored q i else 0)
            by_test true = refl
            by_test false = copy_none done i i (omega arith)

    -- before a place behind it, a copy holds what its place stores
    copy_before : (n i : ℕ) → i < n → before q n (p.cells + i) ≡ stored q i
    copy_before zero i l = absurd (omega (arith, l))
    copy_before (suc n) i l = nat_cases i n
        (λ a. rw (ne_eqb (p.cells + n) (p.cells + i) (λ h. omega (arith, h, a))) (copy_before n i a))
        (λ a. rw (eq-eqb (p.cells + n) (p.cells + i) (omega (arith, a)), stores (p.cells + i)) (ap (stored q) (sym a)))
        (λ a. absurd (omega (arith, a, l)))

    -- what a cell holds is what its source stores there, or what it held at first
    before_none : (n c : ℕ) → ((i : ℕ) → i < n → p.written i ≢ c) → before p n c ≡ p.initial c
    before_none zero c h = refl
    before_none (suc n) c h =
        rw (ne_eqb (p.written n) c (h n (omega arith))) (before_none n c (λ i l. h i (omega (arith, l))))

    before_source : (n i c : ℕ) → i < n → p.written i ≡ c → ((k : ℕ) → i < k → k < n → p.written k ≢ c)
        → before p n c ≡ stored p i
    before_source zero i c l e h = absurd (omega (arith, l))
    before_source (suc n) i c l e h = nat_cases i n
        (λ a. rw (ne_eqb (p.written n) c (h n a (omega arith)))
        (before_source n i c a e (λ k m o. h k m (omega (arith, o)))))
        (λ a. rw (eq-eqb (p.written n) c (ap p.written (sym a) ∙ e), stores c) (ap (stored p) (sym a)))
        (λ a. absurd (omega (arith, a, l)))

    module _ (inside : (j c : ℕ) → j < p.places → In c (p.read j) → c < p.cells)
        (are : (j : ℕ) → j < p.places → AreSources p j (p.read j) (sources j)) where
      -- one read
      one_read : (j c : ℕ) (o : Option ℕ) → c < p.cells → IsSource p j c o
          → ((i : ℕ) → i < j → stored q i ≡ stored p i) → before q j (copy_of p.cells c o) ≡ before p j c
      one_read j c None l h same = before_cells j c l ∙ sym (before_none j c h)
      one_read j c (Some i) l h same =
          copy_before j i h.0 ∙ (same i h.0 ∙ sym (before_source j i c h.0 h.1 h.2))

      all_reads : (j : ℕ) (cs : List ℕ) (os : List (Option ℕ)) → ((c : ℕ) → In c cs → c < p.cells)
          → AreSources p j cs os → ((i : ℕ) → i < j → stored q i ≡ stored p i)
          → map (before q j) (copies_of p.cells cs os) ≡ map (before p j) cs
      all_reads j [] [] l h same = refl
      all_reads j [] (o ∷ os) l h same = absurd h
      all_reads j (c ∷ cs) [] l h same = absurd h
      all_reads j (c ∷ cs) (o ∷ os) l h same =
          ap₂ (λ (x : ℕ) (xs : List ℕ). x ∷ xs) (one_read j c o (l c (inl refl)) h.0 same)
          (all_reads j cs os (λ d i. l d (inr i)) h.1 same)

      -- by what is stored before, from the first place on
      up_to : (n j : ℕ) → j < n → n ≤ p.places → values_read q j ≡ values_read p j
      up_to zero j l m = absurd (omega (arith, l))
      up_to (suc n) j l m = all_reads j (p.read j) (sources j) (λ c i. inside j c (omega (arith, l, m)) i)
          (are j (omega (arith, l, m)))
          (λ i less. ap (p.value i) (up_to n i (omega (arith, l, less)) (omega (arith, m))))

      pub same_reads : (j : ℕ) → j < p.places → values_read q j ≡ values_read p j
      same_reads j l = up_to p.places j l (omega arith)

    -- what is read with copies: a cell, or the copy of a source
    module _ (deal : IsDealt p) (by_waves : p.gate ≡ waves)
        (are : (j : ℕ) → j < p.places → AreSources p j (p.read j) (sources j)) where
      from_copies : (j d : ℕ) (cs : List ℕ) (os : List (Option ℕ)) → ((c : ℕ) → In c cs → c < p.cells)
          → AreSources p j cs os → In d (copies_of p.cells cs os)
          → (d < p.cells) ⊎ ((i : ℕ) × (i < j) × (p.cells + i ≡ d) × In (Some i) os)
      from_copies j d [] [] l h x = absurd x
      from_copies j d [] (o ∷ os) l h x = absurd h
      from_copies j d (c ∷ cs) [] l h x = absurd h
      from_copies j d (c ∷ cs) (o ∷ os) l h (inl e) = one o refl
        where
          one : (m : Option ℕ) → o ≡ m
              → (d < p.cells) ⊎ ((i : ℕ) × (i < j) × (p.cells + i ≡ d) × In (Some i) (o ∷ os))
          one None is =
              let a = l c (inl refl) in let b : d ≡ c = e ∙ ap (copy_of p.cells c) is in inl (omega (arith, a, b))
          one (Some i) is =
              let s : IsSource p j c (Some i) = subst (IsSource p j c) is h.0 in
              inr (i, s.0, sym (e ∙ ap (copy_of p.cells c) is), inl (sym is))
      from_copies j d (c ∷ cs) (o ∷ os) l h (inr x) = ⊎_elim (λ a. inl a)
          (λ (a : (i : ℕ) × (i < j) × (p.cells + i ≡ d) × In (Some i) os). inr (a.0, a.1, a.2, inr a.3))
          (from_copies j d cs os (λ k i. l k (inr i)) h.1 x)

      copied : (j d : ℕ) → j < p.places → In d (q.read j)
          → (d < p.cells) ⊎ ((i : ℕ) × (i < j) × (p.cells + i ≡ d) × In (Some i) (sources j))
      copied j d less x = from_copies j d (p.read j) (sources j) (λ c i. deal.read j c less i) (are j less) x

      pub expanded_dealt : IsDealt q
      expanded_dealt = record {
        tile = deal.tile;
        position = deal.position;
        there = deal.there;
        place = deal.place;
        its_tile = deal.its_tile;
        its_position = deal.its_position;
        early = deal.early;
        late = deal.late;
        written = λ j l. omega (arith, l);
        read = λ j c l i. ⊎_elim (λ (a : c < p.cells). omega (arith, a))
            (λ (a : (i : ℕ) × (i < j) × (p.cells + i ≡ c) × In (Some i) (sources j)).
            let less : a.0 < j = a.1 in let at = a.2 in omega (arith, less, at, l))
            (copied j c l i);
        gate = subst (λ g. IsGated g q) (sym by_waves) tt;
      }

      pub expanded_good : IsFlowPlan p sources → GoodPlan q
      expanded_good flow = record { ordered = λ i j before less touch. ([], link i j before less touch) }
        where
          link : (i j : ℕ) → i < j → j < p.places → Touch q i j → Ordered q i j
          link i j before less (inl x) = let e = x.0 in absurd (omega (arith, e, before))
          link i j before less (inr (inl h)) = ⊎_elim (λ (a : p.cells + i < p.cells). absurd (omega (arith, a)))
              (λ (a : (k : ℕ) × (k < j) × (p.cells + k ≡ p.cells + i) × In (Some k) (sources j)).
              let e = a.2 in
              let same : a.0 ≡ i = omega (arith, e) in
              ordered_by_waves q i j by_waves (omega (arith, before, less))
              (flow.ordered i j less (subst (λ (m : ℕ). In (Some m) (sources j)) same a.3)))
              (copied j (p.cells + i) less h)
          link i j before less (inr (inr h)) = ⊎_elim (λ (a : p.cells + j < p.cells). absurd (omega (arith, a)))
              (λ (a : (k : ℕ) × (k < i) × (p.cells + k ≡ p.cells + j) × In (Some k) (sources i)).
              let e = a.2 in let l : a.0 < i = a.1 in absurd (omega (arith, e, l, before)))
              (copied i (p.cells + j) (omega (arith, before, less)) h)
