-- A plan with releases deals each place once, counts what its tiles wait for, and keeps the order of the pairs.
use Rattle.scop_syntax.proofs.Common.{◌≡◌, ℕ, zero, suc, ◌+◌, ◌-◌, ◌<◌, ◌≤◌, ◌⊎◌, inl, inr, ⊎_elim, Bool, true, false}
use Rattle.scop_syntax.proofs.Common.{List, [], ◌∷◌, ◌&&◌, ◌%◌, ◌^◌, map, get_or, ap, ap₂, sym, refl, ◌∙◌, subst, arith}
use Rattle.scop_syntax.proofs.Common.{nat_eq, nat_lt, if◌then◌else◌, lt-ltb, le-ltb, eqb-true, eqb-false, eq-eqb}
use Rattle.scop_syntax.proofs.Common.{ne_eqb, cases_lt, and_from, mod-eq_of_lt, In, nat_cases}
use Rattle.std.proofs.lemmas.Bool.{and_right}
use Rattle.tile_events.specs.Plan.{Plan, updated, IsDealt, IsCounted, count_of, before, values_read, stored, words_of}
use Rattle.tile_events.specs.Plan.{Touch, Ordered, Through, GoodPlan}
use Rattle.tile_events.specs.Deal.{tile_at}
use Rattle.tile_events.specs.Releases.{Edges, AreEdges, pairs_to, released, Leads, Precedes, Chain, AreCovered}
use Rattle.tile_events.specs.Releases.{IsDone, IsReleased, released_to, Released}
use Rattle.tile_events.specs.Core.{State, seen_by, needed_by}
use Rattle.tile_events.specs.Sound.{is_done, IsFinished, IsBegun, Sound}
use Rattle.tile_events.proofs.Cells.{words_all}
use Rattle.tile_events.proofs.CountedNumbers.{count_within, count_same, count_behind}
use Rattle.tile_events.proofs.Deals.{IsTileAt, rises, tile_at_is, tile_at_one}
use Rattle.tile_events.proofs.ReadyInstances.{done_less, done_of_finished, is_begun_of_done}
use Rattle.tile_events.proofs.Sums.{cell_counts}

-- no two pairs are the same
module _ (n : ℕ) (e : Edges) (edges : AreEdges n e) where
  -- seconds rise within a tile
  climbs : (i d : ℕ) → i + suc d < e.count → tile_at e.start n i ≡ tile_at e.start n (i + suc d)
      → e.target i < e.target (i + suc d)
  climbs i zero l same = let next : i + 1 ≡ suc i = omega arith in
      subst (λ (m : ℕ). e.target i < e.target m) (sym next)
      (edges.distinct i (omega (arith, l)) (same ∙ ap (tile_at e.start n) next))
  climbs i (suc d) l same =
      let last = edges.last in
      let at = tile_at_is e.start n i edges.first (omega (arith, l, last)) in
      let end = tile_at_is e.start n (i + suc (suc d)) edges.first (omega (arith, l, last)) in
      let from = at.from in
      let to = subst (λ (t : ℕ). i + suc (suc d) < e.start (suc t)) (sym same) end.to in
      let middle : tile_at e.start n (i + suc d) ≡ tile_at e.start n i =
      tile_at_one e.start n n (i + suc d) (tile_at e.start n i) edges.rises (omega arith) at.less (omega (arith, from))
      (omega (arith, to)) in
      let next : i + suc (suc d) ≡ suc (i + suc d) = omega arith in
      let a = climbs i d (omega (arith, l)) (sym middle) in
      let b = edges.distinct (i + suc d) (omega (arith, l)) (middle ∙ (same ∙ ap (tile_at e.start n) next)) in
      subst (λ (m : ℕ). e.target i < e.target m) (sym next) (omega (arith, a, b))

  pub pairs_once : (i j : ℕ) → i < e.count → j < e.count → tile_at e.start n i ≡ tile_at e.start n j
      → e.target i ≡ e.target j → i ≡ j
  pairs_once i j l m same to = nat_cases i j (λ a. absurd (apart i j m same to a)) (λ a. a)
      (λ a. absurd (apart j i l (sym same) (sym to) a))
    where
      apart : (i j : ℕ) → j < e.count → tile_at e.start n i ≡ tile_at e.start n j → e.target i ≡ e.target j → i < j → ⊥
      apart i j m same to less =
          let there : i + suc (j - suc i) ≡ j = omega (arith, less) in
          let c = climbs i (j - suc i) (omega (arith, there, m)) (same ∙ ap (tile_at e.start n) (sym there)) in
          let z = ap e.target there in omega (arith, c, z, to)

module _ (p : Plan) (e : Edges) where
  abbrev q : Plan
  q = released p e

  abbrev source : ℕ → ℕ
  source i = tile_at e.start p.tiles i

  less_is : (i : ℕ) → nat_lt (p.places + i) p.places ≡ false
  less_is i = le-ltb (p.places + i) p.places (omega arith)

  back : (i : ℕ) → (p.places + i) - p.places ≡ i
  back i = omega arith

  -- instances are as they were
  tile_old : (j : ℕ) → j < p.places → q.tile j ≡ p.tile j
  tile_old j l = rw (lt-ltb j p.places l) refl

  position_old : (j : ℕ) → j < p.places → q.position j ≡ p.position j
  position_old j l = rw (lt-ltb j p.places l) refl

  written_old : (j : ℕ) → j < p.places → q.written j ≡ p.written j
  written_old j l = rw (lt-ltb j p.places l) refl

  read_old : (j : ℕ) → j < p.places → q.read j ≡ p.read j
  read_old j l = rw (lt-ltb j p.places l) refl

  value_old : (j : ℕ) (xs : List ℕ) → j < p.places → q.value j xs ≡ p.value j xs
  value_old j xs l = rw (lt-ltb j p.places l) refl

  adds_old : (c : ℕ) → c < p.cells → q.adds c ≡ p.adds c
  adds_old c l = rw (lt-ltb c p.cells l) refl

  initial_old : (c : ℕ) → c < p.cells → q.initial c ≡ p.initial c
  initial_old c l = rw (lt-ltb c p.cells l) refl

  place_old : (t k : ℕ) → k < p.size t → q.place t k ≡ p.place t k
  place_old t k l = rw (lt-ltb k (p.size t) l) refl

  -- and of a release
  tile_new : (i : ℕ) → q.tile (p.places + i) ≡ source i
  tile_new i = rw (less_is i) (ap source (back i))

  position_new : (i : ℕ) → q.position (p.places + i) ≡ p.size (source i) + (i - e.start (source i))
  position_new i = rw (less_is i) (ap (λ (n : ℕ). p.size (source n) + (n - e.start (source n))) (back i))

  written_new : (i : ℕ) → q.written (p.places + i) ≡ p.cells + e.target i
  written_new i = rw (less_is i) (ap (λ (n : ℕ). p.cells + e.target n) (back i))

  read_new : (i : ℕ) → q.read (p.places + i) ≡ []
  read_new i = rw (less_is i) refl

  value_new : (i : ℕ) (xs : List ℕ) → q.value (p.places + i) xs ≡ 1
  value_new i xs = rw (less_is i) refl

  place_new : (t n : ℕ) → q.place t (p.size t + n) ≡ p.places + (e.start t + n)
  place_new t n = rw (le-ltb (p.size t + n) (p.size t) (omega arith))
      (ap (λ (m : ℕ). p.places + (e.start t + m)) (let s : (p.size t + n) - p.size t ≡ n = omega arith in s))

  -- a place is an instance or a release
  kind : (j : ℕ) → j < q.places → (j < p.places) ⊎ ((i : ℕ) × (i < e.count) × (p.places + i ≡ j))
  kind j l = ⊎_elim (λ (a : j < p.places). inl a)
      (λ (a : p.places ≤ j). inr (j - p.places, omega (arith, l, a), omega (arith, a)))
      (cases_lt j p.places)

  module _ (deal : IsDealt p) (edges : AreEdges p.tiles e) where
    at_source : (i : ℕ) → i < e.count → IsTileAt e.start p.tiles i (source i)
    at_source i l = tile_at_is e.start p.tiles i edges.first (let a = edges.last in omega (arith, l, a))

    up_to_last : (t : ℕ) → t < p.tiles → e.start (suc t) ≤ e.count
    up_to_last t l =
        let a = rises e.start p.tiles (suc t) p.tiles edges.rises (omega (arith, l)) (omega arith) in
        let b = edges.last in omega (arith, a, b)

    source_one : (t n : ℕ) → t < p.tiles → n < e.start (suc t) - e.start t → source (e.start t + n) ≡ t
    source_one t n l m = tile_at_one e.start p.tiles p.tiles (e.start t + n) t edges.rises (omega arith) l (omega arith)
        (omega (arith, m))

    -- act k of a tile is an instance or a release
    act : (t k : ℕ) → t < p.tiles → k < q.size t
        → (k < p.size t) ⊎ ((n : ℕ) × (n < e.start (suc t) - e.start t) × (p.size t + n ≡ k))
    act t k l m = ⊎_elim (λ (a : k < p.size t). inl a)
        (λ (a : p.size t ≤ k). inr (k - p.size t, omega (arith, m, a), omega (arith, a)))
        (cases_lt k (p.size t))

    tile_less : (j : ℕ) → j < q.places → q.tile j < p.tiles
    tile_less j l = ⊎_elim
        (λ (a : j < p.places). let b = tile_old j a in let c = deal.tile j a in omega (arith, b, c))
        (λ (a : (i : ℕ) × (i < e.count) × (p.places + i ≡ j)).
        let b = tile_new a.0 in let c = (at_source a.0 a.1).less in
        subst (λ (m : ℕ). q.tile m < p.tiles) a.2 (omega (arith, b, c)))
        (kind j l)

    position_less : (j : ℕ) → j < q.places → q.position j < q.size (q.tile j)
    position_less j l = ⊎_elim
        (λ (a : j < p.places). let b = position_old j a in let c = deal.position j a in
        subst (λ (t : ℕ). q.position j < q.size t) (sym (tile_old j a)) (omega (arith, b, c)))
        (λ (a : (i : ℕ) × (i < e.count) × (p.places + i ≡ j)).
        let b = position_new a.0 in let at = at_source a.0 a.1 in let c = at.from in let d = at.to in
        subst (λ (m : ℕ). q.position m < q.size (q.tile m)) a.2
        (subst (λ (t : ℕ). q.position (p.places + a.0) < q.size t) (sym (tile_new a.0)) (omega (arith, b, c, d))))
        (kind j l)

    there : (j : ℕ) → j < q.places → q.place (q.tile j) (q.position j) ≡ j
    there j l = ⊎_elim
        (λ (a : j < p.places). ap₂ q.place (tile_old j a) (position_old j a)
        ∙ (place_old (p.tile j) (p.position j) (deal.position j a) ∙ deal.there j a))
        (λ (a : (i : ℕ) × (i < e.count) × (p.places + i ≡ j)).
        let c = (at_source a.0 a.1).from in
        subst (λ (m : ℕ). q.place (q.tile m) (q.position m) ≡ m) a.2
        (ap₂ q.place (tile_new a.0) (position_new a.0)
        ∙ (place_new (source a.0) (a.0 - e.start (source a.0)) ∙ omega (arith, c))))
        (kind j l)

    place_less : (t k : ℕ) → t < p.tiles → k < q.size t → q.place t k < q.places
    place_less t k l m = ⊎_elim
        (λ (a : k < p.size t). let b = place_old t k a in let c = deal.place t k l a in omega (arith, b, c))
        (λ (a : (n : ℕ) × (n < e.start (suc t) - e.start t) × (p.size t + n ≡ k)).
        let b = place_new t a.0 in let c = up_to_last t l in let d = a.1 in
        subst (λ (x : ℕ). q.place t x < q.places) a.2 (omega (arith, b, c, d)))
        (act t k l m)

    its_tile : (t k : ℕ) → t < p.tiles → k < q.size t → q.tile (q.place t k) ≡ t
    its_tile t k l m = ⊎_elim
        (λ (a : k < p.size t). ap q.tile (place_old t k a)
        ∙ (tile_old (p.place t k) (deal.place t k l a) ∙ deal.its_tile t k l a))
        (λ (a : (n : ℕ) × (n < e.start (suc t) - e.start t) × (p.size t + n ≡ k)).
        subst (λ (x : ℕ). q.tile (q.place t x) ≡ t) a.2
        (ap q.tile (place_new t a.0) ∙ (tile_new (e.start t + a.0) ∙ source_one t a.0 l a.1)))
        (act t k l m)

    its_position : (t k : ℕ) → t < p.tiles → k < q.size t → q.position (q.place t k) ≡ k
    its_position t k l m = ⊎_elim
        (λ (a : k < p.size t). ap q.position (place_old t k a)
        ∙ (position_old (p.place t k) (deal.place t k l a) ∙ deal.its_position t k l a))
        (λ (a : (n : ℕ) × (n < e.start (suc t) - e.start t) × (p.size t + n ≡ k)).
        subst (λ (x : ℕ). q.position (q.place t x) ≡ x) a.2
        (ap q.position (place_new t a.0) ∙ (position_new (e.start t + a.0)
        ∙ (ap (λ (u : ℕ). p.size u + ((e.start t + a.0) - e.start u)) (source_one t a.0 l a.1) ∙ omega arith))))
        (act t k l m)

    written_less : (j : ℕ) → j < q.places → q.written j < q.cells
    written_less j l = ⊎_elim
        (λ (a : j < p.places). let b = written_old j a in let c = deal.written j a in omega (arith, b, c))
        (λ (a : (i : ℕ) × (i < e.count) × (p.places + i ≡ j)).
        let b = written_new a.0 in let c = edges.target a.0 a.1 in
        subst (λ (m : ℕ). q.written m < q.cells) a.2 (omega (arith, b, c)))
        (kind j l)

    -- only cells of the plan are read
    read_below : (j c : ℕ) → j < q.places → In c (q.read j) → c < p.cells
    read_below j c l h = ⊎_elim
        (λ (a : j < p.places). deal.read j c a (subst (λ xs. In c xs) (read_old j a) h))
        (λ (a : (i : ℕ) × (i < e.count) × (p.places + i ≡ j)).
        absurd (subst (λ xs. In c xs) (ap q.read (sym a.2) ∙ read_new a.0) h))
        (kind j l)

    -- no instance writes a counter
    far : (j u : ℕ) → j < p.places → q.written j ≡ p.cells + u → ⊥
    far j u a h = let b = written_old j a in let c = deal.written j a in omega (arith, b, c, h)

    test_old : (u i : ℕ) → i < p.places → nat_eq (q.written i) (p.cells + u) ≡ false
    test_old u i l = ne_eqb (q.written i) (p.cells + u) (far i u l)

    -- a tile's counter is written by the releases to it
    test_new : (u i : ℕ) → nat_eq (q.written (p.places + i)) (p.cells + u) ≡ nat_eq (e.target i) u
    test_new u i = by_test (nat_eq (e.target i) u) refl
      where
        by_test : (b : Bool) → nat_eq (e.target i) u ≡ b → nat_eq (q.written (p.places + i)) (p.cells + u) ≡ b
        by_test true t = let a = written_new i in let b = eqb-true (e.target i) u t in
            eq-eqb (q.written (p.places + i)) (p.cells + u) (omega (arith, a, b))
        by_test false t = let a = written_new i in
            ne_eqb (q.written (p.places + i)) (p.cells + u)
            (λ h. eqb-false (e.target i) u t (omega (arith, a, h)))

    counted : IsCounted q (λ u. p.cells + u) (pairs_to e)
    counted = record {
      cell = λ u l. omega (arith, l);
      adds = λ u l. rw (le-ltb (p.cells + u) p.cells (omega arith)) refl;
      initial = λ u l. rw (le-ltb (p.cells + u) p.cells (omega arith)) refl;
      one = λ j u xs l m h. ⊎_elim
          (λ (a : j < p.places). absurd (far j u a h))
          (λ (a : (i : ℕ) × (i < e.count) × (p.places + i ≡ j)).
          subst (λ (n : ℕ). q.value n xs ≡ 1) a.2 (value_new a.0 xs))
          (kind j l);
      needs = λ u l. sym (count_behind (λ i. nat_eq (q.written i) (p.cells + u)) p.places e.count (test_old u)
          ∙ count_same (λ i. nat_eq (q.written (p.places + i)) (p.cells + u)) (λ i. nat_eq (e.target i) u) e.count
          (λ i m. test_new u i));
    }

    pub released_dealt : IsDealt q
    released_dealt = record {
      tile = tile_less;
      position = position_less;
      there = there;
      place = place_less;
      its_tile = its_tile;
      its_position = its_position;
      early = deal.early;
      late = deal.late;
      written = written_less;
      read = λ j c l h. let a = read_below j c l h in omega (arith, a);
      gate = counted;
    }

    -- an order of the pairs is one of the plan with releases
    precedes : (i j : ℕ) → i < p.places → j < p.places → Precedes p e i j → Ordered q i j
    precedes i j a b o = ⊎_elim
        (λ (x : (p.tile i ≡ p.tile j) × (p.position i < p.position j)).
        let d = position_old i a in let f = position_old j b in let g = x.1 in
        inl (tile_old i a ∙ (x.0 ∙ sym (tile_old j b)), omega (arith, d, f, g)))
        (λ (x : Leads p e (p.tile i) (p.tile j)).
        let t : q.tile (p.places + x.0) ≡ q.tile i = tile_new x.0 ∙ (x.2 ∙ sym (tile_old i a)) in
        let z : p.size (source x.0) ≡ p.size (p.tile i) = ap p.size x.2 in
        let d = position_old i a in let f = position_new x.0 in let g = deal.position i a in
        let l : x.0 < e.count = x.1 in
        inr (
          p.places + x.0,
          omega (arith, l),
          t,
          omega (arith, d, f, g, z),
          written_new x.0 ∙ ap (λ (u : ℕ). p.cells + u) (x.3 ∙ sym (tile_old j b)),
        ))
        o

    through : (ks : List ℕ) (i j : ℕ) → i < p.places → j < p.places → Chain p e ks i j → Through q ks i j
    through [] i j a b c = precedes i j a b c
    through (k ∷ ks) i j a b c =
        let l : k < p.places = c.0 in (omega (arith, l), precedes i k a c.0 c.1, through ks k j c.0 b c.2)

    -- a release reads nothing, and adds to a cell that nothing reads
    untouched : (n j : ℕ) → j < q.places → Touch q (p.places + n) j → ⊥
    untouched n j l (inl x) =
        let adds : q.adds (q.written (p.places + n)) ≡ true =
        ap q.adds (written_new n) ∙ rw (le-ltb (p.cells + e.target n) p.cells (omega arith)) refl in
        let z : true ≡ false = sym adds ∙ x.1 in absurd cc
    untouched n j l (inr (inl y)) =
        let a = written_new n in let b = read_below j (q.written (p.places + n)) l y in omega (arith, a, b)
    untouched n j l (inr (inr y)) = subst (λ xs. In (q.written j) xs) (read_new n) y

    turned : (i j : ℕ) → Touch q i j → Touch q j i
    turned i j (inl x) = inl (sym x.0, ap q.adds (sym x.0) ∙ x.1)
    turned i j (inr (inl y)) = inr (inr y)
    turned i j (inr (inr y)) = inr (inl y)

    -- places that touch in the plan with releases are instances
    touch_old : (i j : ℕ) → i < q.places → j < q.places → Touch q i j → (i < p.places) × (j < p.places) × Touch p i j
    touch_old i j l m h = ⊎_elim
        (λ (a : i < p.places). ⊎_elim
        (λ (b : j < p.places). (a, b, both a b h))
        (λ (b : (n : ℕ) × (n < e.count) × (p.places + n ≡ j)).
        absurd (untouched b.0 i l (turned i (p.places + b.0) (subst (λ (n : ℕ). Touch q i n) (sym b.2) h))))
        (kind j m))
        (λ (a : (n : ℕ) × (n < e.count) × (p.places + n ≡ i)).
        absurd (untouched a.0 j m (subst (λ (n : ℕ). Touch q n j) (sym a.2) h)))
        (kind i l)
      where
        both : i < p.places → j < p.places → Touch q i j → Touch p i j
        both a b (inl x) =
            let w = written_old i a in
            inl (
              sym w ∙ (x.0 ∙ written_old j b),
              sym (adds_old (p.written i) (deal.written i a)) ∙ (ap q.adds (sym w) ∙ x.1),
            )
        both a b (inr (inl y)) = inr (inl (subst (λ xs. In (p.written i) xs) (read_old j b)
            (subst (λ (c : ℕ). In c (q.read j)) (written_old i a) y)))
        both a b (inr (inr y)) = inr (inr (subst (λ xs. In (p.written j) xs) (read_old i a)
            (subst (λ (c : ℕ). In c (q.read i)) (written_old j b) y)))

    -- where the pairs cover what touches, the plan with releases is good
    pub released_good : AreCovered p e → GoodPlan q
    released_good covered = record {
      ordered = λ i j before less touch.
          let t = touch_old i j (omega (arith, before, less)) less touch in
          let c = covered i j before t.1 t.2 in (c.0, through c.0 i j t.0 t.1 c.1);
    }

    map_same : (f g : ℕ → ℕ) (xs : List ℕ) → ((c : ℕ) → In c xs → f c ≡ g c) → map f xs ≡ map g xs
    map_same f g [] h = refl
    map_same f g (x ∷ xs) h =
        ap₂ (λ (y : ℕ) (ys : List ℕ). y ∷ ys) (h x (inl refl)) (map_same f g xs (λ c i. h c (inr i)))

    -- the cells and what is read are those of the plan without releases
    pub released_before : (k c : ℕ) → k ≤ p.places → c < p.cells → before q k c ≡ before p k c
    released_before zero c l m = initial_old c m
    released_before (suc k) c l m =
        step (released_before k c (omega (arith, l)) m)
        (map_same (before q k) (before p k) (p.read k)
        (λ d i. released_before k d (omega (arith, l)) (deal.read k d (omega (arith, l)) i)))
      where
        step : before q k c ≡ before p k c → map (before q k) (p.read k) ≡ map (before p k) (p.read k)
            → before q (suc k) c ≡ before p (suc k) c
        step one all =
            let a : k < p.places = omega (arith, l) in
            let value : q.value k (map (before q k) (q.read k)) ≡ p.value k (map (before p k) (p.read k)) =
            ap (λ xs. q.value k (map (before q k) xs)) (read_old k a)
            ∙ (ap (q.value k) all ∙ value_old k (map (before p k) (p.read k)) a) in
            ap₂ (λ (w o : ℕ). if nat_eq w c then updated (q.adds c) o (q.value k (map (before q k) (q.read k))) else o)
            (written_old k a) one
            ∙ ap₂ (λ (b : Bool) (x : ℕ). if nat_eq (p.written k) c then updated b (before p k c) x else before p k c)
            (adds_old c m) value

    pub released_reads : (k : ℕ) → k < p.places → values_read q k ≡ values_read p k
    released_reads k a = ap (map (before q k)) (read_old k a)
        ∙ map_same (before q k) (before p k) (p.read k)
        (λ d i. released_before k d (omega (arith, a)) (deal.read k d a i))

    -- the cells hold what the done places leave in the plan without releases
    words_old : (done : ℕ → Bool) (k c : ℕ) → k ≤ p.places → c < p.cells → words_of q done k c ≡ words_of p done k c
    words_old done zero c l m = initial_old c m
    words_old done (suc k) c l m =
        let a : k < p.places = omega (arith, l) in
        let value : stored q k ≡ stored p k =
        ap (q.value k) (released_reads k a) ∙ value_old k (values_read p k) a in
        ap₂ (λ (w o : ℕ). if done k && nat_eq w c then updated (q.adds c) o (stored q k) else o)
        (written_old k a) (words_old done k c (omega (arith, l)) m)
        ∙ ap₂ (λ (b : Bool) (x : ℕ). if done k && nat_eq (p.written k) c
        then updated b (words_of p done k c) x else words_of p done k c)
        (adds_old c m) value

    -- releases leave the cells
    words_rest : (done : ℕ → Bool) (m c : ℕ) → m ≤ e.count → c < p.cells
        → words_of q done (p.places + m) c ≡ words_of p done p.places c
    words_rest done zero c l less =
        ap (λ (n : ℕ). words_of q done n c) (let s : p.places + 0 ≡ p.places = omega arith in s)
        ∙ words_old done p.places c (omega arith) less
    words_rest done (suc m) c l less =
        let w = written_new m in
        ap (λ (n : ℕ). words_of q done n c) (let s : p.places + suc m ≡ suc (p.places + m) = omega arith in s)
        ∙ rw (and_right (done (p.places + m)) (nat_eq (q.written (p.places + m)) c)
        (ne_eqb (q.written (p.places + m)) c (λ h. omega (arith, w, h, less))))
        (words_rest done m c (omega (arith, l)) less)

    pub released_words : (done : ℕ → Bool) (c : ℕ) → c < p.cells
        → words_of q done q.places c ≡ words_of p done p.places c
    released_words done c less = words_rest done e.count c (omega arith) less

    pub released_end : (c : ℕ) → c < p.cells → before q q.places c ≡ before p p.places c
    released_end c less =
        sym (words_all q (λ i. true) q.places c (λ i l. refl))
        ∙ (released_words (λ i. true) c less ∙ words_all p (λ i. true) p.places c (λ i l. refl))

    -- what a tile waits for: where it is begun, each pair to it is released, and the instances of that tile are done
    module _ (s : State) (sound : Sound q s) where
      release_done : (i : ℕ) → i < e.count → IsReleased p e s i → IsDone p e s (source i)
      release_done i l done = λ k less.
          let at = at_source i l in
          let j : ℕ = p.place (source i) k in
          let within : j < p.places = deal.place (source i) k at.less less in
          let t : q.tile j ≡ source i = tile_old j within ∙ deal.its_tile (source i) k at.less less in
          let a = position_old j within in let b = deal.its_position (source i) k at.less less in
          let c = position_new i in
          done_less q s j (p.places + i) (tile_new i ∙ sym t) (omega (arith, a, b, c, less)) done

      pair_done : (i : ℕ) → i < e.count → IsBegun s (e.target i) → IsDone p e s (source i) × IsReleased p e s i
      pair_done i l begun =
          let d : IsReleased p e s i =
          sound.opened (p.places + i) (e.target i) (omega (arith, l)) (edges.target i l) begun (written_new i) in
          (release_done i l d, d)

      leads_done : (t u : ℕ) → Leads p e t u → IsBegun s u → IsDone p e s t
      leads_done t u x begun =
          subst (IsDone p e s) x.2 (pair_done x.0 x.1 (subst (IsBegun s) (sym x.3) begun)).0

      -- and so is each tile from which a chain leads to it, where it is another
      pub chain_done : (ks : List ℕ) (i j : ℕ) → j < p.places → Chain p e ks i j → IsBegun s (p.tile j)
          → (p.tile i ≡ p.tile j) ⊎ IsDone p e s (p.tile i)
      chain_done [] i j b c begun = ⊎_elim
          (λ (x : (p.tile i ≡ p.tile j) × (p.position i < p.position j)). inl x.0)
          (λ (x : Leads p e (p.tile i) (p.tile j)). inr (leads_done (p.tile i) (p.tile j) x begun))
          c
      chain_done (k ∷ ks) i j b c begun = from (chain_done ks k j b c.2 begun)
        where
          from : (p.tile k ≡ p.tile j) ⊎ IsDone p e s (p.tile k) → (p.tile i ≡ p.tile j) ⊎ IsDone p e s (p.tile i)
          from (inl same) = ⊎_elim
              (λ (x : (p.tile i ≡ p.tile k) × (p.position i < p.position k)). inl (x.0 ∙ same))
              (λ (x : Leads p e (p.tile i) (p.tile k)).
              inr (leads_done (p.tile i) (p.tile k) x (subst (IsBegun s) (sym same) begun)))
              c.1
          from (inr all) = ⊎_elim
              (λ (x : (p.tile i ≡ p.tile k) × (p.position i < p.position k)).
              inr (subst (IsDone p e s) (sym x.0) all))
              (λ (x : Leads p e (p.tile i) (p.tile k)).
              let d : is_done q s k ≡ true = subst (λ (n : ℕ). is_done q s n ≡ true) (deal.there k c.0)
              (all (p.position k) (deal.position k c.0)) in
              inr (leads_done (p.tile i) (p.tile k) x
              (subst (IsBegun s) (tile_old k c.0) (is_begun_of_done q s k d))))
              c.1

      -- a counter holds the number of the pairs to its tile that are released
      pub counter_is : (u : ℕ) → u < p.tiles → e.count < 18446744073709551616
          → get_or s.cells (p.cells + u) 0 ≡ released_to p e s u
      counter_is u l few =
          cell_counts q s (p.cells + u) sound (counted.cell u l) (counted.adds u l) (counted.initial u l)
          (λ i m wrote. counted.one i u (values_read q i) m l wrote)
          ∙ (ap (λ (n : ℕ). n % 2 ^ 64) number
          ∙ mod-eq_of_lt (let a = count_within (λ i. is_done q s (p.places + i) && nat_eq (e.target i) u) e.count in
          omega (arith, a, few)))
        where
          number : count_of (λ i. is_done q s i && nat_eq (q.written i) (p.cells + u)) q.places ≡ released_to p e s u
          number =
              count_behind (λ i. is_done q s i && nat_eq (q.written i) (p.cells + u)) p.places e.count
              (λ i m. and_right (is_done q s i) (nat_eq (q.written i) (p.cells + u)) (test_old u i m))
              ∙ count_same
              (λ i. is_done q s (p.places + i) && nat_eq (q.written (p.places + i)) (p.cells + u))
              (λ i. is_done q s (p.places + i) && nat_eq (e.target i) u) e.count
              (λ i m. ap (λ (b : Bool). is_done q s (p.places + i) && b) (test_new u i))

      pub counters_tell : e.count < 18446744073709551616 → Released p e s
      counters_tell few =
          record { opened = pair_done; counts = λ u l. counter_is u l few; releases = release_done }

      -- where all that lead to it are finished, a tile can be opened
      pub gate_filled : (u : ℕ) → u < p.tiles → e.count < 18446744073709551616
          → ((t : ℕ) → Leads p e t u → IsFinished s t) → needed_by q.gate q u ≤ seen_by q.gate s u
      gate_filled u less few over =
          let a = counter_is u less few in
          let b = count_same (λ i. is_done q s (p.places + i) && nat_eq (e.target i) u) (λ i. nat_eq (e.target i) u)
          e.count (λ i l. by_test i l (nat_eq (e.target i) u) refl) in
          omega (arith, a, b)
        where
          by_test : (i : ℕ) → i < e.count → (b : Bool) → nat_eq (e.target i) u ≡ b
              → (is_done q s (p.places + i) && b) ≡ b
          by_test i l true t = and_from (is_done q s (p.places + i)) true
              (done_of_finished q s (p.places + i) (over (q.tile (p.places + i))
              (i, l, sym (tile_new i), eqb-true (e.target i) u t))) refl
          by_test i l false t = and_right (is_done q s (p.places + i)) false refl
