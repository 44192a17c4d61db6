-- A scan cut into tiles deals each place once.
use Rattle.scop_syntax.proofs.Common.{◌≡◌, ℕ, zero, suc, ◌+◌, ◌-◌, ◌<◌, ◌≤◌, Bool, true, false, List, ap, sym, refl}
use Rattle.scop_syntax.proofs.Common.{◌∙◌, arith, nat_le, nat_lt, if◌then◌else◌, leb-true, ltb-true, ltb-false, le-leb}
use Rattle.scop_syntax.proofs.Common.{lt-leb, In, nat_cases}
use Rattle.std.proofs.lemmas.Bool.{leb-false}
use Rattle.tile_events.specs.Plan.{IsDealt}
use Rattle.tile_events.specs.Deal.{Deal, IsScan, tile_at, offset_to, dealt}

-- a function that does not fall from one number to the next does not fall
rises_to : (f : ℕ → ℕ) (n a k : ℕ) → ((t : ℕ) → t < n → f t ≤ f (suc t)) → a + k ≤ n → f a ≤ f (a + k)
rises_to f n a zero h l = let e = ap f (let q : a + 0 ≡ a = omega arith in q) in omega (arith, e)
rises_to f n a (suc k) h l =
    let i = rises_to f n a k h (omega (arith, l)) in
    let s = h (a + k) (omega (arith, l)) in
    let e = ap f (let q : suc (a + k) ≡ a + suc k = omega arith in q) in
    omega (arith, i, s, e)

pub rises : (f : ℕ → ℕ) (n a b : ℕ) → ((t : ℕ) → t < n → f t ≤ f (suc t)) → a ≤ b → b ≤ n → f a ≤ f b
rises f n a b h l m =
    let i = rises_to f n a (b - a) h (omega (arith, l, m)) in
    let e = ap f (let q : a + (b - a) ≡ b = omega (arith, l) in q) in omega (arith, i, e)

-- rank r lies in tile t, one of the first m
pub record IsTileAt (start : ℕ → ℕ) (m r t : ℕ) : Type 0 where
  pub less : t < m
  pub from : start t ≤ r
  pub to : r < start (suc t)

pub tile_at_is : (start : ℕ → ℕ) (m r : ℕ) → start 0 ≡ 0 → r < start m → IsTileAt start m r (tile_at start m r)
tile_at_is start zero r z l = absurd (omega (arith, z, l))
tile_at_is start (suc m) r z l = by_test (nat_le (start m) r) refl
    (λ e. let i = tile_at_is start m r z (leb-false (start m) r e) in i)
  where
    by_test : (b : Bool) → nat_le (start m) r ≡ b
        → (nat_le (start m) r ≡ false → IsTileAt start m r (tile_at start m r))
        → IsTileAt start (suc m) r (if b then m else tile_at start m r)
    by_test true e ih = record { less = omega arith; from = leb-true (start m) r e; to = l }
    by_test false e ih =
        let i = ih e in let a = i.less in record { less = omega (arith, a); from = i.from; to = i.to }

-- it lies in no other
pub tile_at_one : (start : ℕ → ℕ) (n m r t : ℕ) → ((u : ℕ) → u < n → start u ≤ start (suc u)) → m ≤ n → t < m
    → start t ≤ r → r < start (suc t) → tile_at start m r ≡ t
tile_at_one start n zero r t h l less from to = absurd (omega (arith, less))
tile_at_one start n (suc m) r t h l less from to = nat_cases t m
    (λ a. let up = rises start n (suc t) m h (omega (arith, a)) (omega (arith, l)) in
    rw (lt-leb (start m) r (omega (arith, up, to))) (tile_at_one start n m r t h (omega (arith, l)) a from to))
    (λ e. let f = ap start e in rw (le-leb (start m) r (omega (arith, f, from))) (sym e))
    (λ a. absurd (omega (arith, a, less)))

-- a tile before the offset of wave w lies in an earlier wave, one from the offset on does not
early_to : (wave : ℕ → ℕ) (n m w t : ℕ) → ((u : ℕ) → suc u < n → wave u ≤ wave (suc u)) → m ≤ n
    → t < offset_to wave m w → wave t < w
early_to wave n zero w t h l e = absurd (omega (arith, e))
early_to wave n (suc m) w t h l e =
    by_test (nat_lt (wave m) w) refl e (λ q. early_to wave n m w t h (omega (arith, l)) q)
  where
    by_test : (b : Bool) → nat_lt (wave m) w ≡ b → t < (if b then suc m else offset_to wave m w)
        → (t < offset_to wave m w → wave t < w) → wave t < w
    by_test true z e ih =
        let up = rises wave m t m (λ u q. h u (omega (arith, q, l))) (omega (arith, e)) (omega arith) in
        let s = ltb-true (wave m) w z in omega (arith, up, s)
    by_test false z e ih = ih e

late_to : (wave : ℕ → ℕ) (m w t : ℕ) → t < m → offset_to wave m w ≤ t → w ≤ wave t
late_to wave zero w t l e = absurd (omega (arith, l))
late_to wave (suc m) w t l e = by_test (nat_lt (wave m) w) refl e (λ a q. late_to wave m w t a q)
  where
    by_test : (b : Bool) → nat_lt (wave m) w ≡ b → (if b then suc m else offset_to wave m w) ≤ t
        → (t < m → offset_to wave m w ≤ t → w ≤ wave t) → w ≤ wave t
    by_test true z e ih = absurd (omega (arith, e, l))
    by_test false z e ih =
        nat_cases t m (λ a. ih a e) (λ s. let f = ap wave s in let g = ltb-false (wave m) w z in omega (arith, f, g))
        (λ a. absurd (omega (arith, a, l)))

pub deal_is : (d : Deal) (cells : ℕ) (adds : ℕ → Bool) (written : ℕ → ℕ) (read : ℕ → List ℕ)
    (value : ℕ → List ℕ → ℕ) (initial : ℕ → ℕ)
    → IsScan d
    → ((j : ℕ) → j < d.places → written j < cells) → ((j c : ℕ) → j < d.places → In c (read j) → c < cells)
    → IsDealt (dealt d cells adds written read value initial)
deal_is d cells adds written read value initial scan inside_w inside_r = record {
  tile = λ j l. (at_place j l).less;
  position = λ j l. let a = (at_place j l).from in let b = (at_place j l).to in omega (arith, a, b);
  there = λ j l. let a = (at_place j l).from in ap d.at
      (let q : d.start (tile j) + (d.rank j - d.start (tile j)) ≡ d.rank j = omega (arith, a) in q) ∙ scan.there j l;
  place = λ t k l m. scan.at (d.start t + k) (in_scan t k l m);
  its_tile = λ t k l m. ap (tile_at d.start d.tiles) (scan.back (d.start t + k) (in_scan t k l m)) ∙ one t k l m;
  its_position = λ t k l m.
      let e = scan.back (d.start t + k) (in_scan t k l m) in
      let f = ap d.start (ap (tile_at d.start d.tiles) e ∙ one t k l m) in omega (arith, e, f);
  early = λ w t l e. early_to d.wave d.tiles d.tiles w t scan.by_wave (omega arith) e;
  late = λ w t l e. late_to d.wave d.tiles w t l e;
  written = inside_w;
  read = inside_r;
  gate = tt;
}
  where
    tile : ℕ → ℕ
    tile j = tile_at d.start d.tiles (d.rank j)

    at_place : (j : ℕ) → j < d.places → IsTileAt d.start d.tiles (d.rank j) (tile_at d.start d.tiles (d.rank j))
    at_place j l =
        let e = scan.last in
        let r = scan.rank j l in tile_at_is d.start d.tiles (d.rank j) scan.first (omega (arith, e, r))

    in_scan : (t k : ℕ) → t < d.tiles → k < d.start (suc t) - d.start t → d.start t + k < d.places
    in_scan t k l m =
        let u = rises d.start d.tiles (suc t) d.tiles scan.rises (omega (arith, l)) (omega arith) in
        let e = scan.last in omega (arith, u, e, m)

    one : (t k : ℕ) → t < d.tiles → k < d.start (suc t) - d.start t → tile_at d.start d.tiles (d.start t + k) ≡ t
    one t k l m = tile_at_one d.start d.tiles d.tiles (d.start t + k) t scan.rises (omega arith) l (omega arith)
        (omega (arith, m))
