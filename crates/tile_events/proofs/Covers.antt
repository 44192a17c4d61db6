-- Chains of covers join all that touch, and in a plan by waves they are chains of pairs of tiles.
use Rattle.scop_syntax.proofs.Common.{◌≡◌, ℕ, zero, suc, ◌+◌, ◌-◌, ◌<◌, ◌≤◌, ◌≢◌, ◌⊎◌, inl, inr, ⊎_elim, Bool, true}
use Rattle.scop_syntax.proofs.Common.{false, List, [], ◌∷◌, ap, sym, refl, ◌∙◌, subst, arith, nat_eq, eqb-true}
use Rattle.scop_syntax.proofs.Common.{eqb-false, In, nat_cases}
use Rattle.tile_events.specs.Plan.{Plan, waves, Awaits, Ordered, IsByWaves, Through, Touch, GoodPlan}
use Rattle.tile_events.specs.Releases.{Edges, Leads, Precedes, Chain, AreCovered}
use Rattle.tile_events.specs.Covers.{AreFree, Meet, Covers, ArePairsOf, Covered}

-- the next of d places behind i that writes the cell, or none does
search : (p : Plan) (c i d : ℕ) → ((n : ℕ) × (i < n) × (n < i + suc d) × (p.written n ≡ c) × AreFree p i n c)
    ⊎ AreFree p i (i + suc d) c
search p c i zero = inr (λ k l m. absurd (omega (arith, l, m)))
search p c i (suc d) = ⊎_elim
    (λ f. let m : f.0 < i + suc d = f.2 in inl (f.0, f.1, omega (arith, m), f.3, f.4))
    (λ (free : AreFree p i (i + suc d) c). by_test free (nat_eq (p.written (i + suc d)) c) refl)
    (search p c i d)
  where
    by_test : AreFree p i (i + suc d) c → (b : Bool) → nat_eq (p.written (i + suc d)) c ≡ b
        → ((n : ℕ) × (i < n) × (n < i + suc (suc d)) × (p.written n ≡ c) × AreFree p i n c)
        ⊎ AreFree p i (i + suc (suc d)) c
    by_test free true t =
        inl (i + suc d, omega arith, omega arith, eqb-true (p.written (i + suc d)) c t, free)
    by_test free false t = inr (λ k l m. nat_cases k (i + suc d) (λ a. free k l a)
        (λ a. subst (λ (n : ℕ). p.written n ≢ c) (sym a) (eqb-false (p.written (i + suc d)) c t))
        (λ a. absurd (omega (arith, a, m))))

-- from a place to a later one at most d + 1 places behind it, by way of the writers of the cell at which they meet
from_next : (p : Plan) (c d i j : ℕ) → i < j → j ≤ i + suc d → j < p.places → Meet p i j c
    → ((n : ℕ) × (i < n) × (n < i + suc (j - suc i)) × (p.written n ≡ c) × AreFree p i n c)
    ⊎ AreFree p i (i + suc (j - suc i)) c
    → (ks : List ℕ) × Covered p ks i j
from_next p c d i j less near within kind (inr free) =
    let to_j : i + suc (j - suc i) ≡ j = omega (arith, less) in (
      [],
      record {
        before = less;
        within = within;
        cell = c;
        free = subst (λ (m : ℕ). AreFree p i m c) to_j free;
        meet = kind;
      },
    )
from_next p c zero i j less near within kind (inl f) =
    let a : i < f.0 = f.1 in
    let b : f.0 < i + suc (j - suc i) = f.2 in absurd (omega (arith, near, a, b, less))
from_next p c (suc d) i j less near within kind (inl f) =
    let a : i < f.0 = f.1 in
    let b : f.0 < i + suc (j - suc i) = f.2 in
    let l : f.0 < j = omega (arith, b, less) in
    let first : Covers p i f.0 = record {
      before = a;
      within = omega (arith, l, within);
      cell = c;
      free = f.4;
      meet = to_writer f.0 f.3 kind;
    } in
    let r = from_next p c d f.0 j l (omega (arith, near, a)) within (from_writer f.0 f.3 kind)
    (search p c f.0 (j - suc f.0)) in
    (f.0 ∷ r.0, (first, r.1))
  where
    to_writer : (n : ℕ) → p.written n ≡ c → Meet p i j c → Meet p i n c
    to_writer n w (inl x) = inl (x.0, inl w)
    to_writer n w (inr x) = inr (w, x.1)

    from_writer : (n : ℕ) → p.written n ≡ c → Meet p i j c → Meet p n j c
    from_writer n w (inl x) = inl (w, x.1)
    from_writer n w (inr x) = inl (w, inl x.0)

-- so for all that touch
pub touching_covered : (p : Plan) (i j : ℕ) → i < j → j < p.places → Touch p i j → (ks : List ℕ) × Covered p ks i j
touching_covered p i j less within touch = by_kind touch
  where
    chain : (c : ℕ) → Meet p i j c → (ks : List ℕ) × Covered p ks i j
    chain c kind =
        from_next p c (j - suc i) i j less (omega (arith, less)) within kind (search p c i (j - suc i))

    by_kind : Touch p i j → (ks : List ℕ) × Covered p ks i j
    by_kind (inl x) = chain (p.written i) (inl (refl, inl (sym x.0)))
    by_kind (inr (inl h)) = chain (p.written i) (inl (refl, inr h))
    by_kind (inr (inr h)) = chain (p.written j) (inr (refl, h))

-- who covers touches, where nobody adds
covers_touch : (p : Plan) → ((c : ℕ) → p.adds c ≡ false) → (i j : ℕ) → Covers p i j → Touch p i j
covers_touch p stores i j c = by_kind c.meet
  where
    by_kind : Meet p i j c.cell → Touch p i j
    by_kind (inl (w, inl v)) = inl (w ∙ sym v, stores (p.written i))
    by_kind (inl (w, inr h)) = inr (inl (subst (λ (d : ℕ). In d (p.read j)) (sym w) h))
    by_kind (inr (w, h)) = inr (inr (subst (λ (d : ℕ). In d (p.read i)) (sym w) h))

-- in a plan by waves what is ordered stands in one tile or leads to a later wave
pub ordered_by_waves : (p : Plan) (i j : ℕ) → p.gate ≡ waves → i < p.places → IsByWaves p i j → Ordered p i j
ordered_by_waves p i j g less (inl x) = inl x
ordered_by_waves p i j g less (inr x) =
    inr (i, less, refl, omega arith, subst (λ g. Awaits g p (p.tile j) i) (sym g) x)

ordered_apart : (p : Plan) (i j : ℕ) → p.gate ≡ waves → Ordered p i j → IsByWaves p i j
ordered_apart p i j g o = ⊎_elim (λ x. inl x)
    (λ (x : (r : ℕ) × (r < p.places) × (p.tile r ≡ p.tile i) × (p.position i ≤ p.position r)
    × Awaits p.gate p (p.tile j) r).
    let a : p.wave (p.tile x.0) < p.wave (p.tile j) = subst (λ g. Awaits g p (p.tile j) x.0) g x.4 in
    let b = ap p.wave x.2 in inr (omega (arith, a, b)))
    o

through_apart : (p : Plan) (ks : List ℕ) (i j : ℕ) → p.gate ≡ waves → Through p ks i j → IsByWaves p i j
through_apart p [] i j g o = ordered_apart p i j g o
through_apart p (k ∷ ks) i j g o = join (ordered_apart p i k g o.1) (through_apart p ks k j g o.2)
  where
    join : IsByWaves p i k → IsByWaves p k j → IsByWaves p i j
    join (inl x) (inl y) = let a = x.1 in let b = y.1 in inl (x.0 ∙ y.0, omega (arith, a, b))
    join (inl x) (inr y) = let a = ap p.wave x.0 in inr (omega (arith, a, y))
    join (inr x) (inl y) = let a = ap p.wave y.0 in inr (omega (arith, a, x))
    join (inr x) (inr y) = inr (omega (arith, x, y))

-- so a plan by waves is good exactly where all that touch are ordered so
pub good_waves : (p : Plan) → p.gate ≡ waves → GoodPlan p → (i j : ℕ) → i < j → j < p.places → Touch p i j
    → IsByWaves p i j
good_waves p g good i j before less touch =
    let o = good.ordered i j before less touch in through_apart p o.0 i j g o.1

pub waves_good : (p : Plan) → p.gate ≡ waves
    → ((i j : ℕ) → i < j → j < p.places → Touch p i j → IsByWaves p i j) → GoodPlan p
waves_good p g all = record {
  ordered = λ i j before less touch.
      ([], ordered_by_waves p i j g (omega (arith, before, less)) (all i j before less touch));
}

module _ (p : Plan) (e : Edges) (stores : (c : ℕ) → p.adds c ≡ false) (by_waves : p.gate ≡ waves) (good : GoodPlan p)
    (pairs : ArePairsOf p e) where
  precedes : (i j : ℕ) → Covers p i j → Precedes p e i j
  precedes i j c = by_test (nat_eq (p.tile i) (p.tile j)) refl
    where
      by_test : (b : Bool) → nat_eq (p.tile i) (p.tile j) ≡ b → Precedes p e i j
      by_test true t =
          let s : p.tile i ≡ p.tile j = eqb-true (p.tile i) (p.tile j) t in
          let w = ap p.wave s in
          ⊎_elim (λ x. inl x) (λ (x : p.wave (p.tile i) < p.wave (p.tile j)). absurd (omega (arith, x, w)))
          (good_waves p by_waves good i j c.before c.within (covers_touch p stores i j c))
      by_test false t = inr (pairs.all i j c (eqb-false (p.tile i) (p.tile j) t))

  chain : (ks : List ℕ) (i j : ℕ) → Covered p ks i j → Chain p e ks i j
  chain [] i j c = precedes i j c
  chain (k ∷ ks) i j c = (c.0.within, precedes i k c.0, chain ks k j c.1)

  pub pairs_cover : AreCovered p e
  pairs_cover i j before less touch = let c = touching_covered p i j before less touch in (c.0, chain c.0 i j c.1)

  -- a pair leads to a later wave
  pub pairs_rise : (t u : ℕ) → Leads p e t u → p.wave t < p.wave u
  pairs_rise t u l =
      let c = pairs.covers t u l in
      let ft = ap p.wave c.2 in
      let fu = ap p.wave c.3 in
      ⊎_elim
      (λ (x : (p.tile c.0 ≡ p.tile c.1) × (p.position c.0 < p.position c.1)).
      absurd (pairs.apart t u l (sym c.2 ∙ (x.0 ∙ c.3))))
      (λ (x : p.wave (p.tile c.0) < p.wave (p.tile c.1)). omega (arith, x, ft, fu))
      (good_waves p by_waves good c.0 c.1 c.4.before c.4.within (covers_touch p stores c.0 c.1 c.4))
