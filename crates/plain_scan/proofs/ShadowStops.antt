-- Why the shadows of a set are not found: the first elimination that stops.
use Rattle.scop_syntax.proofs.Common.{◌≡◌, ◌∙◌, ℕ, zero, suc, ◌+◌, ◌-◌, ◌<◌, ℤ, List, inl, inr, refl, ap, subst, sym}
use Rattle.scop_syntax.proofs.Common.{arith, ◌⊎◌, Ok, Err, cases_lt, In}
use Rattle.integer_sets.specs.Constraints.{Constraints, IsSized, variables_in}
use Rattle.integer_sets.specs.Scanned.{Scanned}
use Rattle.fm_projection.specs.declared.stop.FmStop.{FmStop}
use Rattle.fm_projection.specs.declared.stop.FmStop.TheVariants as fm
use Rattle.fm_projection.specs.Projecting.{projected}
use Rattle.traced_projections.specs.declared.projections.Projection.{Projection}
use Rattle.traced_projections.specs.declared.projections.Projection.TheVariants as projection
use Rattle.traced_projections.specs.Eliminating.{Halts}
use Rattle.traced_projections.specs.Projections.{PassesAlone, PassesOf, StopsAloneOf, StopsOf, alone_of, system_in}
use Rattle.traced_projections.specs.Projections.{without_of}
use Rattle.traced_projections.proofs.Runs.{follow_of}
use Rattle.plain_scan.specs.Between.{IsLargeOf}
use Rattle.plain_scan.specs.steps.Shadows.{IsShadow, IsNext, IsOpenSomewhere, StopsShadow}
use Rattle.plain_scan.specs.Outlines.{IsLargeOwn, IsOpen, IsOpenFrom, PassEachAlone}
use Rattle.plain_scan.specs.Outlines.{PassProjecting, StopsAt, StopsBy, StopsSet}
use Rattle.plain_scan.specs.Outlines.{projection_at}
use Rattle.plain_scan.specs.Scanning.{StopsScan}
use Rattle.plain_scan.proofs.AppendedRows.{projection_shape}
use Rattle.plain_scan.proofs.Shadows.{shadow_less}

-- what holds of the first n numbers and of n holds of the first n + 1
one_more_below : (P : ℕ → Type 0) (n : ℕ) → ((k : ℕ) → k < n → P k) → P n → (k : ℕ) → k < suc n → P k
one_more_below P n all last k less = elim (cases_lt k n) [
  | inl small ↦ all k small
  | inr past ↦ subst P (let e : n ≡ k = omega (arith, less, past) in e) last
]

alone_more : (p t : Projection) (n m : ℕ) → t ≡ projection_at n p → m ≡ n + 1 → PassEachAlone n p → PassesAlone t
    → PassEachAlone m p
alone_more p t n m is one all last =
    subst (λ k. PassEachAlone k p) (let e : suc n ≡ m = omega (arith, one) in e)
    (one_more_below (λ k. PassesAlone (projection_at k p)) n all (subst PassesAlone is last))

-- n projections are found, the last of which is t; t is the first where there is none yet
pub record AreFound (p t : Projection) (n : ℕ) : Type 0 where
  pub is : t ≡ projection_at (n - 1) p
  pub passed : PassProjecting (n - 1) p
  pub alone : PassEachAlone n p

-- the projection behind n others is t, and theirs are found
pub record IsReached (p t : Projection) (n : ℕ) : Type 0 where
  pub is : t ≡ projection_at n p
  pub passed : PassProjecting n p
  pub alone : PassEachAlone n p

pub none_found : (p : Projection) (n : ℕ) → n ≡ 0 → AreFound p p n
none_found p n none =
    let e : 0 ≡ n - 1 = omega (arith, none) in
    record {
      is = ap (λ k. projection_at k p) e;
      passed = λ k less. absurd (omega (arith, less, none));
      alone = λ k less. absurd (omega (arith, less, none));
    }

at : (p t : Projection) (n : ℕ) (stop : FmStop) → IsReached p t n → n < (system_in p).dimensions
    → StopsAloneOf t stop ⊎ ((suc n < (system_in p).dimensions) × PassesAlone t
    × StopsOf ((system_in p).dimensions - suc n) t stop)
    → StopsAt p stop
at p t n stop found less h =
    record {
      before = n;
      less = less;
      passed = found.passed;
      alone = found.alone;
      stops = subst (λ w. StopsAloneOf w stop
          ⊎ ((suc n < (system_in p).dimensions) × PassesAlone w × StopsOf ((system_in p).dimensions - suc n) w stop))
          found.is h;
    }

-- the eliminations that leave a dimension alone pass or stop, or its numbers give no shadow
pub alone_halts : (p : Projection) (stop : FmStop) → Halts (StopsAloneOf p) stop → StopsShadow p stop
alone_halts p (fm.Wide w) h = h
alone_halts p (fm.Crowded pairs) h = h
alone_halts p (fm.Large number) h = absurd h
alone_halts p fm.NoMemory h = tt

-- the shadow of a projection is not found
pub shadow_stops : (s : Constraints) (p t : Projection) (n : ℕ) (stop : FmStop) → IsReached p t n
    → n < (system_in p).dimensions → StopsShadow t stop → StopsBy s p stop
shadow_stops s p t n (fm.Wide w) found less h = at p t n (fm.Wide w) found less (inl h)
shadow_stops s p t n (fm.Crowded pairs) found less h = at p t n (fm.Crowded pairs) found less (inl h)
shadow_stops s p t n (fm.Large number) found less h =
    let there = subst (λ w. PassesAlone w × IsLargeOf (alone_of w) number) found.is h in
    inl (record {
      before = n;
      less = less;
      passed = found.passed;
      alone = found.alone;
      last = there.0;
      large = there.1;
    })
shadow_stops s p t n fm.NoMemory found less h = tt

-- the projection that is left, where some are found
left_behind : (p t : Projection) (n : ℕ) → AreFound p t (suc n) → (t ≡ projection_at n p) × PassProjecting n p
    × ((system_in t).dimensions - 1 ≡ (system_in p).dimensions - suc n)
left_behind p t n found =
    let e : suc n - 1 ≡ n = omega arith in
    let is = found.is ∙ ap (λ k. projection_at k p) e in
    let d = ap (λ (w : Projection). (system_in w).dimensions) is ∙ (projection_shape n p).0 in
    (is, subst (λ k. PassProjecting k p) e found.passed, omega (arith, d))

-- the next projection is not found
pub next_stops : (s : Constraints) (p t : Projection) (n : ℕ) (stop : FmStop) → AreFound p t n
    → n < (system_in p).dimensions → IsNext n t (Err stop) → StopsBy s p stop
next_stops s p t zero stop found less h = cc
next_stops s p t (suc n) stop found less h =
    by_stop stop (subst (λ k. Halts (StopsOf k t) stop) (left_behind p t n found).2 h)
  where
    stops_at : (e : FmStop) → StopsOf ((system_in p).dimensions - suc n) t e → StopsAt p e
    stops_at e k =
        let left = left_behind p t n found in
        let here : IsReached p t n = record {
          is = left.0;
          passed = left.1;
          alone = λ j small. found.alone j (omega (arith, small));
        } in
        let last = subst PassesAlone (sym left.0) (found.alone n (omega arith)) in
        at p t n e here (omega (arith, less)) (inr (less, last, k))

    by_stop : (e : FmStop) → Halts (StopsOf ((system_in p).dimensions - suc n) t) e → StopsBy s p e
    by_stop (fm.Wide w) k = stops_at (fm.Wide w) k
    by_stop (fm.Crowded pairs) k = stops_at (fm.Crowded pairs) k
    by_stop (fm.Large number) k = absurd k
    by_stop fm.NoMemory k = tt

-- the next projection
pub next_reached : (p t u : Projection) (n : ℕ) → AreFound p t n → IsNext n t (Ok u) → IsReached p u n
next_reached p t u zero found h =
    let none : 0 - 1 ≡ 0 = omega arith in
    let e : u ≡ t = cc in
    record {
      is = e ∙ found.is ∙ ap (λ k. projection_at k p) none;
      passed = λ k less. absurd (omega (arith, less));
      alone = found.alone;
    }
next_reached p t u (suc n) found h =
    let left = left_behind p t n found in
    let place = left.2 in
    let d = (system_in p).dimensions in
    record {
      is = h.1 ∙ ap (λ k. without_of k t) place ∙ ap (λ w. without_of (d - suc n) w) left.0;
      passed = one_more_below (λ k. PassesOf (d - suc k) (projection_at k p)) n left.1
          (subst (λ w. PassesOf (d - suc n) w) left.0 (subst (λ k. PassesOf k t) place h.0));
      alone = found.alone;
    }

-- has the first values of each key
pub next_shadow : (s : Scanned) (p t u : Projection) (n m : ℕ) → system_in p ≡ s.system → AreFound p t n
    → IsNext n t (Ok u) → m + n ≡ s.system.dimensions
    → ((k : ℕ) → k + (n - 1) ≡ s.system.dimensions → IsShadow k s (system_in t)) → IsShadow m s (system_in u)
next_shadow s p t u zero m same found h count shadow =
    let e : t ≡ u = cc in subst (λ w. IsShadow m s (system_in w)) e (shadow m (omega (arith, count)))
next_shadow s p t u (suc n) m same found h count shadow =
    let left = left_behind p t n found in
    let d = ap (λ (w : Constraints). w.dimensions) same in
    let place : (system_in t).dimensions - 1 ≡ m = let e = left.2 in omega (arith, e, d, count) in
    let more = shadow (suc m) (omega (arith, count)) in
    subst (λ w. IsShadow m s (system_in w)) (sym (h.1 ∙ ap (λ k. without_of k t) place))
    (shadow_less m s (system_in t) (system_in (without_of m t)) (omega (arith, count)) more (follow_of m t))

-- one projection more is found
pub one_found : (p t : Projection) (n m : ℕ) → IsReached p t n → PassesAlone t → m ≡ n + 1 → AreFound p t m
one_found p t n m here last one =
    let e : n ≡ m - 1 = omega (arith, one) in
    record {
      is = here.is ∙ ap (λ k. projection_at k p) e;
      passed = subst (λ k. PassProjecting k p) e here.passed;
      alone = alone_more p t n m here.is one here.alone last;
    }

-- all are found, and a number of the set's own is too large
pub own_stops : (s : Constraints) (p t : Projection) (n : ℕ) (number : ℤ) → AreFound p t n → n ≡ s.dimensions
    → IsLargeOf s number → IsLargeOwn s p number
own_stops s p t n number found all large =
    record {
      passed = subst (λ k. PassProjecting (k - 1) p) all found.passed;
      alone = subst (λ k. PassEachAlone k p) all found.alone;
      large = large;
    }

-- exact projections that are open
exact_at : (n : ℕ) (s : Constraints) → projection_at n (projection.Exact s) ≡ projection.Exact (projected n s)
exact_at zero s = refl
exact_at (suc n) s = ap (λ w. without_of (s.dimensions - suc n) w) (exact_at n s)

pub exact_open : (s : Constraints) → IsSized (variables_in s) s.equalities s.rows → IsOpenFrom (projection.Exact s)
    → IsOpenSomewhere s
exact_open s sized o = record {
  sized = sized;
  before = o.before;
  less = o.less;
  there = subst (λ w. IsOpen (alone_of w)) (exact_at o.before s) o.there;
}

-- one of the sets stops
pub scan_stops : (sets : List Scanned) (s : Scanned) (stop : FmStop) → In s sets → StopsSet s.system stop
    → StopsScan sets stop
scan_stops sets s (fm.Wide w) inside h = (s, inside, h)
scan_stops sets s (fm.Crowded pairs) inside h = (s, inside, h)
scan_stops sets s (fm.Large number) inside h = (s, inside, h)
scan_stops sets s fm.NoMemory inside h = tt
