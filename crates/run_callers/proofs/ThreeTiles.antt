-- The plan of three tiles, of which the last waits for both others.
use Rattle.scop_syntax.proofs.Common.{◌≡◌, ℕ, zero, suc, ◌<◌, ◌≤◌, inl, inr, Bool, true, false, [], ◌∷◌, get_or, refl}
use Rattle.scop_syntax.proofs.Common.{sym, subst, arith, nat_lt, take, if◌then◌else◌, some, some-injective, get_elem?}
use Rattle.scop_syntax.proofs.Common.{ltb-false, In}
use Rattle.tile_events.specs.Covers.{ArePairsOf, Covers, Meet}
use Rattle.tile_events.specs.Core.{State, Worker, holding, idle, replay, working}
use Rattle.tile_events.specs.Deal.{tile_at}
use Rattle.tile_events.specs.Example.{both_to_last, counted, counted_first, counted_run, three}
use Rattle.tile_events.specs.Opening.{IsOpening}
use Rattle.tile_events.specs.Plan.{IsDealt, Touch}
use Rattle.tile_events.specs.Releases.{AreCovered, AreEdges, Leads}
use Rattle.tile_events.specs.Sound.{Holds, IsBegun, IsFinished}
use Rattle.run_callers.proofs.SmallPlans.{both_idle, single_dealt}

-- only the last place reads, and only cells 0 and 1
reads_below : (j c : ℕ) → In c (three.read j) → (2 ≤ j) × (c < 2)
reads_below j c i = by_test (nat_lt j 2) refl i
  where
    by_test : (b : Bool) → nat_lt j 2 ≡ b → In c (if b then [] else 0 ∷ 1 ∷ []) → (2 ≤ j) × (c < 2)
    by_test true e i = absurd i
    by_test false e (inl x) = (ltb-false j 2 e, omega (arith, x))
    by_test false e (inr (inl x)) = (ltb-false j 2 e, omega (arith, x))
    by_test false e (inr (inr i)) = absurd i

pub three_dealt : IsDealt three
three_dealt = single_dealt three (λ j l. l) (λ j c l i. let r = (reads_below j c i).1 in omega (arith, r))

pub three_edges : AreEdges 3 both_to_last
three_edges =
    record { first = refl; last = refl; rises = rises; target = λ i l. omega arith; distinct = distinct }
  where
    distinct : (i : ℕ) → suc i < 2 → tile_at both_to_last.start 3 i ≡ tile_at both_to_last.start 3 (suc i) → 2 < 2
    distinct zero l same = let z : 0 ≡ 1 = same in absurd (omega (arith, z))
    distinct (suc i) l same = absurd (omega (arith, l))

    rises : (t : ℕ) → t < 3 → both_to_last.start t ≤ both_to_last.start (suc t)
    rises zero l = omega arith
    rises (suc zero) l = omega arith
    rises (suc (suc zero)) l = omega arith
    rises (suc (suc (suc t))) l = absurd (omega (arith, l))

-- both pairs lead from their own tile to the last
leads : (i : ℕ) → i < 2 → Leads three both_to_last i 2
leads zero l = (0, omega arith, refl, refl)
leads (suc zero) l = (1, omega arith, refl, refl)
leads (suc (suc i)) l = absurd (omega (arith, l))

pub led : (t u : ℕ) → Leads three both_to_last t u → (t < 2) × (2 ≡ u)
led t u (zero, l, from, to) = (omega (arith, from), to)
led t u (suc zero, l, from, to) = (omega (arith, from), to)
led t u (suc (suc i), l, from, to) = absurd (omega (arith, l))

pub three_pairs : ArePairsOf three both_to_last
three_pairs = record {
  apart = λ t u l e. let a = led t u l in let b = a.0 in let c = a.1 in omega (arith, b, c, e);
  covers = λ t u l. (t, u, refl, refl, cover t u l);
  all = λ i j c apart. let a = above i j c in let l = a.0 in
      subst (λ (u : ℕ). Leads three both_to_last i u) (let m = a.1 in omega (arith, m)) (leads i l);
}
  where
    cover : (t u : ℕ) → Leads three both_to_last t u → Covers three t u
    cover t u l =
        let a = led t u l in let b = a.0 in let c = a.1 in record {
          before = omega (arith, b, c);
          within = omega (arith, c);
          cell = t;
          free = λ k m n e. omega (arith, m, e);
          meet = inl (refl, inr (subst (λ (v : ℕ). In t (three.read v)) c (first t b)));
        }
      where
        first : (t : ℕ) → t < 2 → In t (0 ∷ 1 ∷ [])
        first zero l = inl refl
        first (suc zero) l = inr (inl refl)
        first (suc (suc t)) l = absurd (omega (arith, l))

    above : (i j : ℕ) → Covers three i j → (i < 2) × (j ≡ 2)
    above i j c = by_kind c.meet
      where
        by_kind : Meet three i j c.cell → (i < 2) × (j ≡ 2)
        by_kind (inl (w, inl v)) = let l = c.before in absurd (omega (arith, w, v, l))
        by_kind (inl (w, inr r)) = let a = reads_below j c.cell r in let b = a.0 in let d = a.1 in let l = c.within in
            (omega (arith, w, d), omega (arith, b, l))
        by_kind (inr (w, r)) = let a = (reads_below i c.cell r).0 in let l = c.before in let m = c.within in
            absurd (omega (arith, a, l, m))

-- so they join what touches
pub three_covered : AreCovered three both_to_last
three_covered i j before less touch = ([], inr (by_kind touch))
  where
    by_kind : Touch three i j → Leads three both_to_last i j
    by_kind (inl x) = let same = x.0 in absurd (omega (arith, before, same))
    by_kind (inr (inl h)) =
        let a = reads_below j i h in
        let b = a.0 in
        let last : 2 ≡ j = omega (arith, b, less) in subst (λ (u : ℕ). Leads three both_to_last i u) last (leads i a.1)
    by_kind (inr (inr h)) = let a = (reads_below i j h).0 in absurd (omega (arith, a, before, less))

pub counted_opening : IsOpening counted counted_first
counted_opening = record { claims = refl; finished = refl; idle = both_idle; wide = refl; cells = cells }
  where
    cells : (c : ℕ) → c < 6 → get_or counted_first.cells c 0 ≡ counted.initial c
    cells zero l = refl
    cells (suc zero) l = refl
    cells (suc (suc zero)) l = refl
    cells (suc (suc (suc zero))) l = refl
    cells (suc (suc (suc (suc zero)))) l = refl
    cells (suc (suc (suc (suc (suc zero))))) l = refl
    cells (suc (suc (suc (suc (suc (suc c)))))) l = absurd (omega (arith, l))

-- after the first 15 events of the run worker 1 works in the last tile, and the others are finished
abbrev pub opened : State
opened = replay counted counted_first (take 15 counted_run)

pub last_begun : IsBegun opened 2
last_begun = record { claimed = omega arith; awake = awake }
  where
    awake : (id : ℕ) → get_elem? opened.workers id ≡ some (holding 2) → ⊥
    awake zero e = absurd cc
    awake (suc zero) e = absurd cc
    awake (suc (suc id)) e = absurd cc

pub others_finished : (t : ℕ) → t < 2 → IsFinished opened t
others_finished t l = record { claimed = omega (arith, l); free = free }
  where
    free : (id : ℕ) (w : Worker) → get_elem? opened.workers id ≡ some w → Holds w t → ⊥
    free zero w e h = subst (λ v. Holds v t) (sym (some-injective idle w e)) h
    free (suc zero) w e h =
        let same : 2 ≡ t = subst (λ v. Holds v t) (sym (some-injective (working 2 0 []) w e)) h in
        omega (arith, same, l)
    free (suc (suc id)) w e h = absurd cc
