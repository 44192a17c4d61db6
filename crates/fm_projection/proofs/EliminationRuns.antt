-- Eliminations one after another, each of which passes or stops.
use Rattle.whole_numbers.proofs.Common.{◌≡◌, ℕ, zero, suc, ◌+◌, ◌-◌, ◌<◌, inl, inr, ◌∙◌, ap, subst, arith, Ok, Err}
use Rattle.whole_numbers.proofs.Common.{cases_lt}
use Rattle.integer_sets.specs.Constraints.{Constraints}
use Rattle.fm_projection.specs.declared.stop.FmStop.{FmStop}
use Rattle.fm_projection.specs.declared.stop.FmStop.TheVariants as fm
use Rattle.fm_projection.specs.Gives.{Eliminates}
use Rattle.fm_projection.specs.Projecting.{Drops, Passes, gone, all_gone}
use Rattle.fm_projection.specs.Alone.{AllPass, Going}

-- what holds of the first n numbers and of n holds of the first n + 1
one_more_below : (P : ℕ → Type 0) (n : ℕ) → ((k : ℕ) → k < n → P k) → P n → (k : ℕ) → k < suc n → P k
one_more_below P n all last k less = elim (cases_lt k n) [
  | inl small ↦ all k small
  | inr past ↦ subst P (let e : n ≡ k = omega (arith, less, past) in e) last
]

-- one more elimination at a place
pub gone_more : (i n : ℕ) (s t u : Constraints) → AllPass i n s → t ≡ all_gone i n s → Drops i t (Ok u)
    → AllPass i (n + 1) s × (u ≡ all_gone i (n + 1) s)
gone_more i n s t u passed is step =
    let one : suc n ≡ n + 1 = omega arith in (
      subst (λ k. AllPass i k s) one
          (one_more_below (λ k. Passes i (all_gone i k s)) n passed (subst (Passes i) is step.0)),
      step.1 ∙ ap (λ w. gone i w) is ∙ ap (λ k. all_gone i k s) one,
    )

pub stops_going : (i n k : ℕ) (s t : Constraints) (stop : FmStop) → k < n → AllPass i k s → t ≡ all_gone i k s
    → Eliminates i t (Err stop)
    → Going i n s (Err stop)
stops_going i n k s t stop less passed is stops = by_stop stop (subst (λ w. Eliminates i w (Err stop)) is stops)
  where
    by_stop : (e : FmStop) → Eliminates i (all_gone i k s) (Err e) → Going i n s (Err e)
    by_stop (fm.Wide w) h = record { before = k; less = less; passed = passed; stops = h }
    by_stop (fm.Crowded w) h = record { before = k; less = less; passed = passed; stops = h }
    by_stop (fm.Large w) h = h
    by_stop fm.NoMemory h = tt

pub gone_dimensions : (i n : ℕ) (s : Constraints) → (all_gone i n s).dimensions ≡ s.dimensions - n
gone_dimensions i zero s = omega arith
gone_dimensions i (suc n) s = let more = gone_dimensions i n s in omega (arith, more)
