-- Where a run of tests stops at a number that is too wide.
use Rattle.std.proofs.Common.{◌≡◌, Bool, true, false, ℤ, List, [], ◌∷◌, ◌++◌, refl, ap, ◌∙◌, ◌⊎◌, inl, inr, ◌↔◌, Result}
use Rattle.std.proofs.Common.{Ok, Err, if◌then◌else◌}
use Rattle.affine_forms.specs.Affine.{Affine}
use Rattle.affine_forms.specs.Wide.{Wide}
use Rattle.affine_forms.specs.Checked.{◌>>=◌}
use Rattle.affine_forms.proofs.CheckedSteps.{chain-ok, chain-err}
use Rattle.affine_forms.specs.Runs.{value_run}
use Rattle.integer_sets.specs.Constraints.{Constraints}
use Rattle.integer_sets.specs.Runs.{is_zero, is_not_negative, each_run, holds_run}
use Rattle.integer_sets.specs.Stops.{Pass, StopsAmong, StopsAt}

-- one form that passes in front
further : (test : ℤ → Bool) (f : Affine) (fs : List Affine) (point : List ℤ) (w : Wide) (v : ℤ)
    → value_run f point ≡ Ok v
    → test v ≡ true → StopsAmong test fs point w → StopsAmong test (f ∷ fs) point w
further test f fs point w v run passes s = record {
  front = f ∷ s.front;
  form = s.form;
  back = s.back;
  split = ap (λ (gs : List Affine). f ∷ gs) s.split;
  before = ap (λ r. r >>= λ (z : ℤ). if test z then each_run test s.front point else Ok false) run
      ∙ ap (λ b. if b then each_run test s.front point else Ok false) passes ∙ s.before;
  here = s.here;
}

pub each_run-stops : (test : ℤ → Bool) (fs : List Affine) (point : List ℤ) (w : Wide)
    → each_run test fs point ≡ Err w
    → StopsAmong test fs point w
each_run-stops test [] point w h = absurd cc
each_run-stops test (f ∷ fs) point w h =
    by_first (chain-err (value_run f point) (λ v. if test v then each_run test fs point else Ok false) w h)
    (λ e. each_run-stops test fs point w e)
  where
    by_test : (b : Bool) (v : ℤ) → test v ≡ b → value_run f point ≡ Ok v
        → (if b then each_run test fs point else Ok false) ≡ Err w
        → (each_run test fs point ≡ Err w → StopsAmong test fs point w) → StopsAmong test (f ∷ fs) point w
    by_test true v e run h more = further test f fs point w v run e (more h)
    by_test false v e run h more = absurd cc

    by_first : (value_run f point ≡ Err w) ⊎ ((v : ℤ) × (value_run f point ≡ Ok v)
        × ((if test v then each_run test fs point else Ok false) ≡ Err w))
        → (each_run test fs point ≡ Err w → StopsAmong test fs point w) → StopsAmong test (f ∷ fs) point w
    by_first (inl e) more = record { front = []; form = f; back = fs; split = refl; before = refl; here = e }
    by_first (inr h) more = by_test (test h.0) h.0 refl h.1 h.2 more

-- a run whose front passes goes on behind it
passed_front : (test : ℤ → Bool) (front back : List Affine) (point : List ℤ) → Pass test front point
    → each_run test (front ++ back) point ≡ each_run test back point
passed_front test [] back point h = refl
passed_front test (f ∷ front) back point h =
    let c = chain-ok (value_run f point) (λ v. if test v then each_run test front point else Ok false) true h in
    ap (λ r. r >>= λ (z : ℤ). if test z then each_run test (front ++ back) point else Ok false) c.1
    ∙ by_test (test c.0) c.2 (λ e. passed_front test front back point e)
  where
    by_test : (b : Bool) → (if b then each_run test front point else Ok false) ≡ Ok true
        → (each_run test front point ≡ Ok true → each_run test (front ++ back) point ≡ each_run test back point)
        → (if b then each_run test (front ++ back) point else Ok false) ≡ each_run test back point
    by_test true h more = more h
    by_test false h more = absurd cc

pub stops-each_run : (test : ℤ → Bool) (fs : List Affine) (point : List ℤ) (w : Wide) → StopsAmong test fs point w
    → each_run test fs point ≡ Err w
stops-each_run test fs point w s =
    ap (λ (gs : List Affine). each_run test gs point) s.split
    ∙ passed_front test s.front (s.form ∷ s.back) point s.before
    ∙ ap (λ r. r >>= λ (z : ℤ). if test z then each_run test s.back point else Ok false) s.here

-- the equalities, then the rows
pub holds_run-stops : (s : Constraints) (point : List ℤ) (w : Wide)
    → (holds_run s point ≡ Err w) ↔ StopsAt s point w
holds_run-stops s point w = (shown, kept)
  where
    rest : Bool → Result Bool Wide
    rest equal = if equal then each_run is_not_negative s.rows point else Ok false

    by_equal : (b : Bool) → each_run is_zero s.equalities point ≡ Ok b → rest b ≡ Err w → StopsAt s point w
    by_equal true e h = inr (e, each_run-stops is_not_negative s.rows point w h)
    by_equal false e h = absurd cc

    by_first : (each_run is_zero s.equalities point ≡ Err w)
        ⊎ ((b : Bool) × (each_run is_zero s.equalities point ≡ Ok b) × (rest b ≡ Err w)) → StopsAt s point w
    by_first (inl e) = inl (each_run-stops is_zero s.equalities point w e)
    by_first (inr h) = by_equal h.0 h.1 h.2

    shown : holds_run s point ≡ Err w → StopsAt s point w
    shown h = by_first (chain-err (each_run is_zero s.equalities point) rest w h)

    kept : StopsAt s point w → holds_run s point ≡ Err w
    kept (inl e) = ap (λ r. r >>= rest) (stops-each_run is_zero s.equalities point w e)
    kept (inr h) = ap (λ r. r >>= rest) h.0 ∙ stops-each_run is_not_negative s.rows point w h.1
