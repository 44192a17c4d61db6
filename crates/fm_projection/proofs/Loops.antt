-- What a loop over forms keeps, form by form: those that pass a test, how many, where the first stands, and runs over
-- them.
use Rattle.whole_numbers.proofs.Common.{◌≡◌, ℕ, zero, suc, ◌+◌, ◌<◌, ◌≤◌, ℤ, pos, negsuc, ◌<ℤ◌, ◌≤ℤ◌, Bool, true, false}
use Rattle.whole_numbers.proofs.Common.{List, [], ◌∷◌, ◌++◌, length, get_or, drop, drop-cons, refl, sym, ◌∙◌, ap}
use Rattle.whole_numbers.proofs.Common.{append_assoc, add-one, arith, map, Result, Ok, Err, ints, Affine}
use Rattle.std.proofs.lemmas.List.{append-nil}
use Rattle.whole_numbers.specs.Content.{lowest_of_form}
use Rattle.fractions.specs.Elimination.{coefficient_of, is_zero, is_not_zero, is_positive, is_negative, chosen}
use Rattle.wide_math.specs.declared.Wide.{Wide}
use Rattle.wide_math.specs.Checked.{◌>>=◌}
use Rattle.affine_forms.specs.declared.stop.FormStop.{FormStop}
use Rattle.affine_forms.specs.declared.stop.FormStop.TheVariants as stop
use Rattle.affine_forms.specs.Gives.{Fails}
use Rattle.fm_projection.proofs.JoinedLists.{chain-stop}
use Rattle.fm_projection.specs.Runs.{behind, forms_run, pair_run, pairs_run, place_of, single}

-- the tests by the order of whole numbers
pub negative : (z : ℤ) → z <ℤ pos 0 → is_negative z ≡ true
negative (pos n) h = absurd (omega (arith, ints))
negative (negsuc n) h = refl

pub not_negative : (z : ℤ) → pos 0 ≤ℤ z → is_negative z ≡ false
not_negative (pos n) h = refl
not_negative (negsuc n) h = absurd (omega (arith, ints))

pub positive : (z : ℤ) → pos 0 <ℤ z → is_positive z ≡ true
positive (pos zero) h = absurd (omega (arith, ints))
positive (pos (suc n)) h = refl
positive (negsuc n) h = absurd (omega (arith, ints))

pub not_positive : (z : ℤ) → z ≤ℤ pos 0 → is_positive z ≡ false
not_positive (pos zero) h = refl
not_positive (pos (suc n)) h = absurd (omega (arith, ints))
not_positive (negsuc n) h = refl

pub zero_is : (z : ℤ) → z ≡ pos 0 → is_zero z ≡ true
zero_is z h = rw h refl

pub zero_not : (z : ℤ) → (z ≡ pos 0 → ⊥) → is_zero z ≡ false
zero_not (pos zero) h = absurd (h refl)
zero_not (pos (suc n)) h = refl
zero_not (negsuc n) h = refl

pub not_zero : (z : ℤ) → (z ≡ pos 0 → ⊥) → is_not_zero z ≡ true
not_zero (pos zero) h = absurd (h refl)
not_zero (pos (suc n)) h = refl
not_zero (negsuc n) h = refl

pub not_not_zero : (z : ℤ) → z ≡ pos 0 → is_not_zero z ≡ false
not_not_zero z h = rw h refl

-- the form at place k is the next
pub ahead : (k : ℕ) (fs : List Affine) (f : Affine) → k < length fs → f ≡ get_or fs k f
    → drop k fs ≡ f ∷ drop (k + 1) fs
ahead k fs f inside is = rw (drop-cons fs k f inside, ← is, add-one k) refl

-- the forms from place k on that pass a test, where the next one passes it or not
module _ (test : ℤ → Bool) (i k : ℕ) (fs : List Affine) (f : Affine) (a : ℤ) (inside : k < length fs)
    (is : f ≡ get_or fs k f) (coefficient : a ≡ coefficient_of i f) where
  pub passes : test a ≡ true → chosen test i (drop k fs) ≡ f ∷ chosen test i (drop (k + 1) fs)
  passes held = let h = rw coefficient at held in rw (ahead k fs f inside is, h) refl

  pub stays : test a ≡ false → chosen test i (drop k fs) ≡ chosen test i (drop (k + 1) fs)
  stays failed = let h = rw coefficient at failed in rw (ahead k fs f inside is, h) refl

  -- one form more is counted
  pub counts : (n all : ℕ) → test a ≡ true → (n + length (chosen test i (drop k fs)) ≡ all) × (n ≤ k)
      → (n + 1 + length (chosen test i (drop (k + 1) fs)) ≡ all) × (n + 1 ≤ k + 1)
  counts n all held h = let e = rw (passes held) at h.0 in (omega (arith, e), omega arith)

  pub skips : (n all : ℕ) → test a ≡ false → (n + length (chosen test i (drop k fs)) ≡ all) × (n ≤ k)
      → (n + length (chosen test i (drop (k + 1) fs)) ≡ all) × (n ≤ k + 1)
  skips n all failed h = let e = rw (stays failed) at h.0 in (omega (arith, e), omega arith)

-- the place of the first form with the variable, where the next form has it or not
module _ (i k : ℕ) (fs : List Affine) (f : Affine) (a : ℤ) (inside : k < length fs)
    (is : f ≡ get_or fs k f) (coefficient : a ≡ coefficient_of i f) (place : ℕ)
    (so_far : k + place_of i (drop k fs) ≡ place) where
  pub passed : is_zero a ≡ true → k + 1 + place_of i (drop (k + 1) fs) ≡ place
  passed free =
      let h = rw coefficient at free in
      let e = rw (ahead k fs f inside is, h) at so_far in
      omega (arith, e)

  pub found : is_zero a ≡ false → k ≡ place
  found other =
      let h = rw coefficient at other in
      let e = rw (ahead k fs f inside is, h) at so_far in
      omega (arith, e)

-- one form more of a run
pub gained : (step : Affine → Result Affine Wide) (out new : List Affine) (f : Affine) (fs : List Affine)
    → behind out (single (step f)) ≡ Ok new → behind out (forms_run step (f ∷ fs)) ≡ behind new (forms_run step fs)
gained step out new f fs h = made (step f) (forms_run step fs) h
  where
    made : (r : Result Affine Wide) (rest : Result (List Affine) Wide) → behind out (single r) ≡ Ok new
        → behind out (r >>= λ g. rest >>= λ gs. Ok (g ∷ gs)) ≡ behind new rest
    made (Err w) rest k = cc
    made (Ok g) (Err w) k = refl
    made (Ok g) (Ok gs) k = let e : out ++ g ∷ [] ≡ new = cc in rw (← e, append_assoc out (g ∷ []) gs) refl

-- the pairs of one row more
pub paired : (i : ℕ) (out new : List Affine) (p : Affine) (ps ns : List Affine)
    → behind out (forms_run (pair_run i p) ns) ≡ Ok new → behind out (pairs_run i (p ∷ ps) ns)
    ≡ behind new (pairs_run i ps ns)
paired i out new p ps ns h = made (forms_run (pair_run i p) ns) (pairs_run i ps ns) h
  where
    made : (r rest : Result (List Affine) Wide) → behind out r ≡ Ok new
        → behind out (r >>= λ fs. rest >>= λ gs. Ok (fs ++ gs)) ≡ behind new rest
    made (Err w) rest k = cc
    made (Ok fs) (Err w) k = refl
    made (Ok fs) (Ok gs) k = let e : out ++ fs ≡ new = cc in rw (← e, append_assoc out fs gs) refl

-- one form more in lowest terms
pub lowered : (out new : List Affine) (f : Affine) (fs : List Affine) → new ≡ out ++ lowest_of_form f ∷ []
    → new ++ map lowest_of_form fs ≡ out ++ map lowest_of_form (f ∷ fs)
lowered out new f fs h = rw h (append_assoc out (lowest_of_form f ∷ []) (map lowest_of_form fs))

-- a loop's run stops where its rest does
pub stops : (old out : List Affine) (all rest : Result (List Affine) Wide) (stop : FormStop)
    → behind out rest ≡ behind old all → Fails stop rest → Fails stop all
stops old out all rest stop.NoMemory same h = tt
stops old out (Ok fs) (Err v) (stop.Wide w) same h = cc
stops old out (Err u) (Err v) (stop.Wide w) same h = cc
stops old out all (Ok fs) (stop.Wide w) same h = cc

pub first_stops : (step : Affine → Result Affine Wide) (f : Affine) (fs : List Affine) (stop : FormStop)
    → Fails stop (single (step f)) → Fails stop (forms_run step (f ∷ fs))
first_stops step f fs stop.NoMemory h = tt
first_stops step f fs (stop.Wide w) h = made (step f) h
  where
    made : (r : Result Affine Wide) → single r ≡ Err w → (r >>= λ g. forms_run step fs >>= λ gs. Ok (g ∷ gs)) ≡ Err w
    made (Ok g) k = cc
    made (Err v) k = k

pub pairs_stop : (i : ℕ) (p : Affine) (ps ns : List Affine) (stop : FormStop)
    → Fails stop (forms_run (pair_run i p) ns) → Fails stop (pairs_run i (p ∷ ps) ns)
pairs_stop i p ps ns stop h = chain-stop stop (forms_run (pair_run i p) ns)
    (λ fs. pairs_run i ps ns >>= λ gs. Ok (fs ++ gs)) h

-- where no form is left, what was appended is all
pub ends : (out : List Affine) (all : Result (List Affine) Wide) → behind out (Ok []) ≡ all → all ≡ Ok out
ends out all h = sym h ∙ ap Ok (append-nil out)
