-- Rows that the eliminations from sources add, sources one behind another.
use Rattle.whole_numbers.proofs.Common.{◌≡◌, ◌∙◌, ℕ, ◌+◌, ◌<◌, ◌≤◌, List, [], ◌∷◌, ◌++◌, length, get_or, drop}
use Rattle.whole_numbers.proofs.Common.{drop-cons, add-one, inl, inr, refl, sym, ap, subst, Bool, true, false}
use Rattle.whole_numbers.proofs.Common.{drop_of_length-le, Result, Ok, Err, if◌then◌else◌, nat_le, count_ones}
use Rattle.whole_numbers.proofs.Common.{All-append, All-head, All-nil, All-tail, append_assoc}
use Rattle.fractions.specs.Elimination.{coefficient_of}
use Rattle.fm_projection.specs.declared.stop.FmStop.{FmStop}
use Rattle.fm_projection.specs.declared.stop.FmStop.TheVariants as fm
use Rattle.fm_projection.specs.Projecting.{Passes, gone}
use Rattle.traced_projections.specs.Tracing.{Row, has_sign, signed}
use Rattle.traced_projections.specs.declared.rows.Sign.{Sign}
use Rattle.traced_projections.specs.Eliminating.{Source, Adds, FirstStops, Halts, PassAll, if_few}
use Rattle.traced_projections.specs.Eliminating.{with_left, with_sources}

-- the element at place k is the next
pub ahead : {X : Type 0} (k : ℕ) (xs : List X) (x : X) → k < length xs → x ≡ get_or xs k x
    → drop k xs ≡ x ∷ drop (k + 1) xs
ahead k xs x inside is = rw (drop-cons xs k x inside, ← is, add-one k) refl

-- the rows that have the sign, where the next one has it or not
module _ (sign : Sign) (i k : ℕ) (rows : List Row) (r : Row) (next : drop k rows ≡ r ∷ drop (k + 1) rows) where
  pub with_sign : (old new all : List Row) → has_sign sign (coefficient_of i r.form) ≡ true → new ≡ old ++ r ∷ []
      → old ++ signed sign i (drop k rows) ≡ all → new ++ signed sign i (drop (k + 1) rows) ≡ all
  with_sign old new all has made so_far =
      let rest = signed sign i (drop (k + 1) rows) in
      let here : signed sign i (drop k rows) ≡ r ∷ rest = rw (next, has) refl in
      ap (λ (rs : List Row). rs ++ rest) made
      ∙ (append_assoc old (r ∷ []) rest ∙ (ap (λ (rs : List Row). old ++ rs) (sym here) ∙ so_far))

  pub without_sign : (old all : List Row) → has_sign sign (coefficient_of i r.form) ≡ false
      → old ++ signed sign i (drop k rows) ≡ all → old ++ signed sign i (drop (k + 1) rows) ≡ all
  without_sign old all lacks so_far =
      let here : signed sign i (drop k rows) ≡ signed sign i (drop (k + 1) rows) = rw (next, lacks) refl in
      ap (λ (rs : List Row). old ++ rs) (sym here) ∙ so_far

joined : (i : ℕ) (xs ys : List Source) (rows : List Row)
    → with_sources i (with_sources i rows xs) ys ≡ with_sources i rows (xs ++ ys)
joined i [] ys rows = refl
joined i (x ∷ xs) ys rows = joined i xs ys (with_left rows (gone i x.system).rows x.history)

-- what stops behind sources that pass stops
behind : (i : ℕ) (xs ys : List Source) (stop : FmStop) → PassAll i xs → FirstStops i ys stop
    → FirstStops i (xs ++ ys) stop
behind i [] ys stop passed h = h
behind i (x ∷ xs) ys stop passed h =
    let P : Source → Type 0 = λ s. Passes i s.system in
    inr (All-head P x xs passed, behind i xs ys stop (All-tail P x xs passed) h)

before : (i : ℕ) (xs ys : List Source) (stop : FmStop) → FirstStops i xs stop → FirstStops i (xs ++ ys) stop
before i [] ys stop h = absurd h
before i (x ∷ xs) ys stop (inl h) = inl h
before i (x ∷ xs) ys stop (inr h) = inr (h.0, before i xs ys stop h.1)

pub halts_so : (P Q : FmStop → Type 0) (stop : FmStop) → (P stop → Q stop) → Halts P stop → Halts Q stop
halts_so P Q (fm.Wide w) f h = f h
halts_so P Q (fm.Crowded pairs) f h = f h
halts_so P Q (fm.Large number) f h = h
halts_so P Q fm.NoMemory f h = tt

-- sources that pass, and others behind them
pub adds_more : (i : ℕ) (xs ys all : List Source) (a b c : List Row) (r : Result (Unit {0}) FmStop)
    → all ≡ xs ++ ys → Adds i xs a b (Ok tt) → Adds i ys b c r → Adds i all a c r
adds_more i xs ys all a b c (Ok v) is first second =
    let P : Source → Type 0 = λ s. Passes i s.system in
    subst (λ ss. PassAll i ss × (c ≡ with_sources i a ss)) (sym is) (
      All-append P xs ys first.0 second.0,
      second.1 ∙ ap (λ rows. with_sources i rows ys) first.1 ∙ joined i xs ys a,
    )
adds_more i xs ys all a b c (Err stop) is first second =
    subst (λ ss. Halts (FirstStops i ss) stop) (sym is)
    (halts_so (FirstStops i ys) (FirstStops i (xs ++ ys)) stop (behind i xs ys stop first.0) second)

-- sources of which one stops
pub adds_stop : (i : ℕ) (xs ys all : List Source) (a b c : List Row) (stop : FmStop) → all ≡ xs ++ ys
    → Adds i xs a b (Err stop) → Adds i all a c (Err stop)
adds_stop i xs ys all a b c stop is h =
    subst (λ ss. Halts (FirstStops i ss) stop) (sym is)
    (halts_so (FirstStops i xs) (FirstStops i (xs ++ ys)) stop (before i xs ys stop) h)

-- what is formed of a row and the next
pub few_first : (most : ℕ) (s : Source) (ss : List Source) → if_few most s ss ≡ if_few most s [] ++ ss
few_first most s ss = by (nat_le (count_ones s.history) most)
  where
    by : (b : Bool) → (if b then s ∷ ss else ss) ≡ (if b then s ∷ [] else []) ++ ss
    by true = refl
    by false = refl

pub adds_none : (i : ℕ) (ss : List Source) (rows : List Row) → ss ≡ [] → Adds i ss rows rows (Ok tt)
adds_none i ss rows none =
    subst (λ xs. Adds i xs rows rows (Ok tt)) (sym none) (All-nil (λ (s : Source). Passes i s.system), refl)

pub ended : {X : Type 0} (k : ℕ) (xs : List X) → length xs ≤ k → drop k xs ≡ []
ended k xs past = drop_of_length-le xs past
