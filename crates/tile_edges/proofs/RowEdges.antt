-- Rows that rise, one behind another, are edges, and tell which pairs there are.
use Rattle.scop_syntax.proofs.Common.{◌≡◌, ◌<◌, ◌≤◌, ◌+◌, ◌-◌, ℕ, zero, suc, List, [], ◌∷◌, ◌++◌, ap, sym, refl, ◌∙◌}
use Rattle.scop_syntax.proofs.Common.{subst, arith, length, get_or, ◌⊎◌, inl, inr, get_or_append_left, slice_get_within}
use Rattle.scop_syntax.proofs.Common.{get_or_from_slice_get, In, Sorted, in_at, nat_cases, place_of}
use Rattle.std.proofs.Math.ListN.{get_or-eq_default}
use Rattle.std.proofs.Math.Seq.{get_or-append_right as append_right}
use Rattle.std.proofs.lemmas.List.{length-append}
use Rattle.tile_events.specs.Deal.{tile_at}
use Rattle.tile_events.specs.Releases.{AreEdges, Edges}
use Rattle.tile_events.proofs.Deals.{rises, tile_at_is, tile_at_one}
use Rattle.tile_edges.specs.Edges.{LeadsOf}
use Rattle.tile_edges.specs.steps.Gains.{AreRising}
use Rattle.tile_edges.specs.steps.Rows.{joined, starts_from}

-- where rows begin
first_start : (k : ℕ) (rows : List (List ℕ)) → get_or (starts_from k rows) 0 0 ≡ k
first_start k [] = refl
first_start k (row ∷ rows) = refl

next_start : (k : ℕ) (rows : List (List ℕ)) (t : ℕ) → t < length rows
    → get_or (starts_from k rows) (suc t) 0 ≡ get_or (starts_from k rows) t 0 + length (get_or rows t [])
next_start k [] t less = absurd (omega (arith, less))
next_start k (row ∷ rows) zero less = first_start (k + length row) rows
next_start k (row ∷ rows) (suc t) less = next_start (k + length row) rows t (omega (arith, less))

last_start : (k : ℕ) (rows : List (List ℕ)) → get_or (starts_from k rows) (length rows) 0 ≡ k + length (joined rows)
last_start k [] = omega arith
last_start k (row ∷ rows) =
    let r = last_start (k + length row) rows in
    let l = length-append row (joined rows) in
    omega (arith, r, l)

behind_start : (k : ℕ) (rows : List (List ℕ)) (t : ℕ) → t < length rows → k ≤ get_or (starts_from k rows) t 0
behind_start k [] t less = absurd (omega (arith, less))
behind_start k (row ∷ rows) zero less = omega arith
behind_start k (row ∷ rows) (suc t) less =
    let r = behind_start (k + length row) rows t (omega (arith, less)) in omega (arith, r)

pub many_starts : (k : ℕ) (rows : List (List ℕ)) → length (starts_from k rows) ≡ suc (length rows)
many_starts k [] = refl
many_starts k (row ∷ rows) = let r = many_starts (k + length row) rows in omega (arith, r)

-- what stands there
at_row : (k : ℕ) (rows : List (List ℕ)) (t j i : ℕ) → i + k ≡ get_or (starts_from k rows) t 0 + j → t < length rows
    → j < length (get_or rows t []) → get_or (joined rows) i 0 ≡ get_or (get_or rows t []) j 0
at_row k [] t j i e less inside = absurd (omega (arith, less))
at_row k (row ∷ rows) zero j i e less inside =
    let same : i ≡ j = omega (arith, e) in
    ap (λ (n : ℕ). get_or (row ++ joined rows) n 0) same ∙ get_or_append_left row (joined rows) 0 j inside
at_row k (row ∷ rows) (suc t) j i e less inside =
    let b = behind_start (k + length row) rows t (omega (arith, less)) in
    append_right row (joined rows) i 0 (omega (arith, b, e))
    ∙ at_row (k + length row) rows t j (i - length row) (omega (arith, b, e)) (omega (arith, less)) inside

rising_at : (xs : List ℕ) (j : ℕ) → Sorted (λ a b. a < b) xs → suc j < length xs → get_or xs j 0 < get_or xs (suc j) 0
rising_at [] j s less = absurd (omega (arith, less))
rising_at (x ∷ xs) zero s less = s.0 (get_or xs 0 0) (in_at xs 0 0 (omega (arith, less)))
rising_at (x ∷ xs) (suc j) s less = rising_at xs j s.1 (omega (arith, less))

module _ (rows : List (List ℕ)) where
  -- the edges of rows
  abbrev pub edges_by : Edges
  edges_by = record {
    count = length (joined rows);
    start = λ t. get_or (starts_from 0 rows) t 0;
    target = λ i. get_or (joined rows) i 0;
  }

  abbrev start : ℕ → ℕ
  start = edges_by.start

  steps : (t : ℕ) → t < length rows → start t ≤ start (suc t)
  steps t less = let n = next_start 0 rows t less in omega (arith, n)

  -- the row and the place in it of a pair
  record IsAt (i : ℕ) : Type 0 where
    pub less : tile_at start (length rows) i < length rows
    pub from : start (tile_at start (length rows) i) ≤ i
    pub inside : i - start (tile_at start (length rows) i) < length (get_or rows (tile_at start (length rows) i) [])
    pub target : get_or (joined rows) i 0
        ≡ get_or (get_or rows (tile_at start (length rows) i) []) (i - start (tile_at start (length rows) i)) 0

  is_at : (i : ℕ) → i < length (joined rows) → IsAt i
  is_at i inside =
      let last = last_start 0 rows in
      let t = tile_at_is start (length rows) i (first_start 0 rows) (omega (arith, inside, last)) in
      let from = t.from in
      let to = t.to in
      let next = next_start 0 rows (tile_at start (length rows) i) t.less in
      let within : i - start (tile_at start (length rows) i)
      < length (get_or rows (tile_at start (length rows) i) []) = omega (arith, from, to, next) in
      record {
        less = t.less;
        from = t.from;
        inside = within;
        target = at_row 0 rows (tile_at start (length rows) i) (i - start (tile_at start (length rows) i)) i
            (omega (arith, from)) t.less within;
      }

  pub edges_are : AreRising rows → ((u : ℕ) → In u (joined rows) → u < length rows) → AreEdges (length rows) edges_by
  edges_are rise below = record {
    first = first_start 0 rows;
    last = let l = last_start 0 rows in omega (arith, l);
    rises = steps;
    target = λ i less. below (get_or (joined rows) i 0) (in_at (joined rows) i 0 less);
    distinct = λ i less same.
        let a = is_at i (omega (arith, less)) in
        let b = is_at (suc i) less in
        let t = tile_at start (length rows) i in
        let from = a.from in
        let inside = subst (λ v. suc i - start v < length (get_or rows v [])) (sym same) b.inside in
        let next : suc i - start t ≡ suc (i - start t) = omega (arith, from) in
        let r = rising_at (get_or rows t []) (i - start t) (rise t) (omega (arith, inside, next)) in
        let left = a.target in
        let right = b.target ∙ ap (λ v. get_or (get_or rows v []) (suc i - start v) 0) (sym same)
        ∙ ap (λ j. get_or (get_or rows t []) j 0) next in
        omega (arith, r, left, right);
  }

  -- a pair is in its row
  pub leads_in : (t u : ℕ) → LeadsOf (length rows) edges_by t u → In u (get_or rows t [])
  leads_in t u l =
      let a = is_at l.0 l.1 in
      let same = sym l.3 ∙ a.target in
      subst (λ v. In u (get_or rows v [])) l.2
      (subst (λ v. In v (get_or rows (tile_at start (length rows) l.0) [])) (sym same)
      (in_at (get_or rows (tile_at start (length rows) l.0) []) (l.0 - start (tile_at start (length rows) l.0)) 0
      a.inside))

  -- and what is in a row is a pair
  pub in_leads : (t u : ℕ) → t < length rows → In u (get_or rows t []) → LeadsOf (length rows) edges_by t u
  in_leads t u less i =
      let p = place_of (get_or rows t []) u i in
      let inside = slice_get_within (get_or rows t []) p.0 u p.1 in
      let next = next_start 0 rows t less in
      let last = last_start 0 rows in
      let most = rises start (length rows) (suc t) (length rows) steps (omega (arith, less)) (omega arith) in (
        start t + p.0,
        omega (arith, inside, next, last, most),
        tile_at_one start (length rows) (length rows) (start t + p.0) t steps (omega arith) less (omega arith)
            (omega (arith, inside, next)),
        at_row 0 rows t p.0 (start t + p.0) (omega arith) less inside
            ∙ get_or_from_slice_get (get_or rows t []) p.0 u 0 p.1,
      )

  -- there is no row behind the last
  pub in_within : (t u : ℕ) → In u (get_or rows t []) → t < length rows
  in_within t u i = by_cases (nat_cases_of t)
    where
      nat_cases_of : (t : ℕ) → (t < length rows) ⊎ (length rows ≤ t)
      nat_cases_of t = nat_cases t (length rows) (λ l. inl l) (λ e. inr (omega (arith, e))) (λ l. inr (omega (arith, l)))

      by_cases : (t < length rows) ⊎ (length rows ≤ t) → t < length rows
      by_cases (inl l) = l
      by_cases (inr l) = absurd (subst (λ row. In u row) (get_or-eq_default rows [] l) i)

  -- what is among all is in a row
  pub joined_in : (u : ℕ) → In u (joined rows) → (t : ℕ) × In u (get_or rows t [])
  joined_in u i =
      let p = place_of (joined rows) u i in
      let a = is_at p.0 (slice_get_within (joined rows) p.0 u p.1) in
      let same = sym (get_or_from_slice_get (joined rows) p.0 u 0 p.1) ∙ a.target in (
        tile_at start (length rows) p.0,
        subst (λ v. In v (get_or rows (tile_at start (length rows) p.0) [])) (sym same)
            (in_at (get_or rows (tile_at start (length rows) p.0) []) (p.0 - start (tile_at start (length rows) p.0)) 0
            a.inside),
      )
