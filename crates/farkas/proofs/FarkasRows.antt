-- The run of the eliminations leaves what Farkas's lemma asks for.
use Rattle.whole_numbers.proofs.Common.{◌≡◌, ℕ, zero, suc, ◌+◌, ◌<◌, ℤ, pos, ◌≤ℤ◌, List, [], ◌∷◌, ◌++◌, length, get_or}
use Rattle.whole_numbers.proofs.Common.{take, drop, refl, sym, ◌∙◌, ap, subst, All, arith, add-one, map, Option, Some}
use Rattle.whole_numbers.proofs.Common.{None, Ok, map-append, take-append-drop, take-append_seam, All-head, All-tail}
use Rattle.whole_numbers.proofs.Common.{All-map, Affine, form_of, zeros, all_front}
use Rattle.std.proofs.lemmas.List.{append_assoc}
use Rattle.whole_numbers.specs.Content.{lowest_of_form}
use Rattle.affine_forms.specs.Parts.{variables_of}
use Rattle.fractions.specs.Fractions.{value_over}
use Rattle.fractions.specs.Elimination.{coefficient_of, is_zero, is_positive, is_negative, is_not_zero, chosen, pairs}
use Rattle.fractions.specs.Elimination.{reduced, first_with, eliminated_by, eliminated, removed, narrowed}
use Rattle.fractions.specs.Farkas.{own_rows, IsHomogeneous, AreAmong, Dropped, Leaves}
use Rattle.fractions.proofs.DroppedRows.{own_rows_stay, own_rows_absent}
use Rattle.fractions.proofs.HomogeneousSystems.{eliminated_homogeneous, narrowed_homogeneous}
use Rattle.fractions.proofs.ChosenRows.{chosen-append}
use Rattle.integer_sets.specs.Constraints.{Constraints, system_of, variables_in}
use Rattle.fm_projection.proofs.Exact.{AreSized, eliminated_run-exact, eliminated_sized}
use Rattle.farkas.specs.Run.{◌>>◌, eliminating, kept_run, dropped_run, without_column, narrowing, left_run}
use Rattle.farkas.proofs.Chains.{then-ok, eliminated-ok}
use Rattle.farkas.proofs.Columns.{own_rows_length}
use Rattle.farkas.proofs.DroppedRows.{kept-front, kept-all, kept-dropped, kept_in_front}

chosen_absent : (i : ℕ) (fs : List Affine) → All (λ f. coefficient_of i f ≡ pos 0) fs → chosen is_zero i fs ≡ fs
chosen_absent i [] all = refl
chosen_absent i (f ∷ fs) all =
    let none = All-head (λ f. coefficient_of i f ≡ pos 0) f fs all in
    let more = chosen_absent i fs (All-tail (λ f. coefficient_of i f ≡ pos 0) f fs all) in
    rw none (ap (λ (zs : List Affine). f ∷ zs) more)

own_coefficient : (b : ℕ) (rest : List ℤ) → get_or (zeros b ++ pos 1 ∷ rest) b (pos 0) ≡ pos 1
own_coefficient zero rest = refl
own_coefficient (suc b) rest = own_coefficient b rest

chosen_own : (b k : ℕ) (more : List Affine)
    → chosen is_zero b (own_rows b (suc k) ++ more) ≡ own_rows (suc b) k ++ chosen is_zero b more
chosen_own b k more =
    let own = form_of (zeros b ++ pos 1 ∷ zeros k) (pos 0) in
    let others = own_rows (suc b) k in
    let next : own_rows (b + 1) k ≡ others = ap (λ (c : ℕ). own_rows c k) (add-one b) in
    let first : chosen is_zero b (own ∷ (own_rows (b + 1) k ++ more)) ≡ chosen is_zero b (own_rows (b + 1) k ++ more) =
    rw (own_coefficient b (zeros k)) refl in
    first ∙ ap (λ (fs : List Affine). chosen is_zero b (fs ++ more)) next ∙ chosen-append is_zero b others more
    ∙ ap (λ (fs : List Affine). fs ++ chosen is_zero b more) (chosen_absent b others (own_rows_absent b b k (omega
    arith)))

lowered_own : (b k : ℕ) (rows more rest : List Affine) → rows ≡ own_rows b (suc k) ++ more
    → (left : List Affine) × (map (narrowed b) (map lowest_of_form (chosen is_zero b rows ++ rest)) ≡ own_rows b k ++
    left)
lowered_own b k rows more rest h =
    let others = own_rows (suc b) k in
    let behind = chosen is_zero b more ++ rest in
    let lowered : List Affine → List Affine = λ fs. map (narrowed b) (map lowest_of_form fs) in
    let first : chosen is_zero b rows ++ rest ≡ others ++ behind =
    ap (λ (fs : List Affine). chosen is_zero b fs ++ rest) h ∙ ap (λ (fs : List Affine). fs ++ rest) (chosen_own b k
    more)
    ∙ append_assoc others (chosen is_zero b more) rest in (
      lowered behind,
      ap (λ (fs : List Affine). map (narrowed b) (map lowest_of_form fs)) first
          ∙ ap (λ (fs : List Affine). map (narrowed b) fs) (map-append lowest_of_form others behind)
          ∙ map-append (narrowed b) (map lowest_of_form others) (map lowest_of_form behind)
          ∙ ap (λ (fs : List Affine). fs ++ map (narrowed b) (map lowest_of_form behind)) (own_rows_stay b b k (omega
          arith)),
    )

eliminated_own : (b k : ℕ) (o : Option (Affine × List Affine)) (es rows more : List Affine)
    → rows ≡ own_rows b (suc k) ++ more
    → (left : List Affine) × (map (narrowed b) (eliminated_by b o es rows).1 ≡ own_rows b k ++ left)
eliminated_own b k None es rows more h =
    lowered_own b k rows more (pairs b (chosen is_positive b rows) (chosen is_negative b rows)) h
eliminated_own b k (Some found) es rows more h =
    lowered_own b k rows more (map (reduced b found.0) (chosen is_not_zero b rows)) h

pub own_rows_lead : (b k : ℕ) (es rows more : List Affine) → rows ≡ own_rows b (suc k) ++ more
    → (left : List Affine) × (map (narrowed b) (eliminated b es rows).1 ≡ own_rows b k ++ left)
unfolding eliminated
own_rows_lead b k es rows more h = eliminated_own b k (first_with b es) es rows more h

-- a column less
removed_length : (i n : ℕ) (xs : List ℤ) → length xs ≡ suc n → i < length xs → length (removed i xs) ≡ n
removed_length i n [] size inside = absurd (omega arith)
removed_length zero n (x ∷ xs) size inside = omega arith
removed_length (suc i) zero (x ∷ xs) size inside = absurd (omega arith)
removed_length (suc i) (suc n) (x ∷ xs) size inside =
    ap suc (removed_length i n xs (omega arith) (omega arith))

pub narrowed_sized : (i n : ℕ) (fs : List Affine) → AreSized (suc n) fs → i < suc n → AreSized n (map (narrowed i) fs)
narrowed_sized i n fs all inside =
    All-map (λ f. variables_of f ≡ n) (narrowed i) fs
    (λ k d within. removed_length i n (get_or fs k d).coefficients (all k d within)
    (let s = all k d within in omega arith))

-- an elimination and its dropped rows
pub record Step (b k : ℕ) (s t : Constraints) : Type 0 where
  pub equalities : t.equalities ≡ map (narrowed b) (eliminated b s.equalities s.rows).0
  pub dropped : Dropped (b + k) t.equalities [] (map (narrowed b) (eliminated b s.equalities s.rows).1) t.rows
  pub dimensions : t.dimensions ≡ b + k
  pub parameters : t.parameters ≡ 0
  pub sized : AreSized (b + k) t.equalities × AreSized (b + k) t.rows
  pub homogeneous : All IsHomogeneous t.equalities × All IsHomogeneous t.rows
  pub more : List Affine
  pub own : t.rows ≡ own_rows b k ++ more

narrowed-ok : (n b : ℕ) (s t : Constraints) → AreSized (variables_in s) s.equalities → AreSized (variables_in s) s.rows
    → narrowing n b s ≡ Ok t
    → t ≡ system_of n 0 (map (narrowed b) (eliminated b s.equalities s.rows).0)
    (map (narrowed b) (eliminated b s.equalities s.rows).1)
narrowed-ok n b s t he hr h =
    let c = then-ok (eliminating b s) (λ (e : Constraints). Ok (without_column n b e)) t h in
    let is : without_column n b c.0 ≡ t = cc (c.2) in
    let e = eliminated_run-exact b (variables_in s) s c.0 he hr (eliminated-ok b s c.0 c.1) in
    sym is ∙ ap (λ (u : Constraints). without_column n b u) e

dropped-ok : (budget k : ℕ) (s t : Constraints) → dropped_run budget k s ≡ Ok t
    → (kept_run budget s.dimensions s.equalities (take k s.rows) (drop k s.rows) ≡ Ok t.rows)
    × (t ≡ system_of s.dimensions 0 s.equalities t.rows)
unfolding dropped_run
dropped-ok budget k s t h =
    let c = then-ok (kept_run budget s.dimensions s.equalities (take k s.rows) (drop k s.rows))
    (λ (rows : List Affine). Ok (system_of s.dimensions 0 s.equalities rows)) t h in
    let is : system_of s.dimensions 0 s.equalities c.0 ≡ t = cc (c.2) in
    let rows : c.0 ≡ t.rows = ap (λ (u : Constraints). u.rows) is in (
      c.1 ∙ ap (λ (fs : List Affine). Ok fs) rows,
      sym is ∙ ap (λ (fs : List Affine). system_of s.dimensions 0 s.equalities fs) rows,
    )

-- rows dropped from the system of an elimination
dropped_step : (budget b k : ℕ) (es rows more : List Affine) (t : Constraints) → AreSized (b + k) es
    → AreSized (b + k) rows
    → All IsHomogeneous es → All IsHomogeneous rows → rows ≡ own_rows b k ++ more
    → dropped_run budget k (system_of (b + k) 0 es rows) ≡ Ok t
    → (t.equalities ≡ es) × Dropped (b + k) es [] rows t.rows × (t.dimensions ≡ b + k) × (t.parameters ≡ 0)
    × AreSized (b + k) t.rows × All IsHomogeneous t.rows × ((left : List Affine) × (t.rows ≡ own_rows b k ++ left))
dropped_step budget b k es rows more t se sr he hr own h =
    let n = b + k in
    let d = dropped-ok budget k (system_of n 0 es rows) t h in
    let whole = take-append-drop k rows in
    let sized = subst (λ (fs : List Affine). AreSized n fs) (sym whole) sr in
    let kept = kept-dropped budget n es (take k rows) (drop k rows) t.rows se sized d.0 in
    let front = kept_in_front n es [] (take k rows) (drop k rows) t.rows kept in
    let lead = kept-front budget n es (take k rows) (drop k rows) t.rows d.0 in
    let first : take k rows ≡ own_rows b k =
    ap (λ (fs : List Affine). take k fs) own
    ∙ ap (λ (j : ℕ). take j (own_rows b k ++ more)) (sym (own_rows_length b k))
    ∙ take-append_seam (own_rows b k) more in (
      ap (λ (u : Constraints). u.equalities) d.1,
      subst (λ (fs : List Affine). Dropped n es [] fs t.rows) whole front,
      ap (λ (u : Constraints). u.dimensions) d.1,
      ap (λ (u : Constraints). u.parameters) d.1,
      kept-all (λ f. variables_of f ≡ n) budget n es (take k rows) (drop k rows) t.rows d.0 sized,
      kept-all IsHomogeneous budget n es (take k rows) (drop k rows) t.rows d.0
          (subst (λ (fs : List Affine). All IsHomogeneous fs) (sym whole) hr),
      (lead.0, lead.1 ∙ ap (λ (fs : List Affine). fs ++ lead.0) first),
    )

pub step-ok : (budget b k : ℕ) (s u t : Constraints) (more : List Affine) → s.dimensions ≡ b + suc k → s.parameters ≡ 0
    → AreSized (b + suc k) s.equalities → AreSized (b + suc k) s.rows → All IsHomogeneous s.equalities
    → All IsHomogeneous s.rows → s.rows ≡ own_rows b (suc k) ++ more
    → narrowing (b + k) b s ≡ Ok u → dropped_run budget k u ≡ Ok t → Step b k s t
step-ok budget b k s u t more dimensions parameters se sr he hr own first second =
    let v : b + suc k ≡ variables_in s = omega arith in
    let next : b + suc k ≡ suc (b + k) = omega arith in
    let se' = subst (λ (m : ℕ). AreSized m s.equalities) v se in
    let sr' = subst (λ (m : ℕ). AreSized m s.rows) v sr in
    let is = narrowed-ok (b + k) b s u se' sr' first in
    let es = map (narrowed b) (eliminated b s.equalities s.rows).0 in
    let rows = map (narrowed b) (eliminated b s.equalities s.rows).1 in
    let wide = eliminated_sized (b + suc k) b s.equalities s.rows se sr in
    let ze = narrowed_sized b (b + k) (eliminated b s.equalities s.rows).0
    (subst (λ (m : ℕ). AreSized m (eliminated b s.equalities s.rows).0) next wide.0) (omega arith) in
    let zr = narrowed_sized b (b + k) (eliminated b s.equalities s.rows).1
    (subst (λ (m : ℕ). AreSized m (eliminated b s.equalities s.rows).1) next wide.1) (omega arith) in
    let free = eliminated_homogeneous b s.equalities s.rows he hr in
    let fe = narrowed_homogeneous b (eliminated b s.equalities s.rows).0 free.0 in
    let fr = narrowed_homogeneous b (eliminated b s.equalities s.rows).1 free.1 in
    let lead = own_rows_lead b k s.equalities s.rows more own in
    let d = dropped_step budget b k es rows lead.0 t ze zr fe fr lead.1
    (subst (λ (w : Constraints). dropped_run budget k w ≡ Ok t) is second) in
    record {
      equalities = d.0;
      dropped = subst (λ (fs : List Affine). Dropped (b + k) fs [] rows t.rows) (sym d.0) d.1;
      dimensions = d.2;
      parameters = d.3;
      sized = (subst (λ (fs : List Affine). AreSized (b + k) fs) (sym d.0) ze, d.4);
      homogeneous = (subst (λ (fs : List Affine). All IsHomogeneous fs) (sym d.0) fe, d.5);
      more = d.6.0;
      own = d.6.1;
    }

among : (b k : ℕ) (rows more : List Affine) → rows ≡ own_rows b k ++ more → AreAmong (own_rows b k) rows
among b k rows more h d numerators all =
    all_front (λ g. pos 0 ≤ℤ value_over g d numerators) (own_rows b k) more
    (subst (λ (fs : List Affine). All (λ g. pos 0 ≤ℤ value_over g d numerators) fs) h all)

-- all eliminations
pub left-leaves : (budget b k : ℕ) (s t : Constraints) (more : List Affine) → s.dimensions ≡ b + k → s.parameters ≡ 0
    → AreSized (b + k) s.equalities → AreSized (b + k) s.rows → All IsHomogeneous s.equalities
    → All IsHomogeneous s.rows → s.rows ≡ own_rows b k ++ more → left_run budget b k s ≡ Ok t
    → Leaves b k s.equalities s.rows t.equalities t.rows × (t.dimensions ≡ b) × (t.parameters ≡ 0)
left-leaves budget b zero s t more dimensions parameters se sr he hr own h =
    let is : s ≡ t = cc in (
      (ap (λ (u : Constraints). u.equalities) is, ap (λ (u : Constraints). u.rows) is),
      ap (λ (u : Constraints). u.dimensions) (sym is) ∙ dimensions ∙ omega arith,
      ap (λ (u : Constraints). u.parameters) (sym is) ∙ parameters,
    )
left-leaves budget b (suc k) s t more dimensions parameters se sr he hr own h =
    let c = then-ok (narrowing (b + k) b s) (λ (u : Constraints). dropped_run budget k u >> λ kept. left_run budget b
    k kept) t h in
    let d = then-ok (dropped_run budget k c.0) (λ (kept : Constraints). left_run budget b k kept) t c.2 in
    let p = step-ok budget b k s c.0 d.0 more dimensions parameters se sr he hr own c.1 d.1 in
    let rest = left-leaves budget b k d.0 t p.more p.dimensions p.parameters p.sized.0 p.sized.1 p.homogeneous.0
    p.homogeneous.1
    p.own d.2 in
    let es = map (narrowed b) (eliminated b s.equalities s.rows).0 in
    let rows = map (narrowed b) (eliminated b s.equalities s.rows).1 in
    let free = eliminated_homogeneous b s.equalities s.rows he hr in (
      (
        d.0.rows,
        subst (λ (fs : List Affine). Dropped (b + k) fs [] rows d.0.rows) p.equalities p.dropped,
        among b k d.0.rows p.more p.own,
        narrowed_homogeneous b (eliminated b s.equalities s.rows).0 free.0,
        narrowed_homogeneous b (eliminated b s.equalities s.rows).1 free.1,
        subst (λ (fs : List Affine). Leaves b k fs d.0.rows t.equalities t.rows) p.equalities rest.0,
      ),
      rest.1,
      rest.2,
    )
