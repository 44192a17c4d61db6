-- Marks and readers of the places so far, and of one place more.
use Rattle.scop_syntax.proofs.Common.{◌≡◌, ◌≢◌, ℕ, suc, ◌⊎◌, inl, inr, ⊎_elim, Bool, true, false, List, [], ◌∷◌, ◌++◌}
use Rattle.scop_syntax.proofs.Common.{Some, None, sym, refl, subst, arith, get_or, Option, nat_eq, if◌then◌else◌}
use Rattle.scop_syntax.proofs.Common.{eqb-true, eqb-false, ne_eqb, In, in_append, in_front, in_back, nat_cases}
use Rattle.tile_events.specs.Plan.{Plan}
use Rattle.tile_edges.specs.steps.Gains.{Gains}
use Rattle.tile_edges.specs.steps.Passing.{is_in, last_at, readers_at, listed, lasts_at, sources_at}
use Rattle.tile_edges.specs.steps.Traces.{marked, met, met_at, IsMark, AreTraces, HasVisited, ArePairs}
use Rattle.tile_edges.proofs.Passing.{in_is, is_in_of}

module _ (H : ℕ → ℕ → Type 0) (p : Plan) (n : ℕ) where
  -- before all places
  pub none_traced : (flow : Bool) → AreTraces flow H p 0 [] []
  none_traced flow = record {
    writer = λ c. refl;
    found = λ off c t i. absurd i;
    reader = λ off c i j. absurd j;
  }

  -- a mark more
  mark_more : (c u m m_then : ℕ) → H u n → IsMark H (last_at p n c) m
      → m_then ≡ (if nat_eq (p.written n) c then suc u else m) → IsMark H (last_at p (suc n) c) m_then
  mark_more c u m m_then holds is e = by_test (nat_eq (p.written n) c) e
    where
      by_test : (b : Bool) → m_then ≡ (if b then suc u else m) → IsMark H (if b then Some n else last_at p n c) m_then
      by_test true e = (u, e, holds)
      by_test false e = subst (IsMark H (last_at p n c)) (sym e) is

  -- a place more
  pub traced_more : (flow : Bool) (u : ℕ) (marks marks_then : List ℕ) (readers readers_then : List (List ℕ)) → H u n
      → AreTraces flow H p n marks readers
      → HasVisited flow u (p.written n) (p.read n) marks readers marks_then readers_then
      → AreTraces flow H p (suc n) marks_then readers_then
  traced_more flow u marks marks_then readers readers_then holds are has = record {
    writer = λ c. mark_more c u (get_or marks c 0) (get_or marks_then c 0) holds (are.writer c) (has.writer c);
    found = λ off c t i.
        let f = has.found off c t i in
        subst (λ (b : Bool). (j : ℕ) × In j (if b then [] else (if is_in c (p.read n) then n ∷ readers_at p n c else readers_at p n c)) × H t j)
        (sym (ne_eqb (p.written n) c f.0))
        (⊎_elim (λ old. let r = are.found off c t old in (r.0, further (is_in c (p.read n)) r.0 c r.1, r.2))
        (λ new. (n, here c new.0, subst (λ v. H v n) (sym new.1) holds)) f.1);
    reader = λ off c j i. by_test off c j (nat_eq (p.written n) c) (is_in c (p.read n)) refl refl i;
  }
    where
      further : (d : Bool) (j c : ℕ) → In j (readers_at p n c) → In j (if d then n ∷ readers_at p n c else readers_at p n c)
      further true j c h = inr h
      further false j c h = h

      here : (c : ℕ) → In c (p.read n) → In n (if is_in c (p.read n) then n ∷ readers_at p n c else readers_at p n c)
      here c i = rw (is_in_of c (p.read n) i) (inl refl)

      by_test : flow ≡ false → (c j : ℕ) (b d : Bool) → nat_eq (p.written n) c ≡ b → is_in c (p.read n) ≡ d
          → In j (if b then [] else (if d then n ∷ readers_at p n c else readers_at p n c))
          → (t : ℕ) × In t (get_or readers_then c []) × H t j
      by_test off c j true d e f i = absurd i
      by_test off c j false true e f (inl same) =
          (u, has.entered off c (eqb-false (p.written n) c e) (in_is c (p.read n) f), subst (H u) (sym same) holds)
      by_test off c j false true e f (inr i) =
          let r = are.reader off c j i in (r.0, has.kept off c r.0 (eqb-false (p.written n) c e) r.1, r.2)
      by_test off c j false false e f i =
          let r = are.reader off c j i in (r.0, has.kept off c r.0 (eqb-false (p.written n) c e) r.1, r.2)

  -- marks tell the last writers of cells
  mark_found : (o : Option ℕ) (m t : ℕ) → IsMark H o m → In t (marked m) → (i : ℕ) × In i (listed o) × H t i
  mark_found None m t is i = absurd (subst (λ (k : ℕ). In t (marked k)) is i)
  mark_found (Some j) m t is i =
      let same = subst (λ (k : ℕ). In t (marked k)) is.1 i in
      (j, inl refl, subst (λ v. H v j) (sym (first same)) is.2)
    where
      first : {v : ℕ} → In t (v ∷ []) → t ≡ v
      first (inl e) = e
      first (inr e) = absurd e

  mark_all : (o : Option ℕ) (m j : ℕ) → IsMark H o m → In j (listed o) → (t : ℕ) × In t (marked m) × H t j
  mark_all None m j is i = absurd i
  mark_all (Some k) m j is (inl same) =
      (is.0, subst (λ (l : ℕ). In is.0 (marked l)) (sym is.1) (inl refl), subst (H is.0) (sym same) is.2)
  mark_all (Some k) m j is (inr i) = absurd i

  met_found : (marks : List ℕ) (cs : List ℕ) (t : ℕ) → ((c : ℕ) → IsMark H (last_at p n c) (get_or marks c 0))
      → In t (met marks cs) → (i : ℕ) × In i (lasts_at p n cs) × H t i
  met_found marks [] t are i = absurd i
  met_found marks (c ∷ cs) t are i = ⊎_elim
      (λ a. let r = mark_found (last_at p n c) (get_or marks c 0) t (are c) a in
      (r.0, in_front r.0 (listed (last_at p n c)) (lasts_at p n cs) r.1, r.2))
      (λ a. let r = met_found marks cs t are a in
      (r.0, in_back r.0 (listed (last_at p n c)) (lasts_at p n cs) r.1, r.2))
      (in_append t (marked (get_or marks c 0)) (met marks cs) i)

  met_all : (marks : List ℕ) (cs : List ℕ) (j : ℕ) → ((c : ℕ) → IsMark H (last_at p n c) (get_or marks c 0))
      → In j (lasts_at p n cs) → (t : ℕ) × In t (met marks cs) × H t j
  met_all marks [] j are i = absurd i
  met_all marks (c ∷ cs) j are i = ⊎_elim
      (λ a. let r = mark_all (last_at p n c) (get_or marks c 0) j (are c) a in
      (r.0, in_front r.0 (marked (get_or marks c 0)) (met marks cs) r.1, r.2))
      (λ a. let r = met_all marks cs j are a in
      (r.0, in_back r.0 (marked (get_or marks c 0)) (met marks cs) r.1, r.2))
      (in_append j (listed (last_at p n c)) (lasts_at p n cs) i)

-- the tiles that are met at a place are those of the places that are
module _ (H : ℕ → ℕ → Type 0) (p : Plan) (n : ℕ) (marks : List ℕ) (readers : List (List ℕ)) where
  abbrev w : ℕ
  w = p.written n

  abbrev reads : List ℕ
  reads = p.read n

  abbrev before_write : List ℕ
  before_write = listed (last_at p n w) ++ readers_at p n w

  abbrev met_before : List ℕ
  met_before = marked (get_or marks w 0) ++ get_or readers w []

  written_place : AreTraces false H p n marks readers → (t : ℕ) → In t met_before → (i : ℕ) × In i before_write × H t i
  written_place are t i = ⊎_elim
      (λ a. let r = mark_found H p n (last_at p n w) (get_or marks w 0) t (are.writer w) a in
      (r.0, in_front r.0 (listed (last_at p n w)) (readers_at p n w) r.1, r.2))
      (λ a. let r = are.found refl w t a in (r.0, in_back r.0 (listed (last_at p n w)) (readers_at p n w) r.1, r.2))
      (in_append t (marked (get_or marks w 0)) (get_or readers w []) i)

  pub met_place : (flow : Bool) → AreTraces flow H p n marks readers → (t : ℕ)
      → In t (met_at flow marks readers w reads) → (i : ℕ) × In i (sources_at flow p n) × H t i
  met_place true are t i = met_found H p n marks reads t are.writer i
  met_place false are t i = ⊎_elim
      (λ a. let r = met_found H p n marks reads t are.writer a in
      (r.0, in_front r.0 (lasts_at p n reads) before_write r.1, r.2))
      (λ a. let r = written_place are t a in (r.0, in_back r.0 (lasts_at p n reads) before_write r.1, r.2))
      (in_append t (met marks reads) met_before i)

  place_written : AreTraces false H p n marks readers → (j : ℕ) → In j before_write → (t : ℕ) × In t met_before × H t j
  place_written are j i = ⊎_elim
      (λ a. let r = mark_all H p n (last_at p n w) (get_or marks w 0) j (are.writer w) a in
      (r.0, in_front r.0 (marked (get_or marks w 0)) (get_or readers w []) r.1, r.2))
      (λ a. let r = are.reader refl w j a in
      (r.0, in_back r.0 (marked (get_or marks w 0)) (get_or readers w []) r.1, r.2))
      (in_append j (listed (last_at p n w)) (readers_at p n w) i)

  place_met : (flow : Bool) → AreTraces flow H p n marks readers → (j : ℕ) → In j (sources_at flow p n)
      → (t : ℕ) × In t (met_at flow marks readers w reads) × H t j
  place_met true are j i = met_all H p n marks reads j are.writer i
  place_met false are j i = ⊎_elim
      (λ a. let r = met_all H p n marks reads j are.writer a in
      (r.0, in_front r.0 (met marks reads) met_before r.1, r.2))
      (λ a. let r = place_written are j a in (r.0, in_back r.0 (met marks reads) met_before r.1, r.2))
      (in_append j (lasts_at p n reads) before_write i)

  -- the pairs of a place more
  pub pairs_more : (flow : Bool) (u : ℕ) (rows rows_then : List (List ℕ)) → H u n
      → AreTraces flow H p n marks readers → ArePairs flow H p n rows
      → Gains (met_at flow marks readers w reads) u rows rows_then → ArePairs flow H p (suc n) rows_then
  pairs_more flow u rows rows_then holds are pairs gains = record {
    sound = λ t v i. ⊎_elim
        (λ old. let s = pairs.sound t v old in
        let less = s.1.2 in
        (s.0, (s.1.0, s.1.1, omega (arith, less), s.1.3, s.1.4, s.1.5)))
        (λ new. (
          subst (λ v. t ≢ v) (sym new.1) new.2,
          (let f = met_place flow are t new.0 in (f.0, n, omega arith, f.1, f.2, subst (λ v. H v n) (sym new.1) holds)),
        ))
        (gains.found t v i);
    complete = λ i k less s. nat_cases k n
        (λ l. let r = pairs.complete i k l s in
        (r.0, r.1, r.2, r.3, ⊎_elim (λ e. inl e) (λ j. inr (gains.kept r.0 r.1 j)) r.4))
        (λ e. let f = place_met flow are i (subst (λ m. In i (sources_at flow p m)) e s) in
        (f.0, u, f.2, subst (H u) (sym e) holds, by_test f.0 (nat_eq f.0 u) refl f.1))
        (λ l. absurd (omega (arith, l, less)));
  }
    where
      by_test : (t : ℕ) (b : Bool) → nat_eq t u ≡ b → In t (met_at flow marks readers w reads)
          → (t ≡ u) ⊎ In u (get_or rows_then t [])
      by_test t true e i = inl (eqb-true t u e)
      by_test t false e i = inr (gains.gained t i (eqb-false t u e))
