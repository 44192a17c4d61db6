-- The sources of a walk's reads: they are those of its plan (`sources_are`), what a place reads by flow is among them
-- (`source_last`, `last_source`), and in a plan with copies places touch, and cover, where one is a source of the other.
use Rattle.scop_syntax.proofs.Common.{◌≡◌, ◌∙◌, ℕ, suc, ◌+◌, ◌<◌, ◌≤◌, inl, inr, true, false, ℤ, List, [], ◌∷◌, map}
use Rattle.scop_syntax.proofs.Common.{length, Option, Some, None, ap, sym, refl, subst, arith, slice_get}
use Rattle.scop_syntax.proofs.Common.{option_and_then, option_map, slice_get_within, Cell, accesses, cell_of, reads}
use Rattle.scop_syntax.proofs.Common.{written, AreInside, IsCell, cell_number, In, Access, Visit, last_of, last_writer}
use Rattle.scop_syntax.proofs.Common.{writes, in_from_place, in_map, in_map_from, place_of, there_is, last_is}
use Rattle.scop_syntax.proofs.Common.{none_writes, same_cells, writer_of, written_inside}
use Rattle.tile_events.specs.Copies.{AreSources, IsSource, copies_of, copy_of, expanded}
use Rattle.tile_events.specs.Covers.{Covers, Meet}
use Rattle.tile_events.specs.Flat.{read_by, written_by}
use Rattle.tile_events.specs.Plan as events
use Rattle.tile_events.specs.Plan.{Touch}
use Rattle.tile_core.specs.Plans.{sources_by}

-- the last writers of what a walk's places read are the sources of the plan's
module _ (es : List (List ℕ)) (visits : List Visit) (p : events.Plan)
    (apart : (c d : Cell) → IsCell es c → IsCell es d → cell_number es c ≡ cell_number es d → c ≡ d)
    (wrote : (j : ℕ) → p.written j ≡ written_by es (slice_get visits j)) (inside : AreInside es visits) where
  -- who writes a cell's number writes the cell
  unwritten : (k : ℕ) (c : Cell) → k < length visits → IsCell es c → writes (slice_get visits k) c ≡ false
      → p.written k ≡ cell_number es c → ⊥
  unwritten k c less is none e =
      let v = there_is visits k less in
      let same : written v.0 ≡ c = apart (written v.0) c (written_inside es visits k v.0 inside v.1) is
      (sym (wrote k ∙ ap (written_by es) v.1) ∙ e) in
      let some : writes (slice_get visits k) c ≡ true = ap (λ o. writes o c) v.1
      ∙ same_cells (written v.0) c (ap (λ (d : Cell). d.array) same) (ap (λ (d : Cell). d.subscripts) same) in
      absurd cc

  one_source : (j : ℕ) (c : Cell) (o : Option ℕ) → j ≤ length visits → IsCell es c → last_writer visits j c ≡ o
      → IsSource p j (cell_number es c) o
  one_source j c None within is e =
      λ i l. unwritten i c (omega (arith, l, within)) is (none_writes visits j c e i l)
  one_source j c (Some i) within is e =
      let l = last_is visits j c i e in
      let w = writer_of (slice_get visits i) c l.wrote in (
        l.before,
        wrote i ∙ (ap (written_by es) w.1 ∙ ap (cell_number es) w.2),
        λ k a b. unwritten k c (omega (arith, b, within)) is (l.latest k a b),
      )

  all_sources : (j : ℕ) (point : List ℤ) (xs : List Access) → j ≤ length visits
      → ((a : Access) → In a xs → IsCell es (cell_of a point))
      → AreSources p j (map (cell_number es) (map (λ a. cell_of a point) xs))
      (map (λ a. last_writer visits j (cell_of a point)) xs)
  all_sources j point [] within is = tt
  all_sources j point (x ∷ xs) within is = (
    one_source j (cell_of x point) (last_writer visits j (cell_of x point)) within (is x (inl refl)) refl,
    all_sources j point xs within (λ a i. is a (inr i)),
  )

  pub sources_are : (j : ℕ) → j < length visits
      → AreSources p j (read_by es [] (slice_get visits j)) (sources_by visits j (slice_get visits j))
  sources_are j less =
      let v = there_is visits j less in
      subst (λ o. AreSources p j (read_by es [] o) (sources_by visits j o)) (sym v.1)
      (all_sources j v.0.point (reads v.0.body) (omega (arith, less))
      (λ a i. inside v.0 (in_from_place visits j v.0 v.1) a (inr i)))

-- a source is the last writer of what some read touches
module _ (visits : List Visit) (i j : ℕ) where
  pub source_last : In (Some i) (sources_by visits j (slice_get visits j))
      → (r : ℕ) × (last_of visits j (suc r) ≡ Some i)
  source_last = by_visit (slice_get visits j) refl
    where
      by_visit : (o : Option Visit) → slice_get visits j ≡ o → In (Some i) (sources_by visits j o)
          → (r : ℕ) × (last_of visits j (suc r) ≡ Some i)
      by_visit None at h = absurd h
      by_visit (Some v) at h =
          let a = in_map_from (λ access. last_writer visits j (cell_of access v.point)) (Some i) (reads v.body) h in
          let r = place_of (reads v.body) a.0 a.1 in (
            r.0,
            ap (λ o. option_and_then (last_writer visits j) (option_and_then
                (λ w. option_map (λ x. cell_of x w.point) (slice_get (accesses w.body) (suc r.0))) o)) at
                ∙ (ap (λ o. option_and_then (last_writer visits j) (option_map (λ x. cell_of x v.point) o)) r.1
                ∙ sym a.2),
          )

  pub last_source : (r : ℕ) → last_of visits j (suc r) ≡ Some i → In (Some i) (sources_by visits j (slice_get visits j))
  last_source r = by_visit (slice_get visits j) refl
    where
      by_access : (v : Visit) (o : Option Access) → slice_get (reads v.body) r ≡ o
          → option_and_then (last_writer visits j) (option_map (λ x. cell_of x v.point) o) ≡ Some i
          → In (Some i) (sources_by visits j (Some v))
      by_access v None at e = absurd cc
      by_access v (Some a) at e =
          subst (λ o. In o (sources_by visits j (Some v))) e
          (in_map (λ access. last_writer visits j (cell_of access v.point)) a (reads v.body)
          (in_from_place (reads v.body) r a at))

      by_visit : (o : Option Visit) → slice_get visits j ≡ o → last_of visits j (suc r) ≡ Some i
          → In (Some i) (sources_by visits j o)
      by_visit None at e =
          let f = ap (λ o. option_and_then (last_writer visits j)
          (option_and_then (λ w. option_map (λ x. cell_of x w.point) (slice_get (accesses w.body) (suc r))) o)) at in
          let g : None ≡ Some i = sym f ∙ e in absurd cc
      by_visit (Some v) at e =
          let f = ap (λ o. option_and_then (last_writer visits j)
          (option_and_then (λ w. option_map (λ x. cell_of x w.point) (slice_get (accesses w.body) (suc r))) o)) at in
          by_access v (slice_get (reads v.body) r) refl (sym f ∙ e)

-- what has sources is a place
pub source_within : (visits : List Visit) (j : ℕ) (s : Option ℕ) → In s (sources_by visits j (slice_get visits j))
    → j < length visits
source_within visits j s = by_visit (slice_get visits j) refl
  where
    by_visit : (o : Option Visit) → slice_get visits j ≡ o → In s (sources_by visits j o) → j < length visits
    by_visit None at h = absurd h
    by_visit (Some v) at h = slice_get_within visits j v at

-- there are no more copies than reads
pub few_copies : (n : ℕ) (cs : List ℕ) (os : List (Option ℕ)) → length (copies_of n cs os) ≤ length cs
few_copies n [] os = omega arith
few_copies n (c ∷ cs) [] = omega arith
few_copies n (c ∷ cs) (o ∷ os) = let l = few_copies n cs os in omega (arith, l)

-- sources by the copies that are read
module _ (p : events.Plan) (n i j : ℕ) where
  pub source_before : (cs : List ℕ) (os : List (Option ℕ)) → AreSources p j cs os → In (Some i) os → i < j
  source_before [] [] are h = absurd h
  source_before [] (o ∷ os) are h = absurd are
  source_before (c ∷ cs) [] are h = absurd are
  source_before (c ∷ cs) (o ∷ os) are (inl e) = let s = subst (IsSource p j c) (sym e) are.0 in s.0
  source_before (c ∷ cs) (o ∷ os) are (inr h) = source_before cs os are.1 h

  pub copy_read : (cs : List ℕ) (os : List (Option ℕ)) → AreSources p j cs os → In (Some i) os
      → In (n + i) (copies_of n cs os)
  copy_read [] [] are h = absurd h
  copy_read [] (o ∷ os) are h = absurd are
  copy_read (c ∷ cs) [] are h = absurd are
  copy_read (c ∷ cs) (o ∷ os) are (inl e) = inl (ap (copy_of n c) e)
  copy_read (c ∷ cs) (o ∷ os) are (inr h) = inr (copy_read cs os are.1 h)

  pub copied_from : (cs : List ℕ) (os : List (Option ℕ)) → ((c : ℕ) → In c cs → c < n) → AreSources p j cs os
      → In (n + i) (copies_of n cs os) → In (Some i) os
  copied_from [] [] below are h = absurd h
  copied_from [] (o ∷ os) below are h = absurd are
  copied_from (c ∷ cs) [] below are h = absurd are
  copied_from (c ∷ cs) (o ∷ os) below are (inl e) = inl (sym (one o e))
    where
      one : (o : Option ℕ) → n + i ≡ copy_of n c o → o ≡ Some i
      one None e = let l = below c (inl refl) in absurd (omega (arith, l, e))
      one (Some k) e = let same : k ≡ i = omega (arith, e) in ap Some same
  copied_from (c ∷ cs) (o ∷ os) below are (inr h) = inr (copied_from cs os (λ c i. below c (inr i)) are.1 h)

-- in a plan with copies a place touches and covers another where it is a source of it
module _ (p : events.Plan) (sources : ℕ → List (Option ℕ))
    (below : (j c : ℕ) → j < p.places → In c (p.read j) → c < p.cells)
    (are : (j : ℕ) → j < p.places → AreSources p j (p.read j) (sources j)) (i j : ℕ) (within : j < p.places) where
  pub touch_source : In (Some i) (sources j) → Touch (expanded p sources) i j
  touch_source h = inr (inl (copy_read p p.cells i j (p.read j) (sources j) (are j within) h))

  pub cover_source : In (Some i) (sources j) → Covers (expanded p sources) i j
  cover_source h =
      let copy = copy_read p p.cells i j (p.read j) (sources j) (are j within) h in record {
        before = source_before p p.cells i j (p.read j) (sources j) (are j within) h;
        within = within;
        cell = p.cells + i;
        free = λ k l m e. absurd (omega (arith, l, e));
        meet = inl (refl, inr copy);
      }

  pub source_cover : Covers (expanded p sources) i j → In (Some i) (sources j)
  source_cover c = by_kind c.meet
    where
      by_kind : Meet (expanded p sources) i j c.cell → In (Some i) (sources j)
      by_kind (inl (w, inl v)) = let l = c.before in absurd (omega (arith, w, v, l))
      by_kind (inl (w, inr h)) =
          copied_from p p.cells i j (p.read j) (sources j) (λ c. below j c within) (are j within)
          (subst (λ d. In d (copies_of p.cells (p.read j) (sources j))) (sym w) h)
      by_kind (inr (w, h)) =
          let l = c.before in
          let late = copied_from p p.cells j i (p.read i) (sources i) (λ c. below i c (omega (arith, l, within)))
          (are i (omega (arith, l, within)))
          (subst (λ d. In d (copies_of p.cells (p.read i) (sources i))) (sym w) h) in
          let m = source_before p p.cells j i (p.read i) (sources i) (are i (omega (arith, l, within))) late in
          absurd (omega (arith, l, m))
