-- Covers of a plan of a walk are those of the walk's visits.
use Rattle.scop_syntax.proofs.Common.{◌≡◌, ℕ, zero, suc, ◌<◌, ◌≤◌, ◌⊎◌, inl, inr, true, false, List, [], map, length}
use Rattle.scop_syntax.proofs.Common.{Some, None, ap, sym, refl, ◌∙◌, subst, arith, slice_get, Option, option_and_then}
use Rattle.scop_syntax.proofs.Common.{option_map, false_from_ne_true, slice_get_within, Visit, Access, Cell, cell_of}
use Rattle.scop_syntax.proofs.Common.{cell_at, reads, accesses, written, Cover, In, cell_number, IsCell, AreInside}
use Rattle.scop_syntax.proofs.Common.{writes, last_writer, next_writer, last_of, nat_cases, in_map, in_map_from}
use Rattle.scop_syntax.proofs.Common.{in_from_place, place_of, there_is, same_cells, last_is, none_writes, next_is}
use Rattle.scop_syntax.proofs.Common.{written_inside, writer_of}
use Rattle.scop_syntax.proofs.Writers.{none_behind}
use Rattle.tile_events.specs.Plan.{Plan}
use Rattle.tile_events.specs.Flat.{IsWalk, written_by, read_by}
use Rattle.tile_events.specs.Covers.{AreFree, Meet, Covers}

module _ (es contents : List (List ℕ)) (visits : List Visit) (p : Plan)
    (apart : (c d : Cell) → IsCell es c → IsCell es d → cell_number es c ≡ cell_number es d → c ≡ d)
    (walk : IsWalk es contents [] visits p) (inside : AreInside es visits) (count : p.places ≡ length visits) where
  at_place : (j : ℕ) (v : Visit) → slice_get visits j ≡ Some v → p.written j ≡ cell_number es (written v)
  at_place j v found = walk.written j ∙ ap (written_by es) found

  -- who writes a cell writes its number, and the other way round
  writes_number : (j : ℕ) (c : Cell) → writes (slice_get visits j) c ≡ true → p.written j ≡ cell_number es c
  writes_number j c h = let w = writer_of (slice_get visits j) c h in at_place j w.0 w.1 ∙ ap (cell_number es) w.2

  number_writes : (j : ℕ) (c : Cell) → j < p.places → IsCell es c → p.written j ≡ cell_number es c
      → writes (slice_get visits j) c ≡ true
  number_writes j c less is e =
      let v = there_is visits j (let n = count in omega (arith, less, n)) in
      let same : written v.0 ≡ c =
      apart (written v.0) c (written_inside es visits j v.0 inside v.1) is (sym (at_place j v.0 v.1) ∙ e) in
      ap (λ o. writes o c) v.1
      ∙ same_cells (written v.0) c (ap (λ (d : Cell). d.array) same) (ap (λ (d : Cell). d.subscripts) same)

  free_of_numbers : (i j : ℕ) (c : Cell) → AreFree p i j (cell_number es c) → (k : ℕ) → i < k → k < j
      → writes (slice_get visits k) c ≡ false
  free_of_numbers i j c free k l m =
      false_from_ne_true (writes (slice_get visits k) c) (λ h. free k l m (writes_number k c h))

  numbers_of_free : (i j : ℕ) (c : Cell) → j ≤ p.places → IsCell es c
      → ((k : ℕ) → i < k → k < j → writes (slice_get visits k) c ≡ false) → AreFree p i j (cell_number es c)
  numbers_of_free i j c within is free k l m e =
      let a = free k l m in let b = number_writes k c (omega (arith, m, within)) is e in absurd cc

  -- the last writer is the one behind which nobody writes
  is_last : (i j : ℕ) (c : Cell) → i < j → writes (slice_get visits i) c ≡ true
      → ((k : ℕ) → i < k → k < j → writes (slice_get visits k) c ≡ false) → last_writer visits j c ≡ Some i
  is_last i j c less wrote free = by_case (last_writer visits j c) refl
    where
      by_case : (o : Option ℕ) → last_writer visits j c ≡ o → last_writer visits j c ≡ Some i
      by_case None e = let a = none_writes visits j c e i less in absurd cc
      by_case (Some k) e =
          let l = last_is visits j c k e in
          e ∙ ap Some (nat_cases k i (λ a. let x = l.latest i a less in absurd cc) (λ a. a)
          (λ a. let x = free k a l.before in let y = l.wrote in absurd cc))

  is_next : (i j : ℕ) (c : Cell) → i < j → writes (slice_get visits j) c ≡ true
      → ((k : ℕ) → i < k → k < j → writes (slice_get visits k) c ≡ false) → next_writer visits i c ≡ Some j
  is_next i j c less wrote free = by_case (next_writer visits i c) refl
    where
      by_case : (o : Option ℕ) → next_writer visits i c ≡ o → next_writer visits i c ≡ Some j
      by_case None e = let a = none_behind visits i c e j less in absurd cc
      by_case (Some k) e =
          let l = next_is visits i c k e in
          e ∙ ap Some (nat_cases k j (λ a. let x = free k l.behind a in let y = l.wrote in absurd cc) (λ a. a)
          (λ a. let x = l.soonest j less a in absurd cc))

  -- the cell of an access
  access_cell : (j a : ℕ) (v : Visit) (access : Access) → slice_get visits j ≡ Some v
      → slice_get (accesses v.body) a ≡ Some access → cell_at visits j a ≡ Some (cell_of access v.point)
  access_cell j a v access found at =
      ap (option_and_then (λ w. option_map (λ x. cell_of x w.point) (slice_get (accesses w.body) a))) found
      ∙ ap (option_map (λ x. cell_of x v.point)) at

  access_inside : (j a : ℕ) (v : Visit) (access : Access) → slice_get visits j ≡ Some v
      → slice_get (accesses v.body) a ≡ Some access → IsCell es (cell_of access v.point)
  access_inside j a v access found at =
      inside v (in_from_place visits j v found) access (in_from_place (accesses v.body) a access at)

  -- a read of a number is a read of its cell
  read_of : (j c : ℕ) (v : Visit) → slice_get visits j ≡ Some v → In c (p.read j)
      → (r : ℕ) × (access : Access) × (slice_get (reads v.body) r ≡ Some access)
      × (c ≡ cell_number es (cell_of access v.point))
  read_of j c v found h =
      let n = in_map_from (cell_number es) c (map (λ access. cell_of access v.point) (reads v.body))
      (subst (λ cs. In c cs) (walk.read j ∙ ap (read_by es []) found) h) in
      let a = in_map_from (λ access. cell_of access v.point) n.0 (reads v.body) n.1 in
      let r = place_of (reads v.body) a.0 a.1 in (r.0, a.0, r.1, n.2 ∙ ap (cell_number es) a.2)

  -- from numbers to visits
  pub to_cover : (i j : ℕ) → Covers p i j → Cover visits i j
  to_cover i j c = by_kind c.meet
    where
      vi : (v : Visit) × (slice_get visits i ≡ Some v)
      vi = let a = c.before in let b = c.within in let n = count in there_is visits i (omega (arith, a, b, n))

      vj : (v : Visit) × (slice_get visits j ≡ Some v)
      vj = let b = c.within in let n = count in there_is visits j (omega (arith, b, n))

      less_i : i < p.places
      less_i = let a = c.before in let b = c.within in omega (arith, a, b)

      last : (a : ℕ) (access : Access) → slice_get (accesses vj.0.body) a ≡ Some access
          → c.cell ≡ cell_number es (cell_of access vj.0.point) → p.written i ≡ c.cell → last_of visits j a ≡ Some i
      last a access at is wrote =
          ap (option_and_then (last_writer visits j)) (access_cell j a vj.0 access vj.1 at)
          ∙ is_last i j (cell_of access vj.0.point) c.before
          (number_writes i (cell_of access vj.0.point) less_i (access_inside j a vj.0 access vj.1 at) (wrote ∙ is))
          (free_of_numbers i j (cell_of access vj.0.point) (subst (AreFree p i j) is c.free))

      by_kind : Meet p i j c.cell → Cover visits i j
      by_kind (inl (w, inl v)) =
          inl (0, last 0 vj.0.body.place refl (sym v ∙ at_place j vj.0 vj.1) w)
      by_kind (inl (w, inr h)) = let r = read_of j c.cell vj.0 vj.1 h in inl (suc r.0, last (suc r.0) r.1 r.2 r.3 w)
      by_kind (inr (w, h)) =
          let r = read_of i c.cell vi.0 vi.1 h in
          let is = access_inside i (suc r.0) vi.0 r.1 vi.1 r.2 in
          inr (
            r.0,
            ap (option_and_then (next_writer visits i)) (access_cell i (suc r.0) vi.0 r.1 vi.1 r.2)
                ∙ is_next i j (cell_of r.1 vi.0.point) c.before
                (number_writes j (cell_of r.1 vi.0.point) c.within is (w ∙ r.3))
                (free_of_numbers i j (cell_of r.1 vi.0.point) (subst (AreFree p i j) r.3 c.free)),
          )

  -- an access that is there
  found_access : (j a : ℕ) (d : Cell) → cell_at visits j a ≡ Some d
      → (v : Visit) × (access : Access) × (slice_get visits j ≡ Some v) × (slice_get (accesses v.body) a ≡ Some access)
      × (d ≡ cell_of access v.point)
  found_access j a d h = by_visit (slice_get visits j) refl
    where
      by_access : (v : Visit) → slice_get visits j ≡ Some v → (o : Option Access) → slice_get (accesses v.body) a ≡ o
          → option_map (λ x. cell_of x v.point) o ≡ Some d
          → (v : Visit) × (access : Access) × (slice_get visits j ≡ Some v)
          × (slice_get (accesses v.body) a ≡ Some access) × (d ≡ cell_of access v.point)
      by_access v found None at e = absurd cc
      by_access v found (Some x) at e = (v, x, found, at, cc)

      by_visit : (o : Option Visit) → slice_get visits j ≡ o
          → (v : Visit) × (access : Access) × (slice_get visits j ≡ Some v)
          × (slice_get (accesses v.body) a ≡ Some access) × (d ≡ cell_of access v.point)
      by_visit None found = let e = sym (ap (option_and_then
          (λ w. option_map (λ x. cell_of x w.point) (slice_get (accesses w.body) a))) found) ∙ h in absurd cc
      by_visit (Some v) found = by_access v found (slice_get (accesses v.body) a) refl
          (sym (ap (option_and_then
          (λ w. option_map (λ x. cell_of x w.point) (slice_get (accesses w.body) a))) found) ∙ h)

  some_cell : (o : Option Cell) (f : Cell → Option ℕ) (i : ℕ) → option_and_then f o ≡ Some i
      → (d : Cell) × (o ≡ Some d) × (f d ≡ Some i)
  some_cell None f i h = absurd cc
  some_cell (Some d) f i h = (d, refl, h)

  reads_number : (j r : ℕ) (v : Visit) (access : Access) → slice_get visits j ≡ Some v
      → slice_get (reads v.body) r ≡ Some access → In (cell_number es (cell_of access v.point)) (p.read j)
  reads_number j r v access found at =
      subst (λ cs. In (cell_number es (cell_of access v.point)) cs) (sym (walk.read j ∙ ap (read_by es []) found))
      (in_map (cell_number es) (cell_of access v.point) (map (λ access. cell_of access v.point) (reads v.body))
      (in_map (λ access. cell_of access v.point) access (reads v.body) (in_from_place (reads v.body) r access at)))

  -- and from visits to numbers
  pub from_cover : (i j : ℕ) → Cover visits i j → Covers p i j
  from_cover i j (inl (a, h)) =
      let s = some_cell (cell_at visits j a) (last_writer visits j) i h in
      let f = found_access j a s.0 s.1 in
      let is = subst (IsCell es) (sym f.4) (access_inside j a f.0 f.1 f.2 f.3) in
      let l = last_is visits j s.0 i s.2 in
      let w = slice_get_within visits j f.0 f.2 in
      let less : j < p.places = (let n = count in omega (arith, w, n)) in record {
        before = l.before;
        within = less;
        cell = cell_number es s.0;
        free = numbers_of_free i j s.0 (omega (arith, less)) is l.latest;
        meet = inl (writes_number i s.0 l.wrote, touched a f.0 f.1 f.2 f.3 f.4);
      }
    where
      touched : (a : ℕ) (v : Visit) (access : Access) → slice_get visits j ≡ Some v
          → slice_get (accesses v.body) a ≡ Some access → {d : Cell} → d ≡ cell_of access v.point
          → (p.written j ≡ cell_number es d) ⊎ In (cell_number es d) (p.read j)
      touched zero v access found at e =
          let same : v.body.place ≡ access = cc in
          inl (at_place j v found ∙ ap (cell_number es) (ap (λ x. cell_of x v.point) same ∙ sym e))
      touched (suc r) v access found at e =
          inr (subst (λ d. In (cell_number es d) (p.read j)) (sym e) (reads_number j r v access found at))
  from_cover i j (inr (r, h)) =
      let s = some_cell (cell_at visits i (suc r)) (next_writer visits i) j h in
      let f = found_access i (suc r) s.0 s.1 in
      let is = subst (IsCell es) (sym f.4) (access_inside i (suc r) f.0 f.1 f.2 f.3) in
      let l = next_is visits i s.0 j s.2 in
      let v = writer_of (slice_get visits j) s.0 l.wrote in
      let w = slice_get_within visits j v.0 v.1 in
      let less : j < p.places = (let n = count in omega (arith, w, n)) in record {
        before = l.behind;
        within = less;
        cell = cell_number es s.0;
        free = numbers_of_free i j s.0 (omega (arith, less)) is l.soonest;
        meet = inr (
          writes_number j s.0 l.wrote,
          subst (λ d. In (cell_number es d) (p.read i)) (sym f.4) (reads_number i r f.0 f.1 f.2 f.3),
        );
      }
