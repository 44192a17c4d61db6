-- The last writers that a pass meets at what a place reads are those of the walk.
use Rattle.scop_syntax.proofs.Common.{◌≡◌, ◌<◌, ◌≤◌, ℕ, zero, suc, ℤ, Bool, true, false, List, [], Some, None, ap, ap₂}
use Rattle.scop_syntax.proofs.Common.{sym, refl, ◌∙◌, subst, arith, length, map, inr, Option, option_and_then, nat_eq}
use Rattle.scop_syntax.proofs.Common.{slice_get, if◌then◌else◌, option_map, eq-eqb, ne_eqb, slice_get_within, Cell}
use Rattle.scop_syntax.proofs.Common.{accesses, cell_of, reads, written, IsCell, IsInside, cell_number, layout, In}
use Rattle.scop_syntax.proofs.Common.{Access, Program, Visit, walk_of, last_of, last_writer, writes, in_from_place}
use Rattle.scop_syntax.proofs.Common.{in_map, in_map_from, place_of, there_is, cell_same, same_cells, written_inside}
use Rattle.scop_syntax.specs.Writers.{same_cell}
use Rattle.tile_events.specs.Flat.{read_by, written_by}
use Rattle.tile_events.specs.Plan.{Plan}
use Rattle.tile_events.proofs.Flat.{AreApart}
use Rattle.tile_edges.specs.steps.Passing.{last_at, lasts_at}
use Rattle.tile_edges.specs.steps.Walks.{touched}
use Rattle.tile_edges.proofs.Passing.{lasts_are, lasts_of}

module _ (own : (extents : List (List ℕ)) → AreApart extents) (program : Program) (params : List ℤ)
    (inside : IsInside program params) where
  abbrev extents : List (List ℕ)
  extents = layout program params

  abbrev walk : List Visit
  walk = walk_of program params

  abbrev p : Plan
  p = touched program params

  -- two numbers are one exactly where their cells are
  same_number : (c d : Cell) → IsCell extents c → IsCell extents d
      → nat_eq (cell_number extents c) (cell_number extents d) ≡ same_cell c d
  same_number c d is is_d = by_test (same_cell c d) refl
    where
      by_test : (b : Bool) → same_cell c d ≡ b → nat_eq (cell_number extents c) (cell_number extents d) ≡ b
      by_test true e =
          let s = cell_same c d e in
          let same : c ≡ d = ap₂ (λ (a : ℕ) (xs : List ℤ). record { array = a; subscripts = xs }) s.0 s.1 in
          eq-eqb (cell_number extents c) (cell_number extents d) (ap (cell_number extents) same)
      by_test false e = ne_eqb (cell_number extents c) (cell_number extents d) (λ k.
          let same = own extents c d is is_d k in
          let two = same_cells c d (ap (λ (x : Cell). x.array) same) (ap (λ (x : Cell). x.subscripts) same) in
          absurd cc)

  -- the last writer of a number is that of its cell
  last_number : (n : ℕ) (c : Cell) → n ≤ length walk → IsCell extents c
      → last_at p n (cell_number extents c) ≡ last_writer walk n c
  last_number zero c few is = refl
  last_number (suc n) c few is =
      let v = there_is walk n (omega (arith, few)) in
      let here = ap (λ o. nat_eq (written_by extents o) (cell_number extents c)) v.1
      ∙ (same_number (written v.0) c (written_inside extents walk n v.0 inside v.1) is
      ∙ sym (ap (λ o. writes o c) v.1)) in
      ap₂ (λ (b : Bool) (o : Option ℕ). if b then Some n else o) here (last_number n c (omega (arith, few)) is)

  -- the writer of a read that is there
  read_writer : (n r : ℕ) (v : Visit) (access : Access) → slice_get walk n ≡ Some v
      → slice_get (reads v.body) r ≡ Some access
      → last_of walk n (suc r) ≡ last_at p n (cell_number extents (cell_of access v.point))
  read_writer n r v access at found =
      let is = inside v (in_from_place walk n v at) access (inr (in_from_place (reads v.body) r access found)) in
      let less = slice_get_within walk n v at in
      ap (λ (o : Option Visit). option_and_then (last_writer walk n) (option_and_then (λ (u : Visit).
      option_map (λ access. cell_of access u.point) (slice_get (accesses u.body) (suc r))) o)) at
      ∙ (ap (λ (o : Option Access). option_and_then (last_writer walk n)
      (option_map (λ access. cell_of access v.point) o)) found
      ∙ sym (last_number n (cell_of access v.point) (omega (arith, less)) is))

  -- what is met at reads is a writer of a read
  found_at : (i n : ℕ) (v : Visit) (access : Access) (number : ℕ) → slice_get walk n ≡ Some v → In access (reads v.body)
      → number ≡ cell_number extents (cell_of access v.point) → last_at p n number ≡ Some i
      → (r : ℕ) × (last_of walk n (suc r) ≡ Some i)
  found_at i n v access number at there same last =
      let r = place_of (reads v.body) access there in
      (r.0, read_writer n r.0 v access at r.1 ∙ (ap (last_at p n) (sym same) ∙ last))

  pub met_writes : (i n : ℕ) → n < length walk → In i (lasts_at p n (p.read n))
      → (r : ℕ) × (last_of walk n (suc r) ≡ Some i)
  met_writes i n less h =
      let v = there_is walk n less in
      let l = lasts_are p n i (p.read n) h in
      let m = in_map_from (cell_number extents) l.0 (map (λ access. cell_of access v.0.point) (reads v.0.body))
      (subst (λ ns. In l.0 ns) (ap (read_by extents []) v.1) l.1) in
      let a = in_map_from (λ access. cell_of access v.0.point) m.0 (reads v.0.body) m.1 in
      found_at i n v.0 a.0 l.0 v.1 a.1 (m.2 ∙ ap (cell_number extents) a.2) l.2

  -- and such a writer is met
  pub writes_met : (i n r : ℕ) → last_of walk n (suc r) ≡ Some i
      → (n < length walk) × In i (lasts_at p n (p.read n))
  writes_met i n r h = by_visit (slice_get walk n) refl h
    where
      by_access : (v : Visit) → slice_get walk n ≡ Some v → (o : Option Access) → slice_get (reads v.body) r ≡ o
          → option_and_then (last_writer walk n) (option_map (λ access. cell_of access v.point) o) ≡ Some i
          → (n < length walk) × In i (lasts_at p n (p.read n))
      by_access v at None found e = absurd cc
      by_access v at (Some access) found e =
          let number = cell_number extents (cell_of access v.point) in
          let there : In number (p.read n) =
          subst (λ ns. In number ns) (sym (ap (read_by extents []) at))
          (in_map (cell_number extents) (cell_of access v.point) (map (λ access. cell_of access v.point) (reads v.body))
          (in_map (λ access. cell_of access v.point) access (reads v.body)
          (in_from_place (reads v.body) r access found))) in (
            slice_get_within walk n v at,
            lasts_of p n i number (p.read n) there (sym (read_writer n r v access at found) ∙ h),
          )

      by_visit : (o : Option Visit) → slice_get walk n ≡ o
          → option_and_then (last_writer walk n) (option_and_then (λ (u : Visit).
          option_map (λ access. cell_of access u.point) (slice_get (accesses u.body) (suc r))) o) ≡ Some i
          → (n < length walk) × In i (lasts_at p n (p.read n))
      by_visit None at e = absurd cc
      by_visit (Some v) at e = by_access v at (slice_get (reads v.body) r) refl e
