-- A pass over the walk goes on by one place.
use Rattle.scop_syntax.proofs.Common.{◌≡◌, ◌<◌, ◌≤◌, ◌*◌, ℕ, suc, ℤ, List, [], ◌∷◌, Some, None, ap, sym, refl, ◌∙◌}
use Rattle.scop_syntax.proofs.Common.{subst, arith, length, map, get_or, drop, Option, option_and_then, slice_get}
use Rattle.scop_syntax.proofs.Common.{option_map, length-map, slice_get_past, slice_get_within, Affine}
use Rattle.scop_syntax.proofs.Common.{value_of, Cell, accesses, cell_at, cell_of, reads, written, cell_number}
use Rattle.scop_syntax.proofs.Common.{layout, Access, Program, wrapped, Instance, Visit}
use Rattle.scop_syntax.proofs.Common.{instance, walk_of, last_of, last_writer, in_from_place, nat_cases, there_is}
use Rattle.tile_table.specs.declared.table.Row.{Row}
use Rattle.tile_table.specs.declared.table.Table.{Table}
use Rattle.tile_table.proofs.NextPlaces.{AreSmall, NextPlace, as_many, next_place, next_row, none_left, same_row, told_at}
use Rattle.tile_table.proofs.Visits.{HasRow, WalkLaws, reads_told, row_of}
use Rattle.expansions.specs.Expansions.{AreSourcesOf, number_of}
use Rattle.expansions.specs.steps.Marks.{AreKept, HasPassed, IsMarked, mark_of, read_marks}
use Rattle.expansions.specs.steps.Passing.{CanPass, IsOnItsWay, ReadFew}
use Rattle.expansions.specs.declared.sourcing.Pass.{Pass}
use Rattle.expansions.specs.declared.sourcing.Sources.{Sources}
use Rattle.expansions.proofs.KeptMarks.{HaveOwnNumbers, kept_more, none_kept}

-- the source of an access, by the access itself
last_told : (walk : List Visit) (n a : ℕ) (v : Visit) → slice_get walk n ≡ Some v → (o : Option Access)
    → slice_get (accesses v.body) a ≡ o
    → last_of walk n a ≡ option_and_then (last_writer walk n) (option_map (λ access. cell_of access v.point) o)
last_told walk n a v at o e =
    ap (λ (w : Option Visit). option_and_then (last_writer walk n) (option_and_then (λ (u : Visit).
    option_map (λ access. cell_of access u.point) (slice_get (accesses u.body) a)) w)) at
    ∙ ap (λ (p : Option Access).
    option_and_then (last_writer walk n) (option_map (λ access. cell_of access v.point) p)) e

source_past : (walk : List Visit) (n a : ℕ) (v : Visit) (marks : List ℕ) (turns : List ℤ) (cells : List Affine)
    → slice_get walk n ≡ Some v → length (accesses v.body) ≤ a → length cells ≤ a
    → mark_of marks turns (slice_get cells a) ≡ number_of (last_of walk n a)
source_past walk n a v marks turns cells at beyond behind =
    ap (mark_of marks turns) (slice_get_past cells a behind)
    ∙ sym (ap number_of (last_told walk n a v at None (slice_get_past (accesses v.body) a beyond)))

source_there : (walk : List Visit) (n a : ℕ) (v : Visit) (marks : List ℕ) (turns : List ℤ) (cells : List Affine) (number : ℕ)
    (access : Access) (form : Affine) → slice_get walk n ≡ Some v → slice_get (accesses v.body) a ≡ Some access
    → slice_get cells a ≡ Some form → wrapped (value_of form turns) ≡ number
    → get_or marks number 0 ≡ number_of (last_writer walk n (cell_of access v.point))
    → mark_of marks turns (slice_get cells a) ≡ number_of (last_of walk n a)
source_there walk n a v marks turns cells number access form at accessed formed told is =
    ap (mark_of marks turns) formed
    ∙ (ap (λ (k : ℕ). get_or marks k 0) told
    ∙ (is ∙ sym (ap number_of (last_told walk n a v at (Some access) accessed))))

module _ (program : Program) (params : List ℤ) (table : Table) (most : ℕ) (can : CanPass program params table) where
  abbrev walk : List Visit
  walk = walk_of program params

  -- the place that comes next
  abbrev NextOf : Instance → List Instance → Pass → Type 0
  NextOf x rest pass = NextPlace program params pass.place x rest

  -- it is one of few
  pub place_few : (x : Instance) (rest : List Instance) (pass : Pass) → NextOf x rest pass → pass.place < 4194304
  place_few x rest pass next =
      let less = slice_get_within walk pass.place next.visit next.at in
      let few = can.few in
      omega (arith, less, few)

  module _ (laws : WalkLaws) where
    abbrev has_row : (x : Instance) (rest : List Instance) (pass : Pass) (next : NextOf x rest pass)
        → HasRow program params table x next.visit
    has_row x rest pass = next_row program params table can.told laws pass.place x rest

    pub row_some : (x : Instance) (rest : List Instance) (pass : Pass) → NextOf x rest pass → (row : Row)
        → slice_get table.rows.items x.number ≡ Some row → 0 < length row.cells.items
    row_some x rest pass next row told =
        let many : length (has_row x rest pass next).row.cells.items ≡ suc (length (reads next.visit.body)) =
        as_many program params table can.told laws pass.place x rest next in
        subst (λ (r : Row). 0 < length r.cells.items) (same_row program params table can.told laws pass.place x rest next row told) (omega (arith, many))

    module _ (small : AreSmall) where
      -- what is kept of a read is its source
      source_kept : (x : Instance) (rest : List Instance) (pass : Pass) (next : NextOf x rest pass) (a : ℕ)
          → AreKept (layout program params) walk most pass.place pass.marks.items pass.numbers.items
          → mark_of pass.marks.items x.turns (slice_get (has_row x rest pass next).row.cells.items a)
          ≡ number_of (last_of walk pass.place a)
      source_kept x rest pass next a kept =
          let v = next.visit in
          let cells = (has_row x rest pass next).row.cells.items in
          let many = as_many program params table can.told laws pass.place x rest next in
          nat_cases a (length (accesses v.body))
          (λ less. let access = there_is (accesses v.body) a less in
          let form = there_is cells a (omega (arith, many, less)) in
          let told = told_at program params table can.told laws can.limits can.inside small pass.place x rest next a access.0 form.0 access.1 form.1 in
          source_there walk pass.place a v pass.marks.items x.turns cells
          (cell_number (layout program params) (cell_of access.0 v.point)) access.0 form.0 next.at access.1 form.1 told.1
          (kept.marks_are (cell_of access.0 v.point) told.0))
          (λ e. source_past walk pass.place a v pass.marks.items x.turns cells next.at (omega (arith, e))
          (omega (arith, e, many)))
          (λ l. source_past walk pass.place a v pass.marks.items x.turns cells next.at (omega (arith, l))
          (omega (arith, l, many)))

      -- the pass has gone on
      gone_on : (x : Instance) (rest : List Instance) (before after : Pass) (next : NextOf x rest before)
          → HaveOwnNumbers → HasPassed (has_row x rest before next).row x.turns most before after
          → AreKept (layout program params) walk most before.place before.marks.items before.numbers.items
          → IsOnItsWay program params most rest after
      gone_on x rest before after next own has kept =
          let v = next.visit in
          let extents = layout program params in
          let row = (has_row x rest before next).row in
          let many : length row.cells.items ≡ suc (length (reads v.body)) = as_many program params table can.told laws before.place x rest next in
          let form = there_is row.cells.items 0 (omega (arith, many)) in
          let told = told_at program params table can.told laws can.limits can.inside small before.place x rest next 0 v.body.place form.0 refl form.1 in
          let marked : IsMarked (cell_number extents (written v)) before.place before.marks.items after.marks.items =
          subst (λ (k : ℕ). IsMarked k before.place before.marks.items after.marks.items) told.1 (has.marks form.0 form.1) in
          let less = slice_get_within walk before.place v next.at in
          let on = has.place in
          record {
            left = next.left ∙ ap (λ (k : ℕ). drop k (map instance walk)) (sym on);
            within = omega (arith, less, on);
            kept = subst (λ (k : ℕ). AreKept extents walk most k after.marks.items after.numbers.items) (sym on)
                (kept_more extents walk before.place v next.at own most before.marks.items after.marks.items
                before.numbers.items after.numbers.items (read_marks before.marks.items row x.turns) told.0 marked
                has.numbers (λ r few. source_kept x rest before next (suc r) kept) kept);
          }

      pub step_on : (x : Instance) (all rest : List Instance) (before after : Pass) (row : Row) → all ≡ x ∷ rest
          → HaveOwnNumbers → slice_get table.rows.items x.number ≡ Some row
          → HasPassed row x.turns most before after → IsOnItsWay program params most all before
          → IsOnItsWay program params most rest after
      step_on x all rest before after row is own told has way =
          let next = next_place program params before.place x all rest is way.left in
          gone_on x rest before after next own
          (subst (λ (r : Row). HasPassed r x.turns most before after) (sym (same_row program params table can.told laws before.place x rest next row told)) has)
          way.kept

    -- no place reads more than the table's rows
    read_few : ReadFew table.rows.items most → (j r : ℕ) (c : Cell) → cell_at walk j (suc r) ≡ Some c → r < most
    read_few few j r c h = by_visit (slice_get walk j) refl h
      where
        by_access : (v : Visit) → slice_get walk j ≡ Some v → (o : Option Access)
            → slice_get (accesses v.body) (suc r) ≡ o → option_map (λ access. cell_of access v.point) o ≡ Some c
            → r < most
        by_access v at None e h = absurd cc
        by_access v at (Some access) e h =
            let within : suc r < suc (length (reads v.body)) = slice_get_within (accesses v.body) (suc r) access e in
            let has = row_of laws program params table (instance v) v can.told
            (record { walked = in_from_place walk j v at; same = refl }) in
            let told : length (reads v.body) ≡ has.row.code.reads = reads_told [] program params table (instance v) v has in
            let most_of = few v.number has.row has.told in
            omega (arith, within, told, most_of)

        by_visit : (o : Option Visit) → slice_get walk j ≡ o
            → option_and_then (λ (v : Visit). option_map (λ access. cell_of access v.point)
            (slice_get (accesses v.body) (suc r))) o ≡ Some c → r < most
        by_visit None e h = absurd cc
        by_visit (Some v) e h = by_access v e (slice_get (accesses v.body) (suc r)) refl h

    -- where the pass ends
    pub all_passed : (pass : Pass) (s : Sources) → ReadFew table.rows.items most → IsOnItsWay program params most [] pass
        → s.numbers.items ≡ pass.numbers.items → s.most ≡ most → AreSourcesOf program params s
    all_passed pass s few way numbers is =
        let past = none_left (map instance walk) pass.place way.left in
        let long = length-map walk instance in
        let within = way.within in
        let whole : pass.place ≡ length walk = omega (arith, past, long, within) in
        let kept = subst (λ (k : ℕ). AreKept (layout program params) walk k pass.place pass.marks.items
        pass.numbers.items) (sym is) way.kept in
        let all = subst (λ (xs : List ℕ). AreKept (layout program params) walk s.most pass.place pass.marks.items xs)
        (sym numbers) kept in
        record {
          few = can.few;
          count = all.count ∙ ap (λ (k : ℕ). k * s.most) whole;
          reads = λ j r c h. subst (λ (k : ℕ). r < k) (sym is) (read_few few j r c h);
          sources = λ j r less low. all.sources j r (subst (λ (k : ℕ). j < k) (sym whole) less) low;
        }

-- before all places
pub none_passed : (program : Program) (params : List ℤ) (most : ℕ) (rest : List Instance) (pass : Pass)
    → rest ≡ map instance (walk_of program params) → pass.place ≡ 0 → pass.marks.items ≡ [] → pass.numbers.items ≡ []
    → IsOnItsWay program params most rest pass
none_passed program params most rest pass is place marks numbers =
    let extents = layout program params in
    let walk = walk_of program params in
    record {
      left = is ∙ ap (λ (k : ℕ). drop k (map instance walk)) (sym place);
      within = omega (arith, place);
      kept = subst (λ (k : ℕ). AreKept extents walk most k pass.marks.items pass.numbers.items) (sym place)
          (subst (λ (ms : List ℕ). AreKept extents walk most 0 ms pass.numbers.items) (sym marks)
          (subst (λ (ns : List ℕ). AreKept extents walk most 0 [] ns) (sym numbers) (none_kept extents walk most)));
    }
