-- The row of an instance's statement in a plan's table.
use Rattle.scop_syntax.proofs.Common.{◌≡◌, ◌∙◌, ap, refl, sym, subst, ℕ, suc, ◌<◌, ◌^◌, ℤ, List, length, get_or, Some}
use Rattle.scop_syntax.proofs.Common.{arith, slice_get, slice_get_within, Cell, accesses, cell_of, IsCell, cell_number}
use Rattle.scop_syntax.proofs.Common.{layout, total_cells, WithinLimits, In, is_marked, loads, Program, Statement}
use Rattle.scop_syntax.proofs.Common.{Instance, Visit, in_at, in_from_place, StandOnce}
use Rattle.tile_table.specs.Instances.{IsVisitOf}
use Rattle.tile_table.specs.declared.table.Row.{Row}
use Rattle.tile_table.proofs.Accesses.{touched_access}
use Rattle.tile_table.proofs.Visits.{HasRowBy, WalkLaws, adds_told, cell_told_by, reads_told, row_by, value_told}
use Rattle.tile_events.specs.Flat.{read_by, value_by, written_by}
use Rattle.tile_core.specs.Marks.{adds_to}
use Rattle.tile_core.specs.Plans.{IsPlan, extents_in, places_in, program_in, walk_in}
use Rattle.tile_core.specs.Ranks.{place_in}
use Rattle.tile_core.specs.Rows.{IsFormed, IsRowAt}
use Rattle.tile_core.specs.declared.plan.Plan.{Plan}
use Rattle.tile_core.proofs.Marks.{adds_is}
use Rattle.tile_core.proofs.Plans.{visit_read, visit_written}
use Rattle.tile_core.proofs.TouchedCells.{ArePlaced, TellsCell, few_reads, place_within, read_is, reads_there, there, written_is}

-- a visit's row
abbrev pub RowOf : Plan → Instance → Visit → Type 0
RowOf plan x v = HasRowBy plan.marked.now (program_in plan) plan.params.now plan.table.now x v

-- the numbers of cells are small
abbrev pub AreSmall : Type 0
AreSmall = (program : Program) (params : List ℤ) (c : Cell) → WithinLimits program params
    → IsCell (layout program params) c → cell_number (layout program params) c < 2 ^ 22

module _ (laws : WalkLaws) (plan : Plan) (x : Instance) (is : IsPlan plan) where
  pub row_at : (v : Visit) → IsVisitOf (program_in plan) plan.params.now x v → RowOf plan x v
  row_at v visit = row_by laws plan.marked.now (program_in plan) plan.params.now plan.table.now x v is.table visit

  -- the table has a row of a walked instance
  pub row_within : In x (places_in plan) → x.number < length plan.table.now.rows.items
  row_within walked =
      let t = there plan x walked in
      let has = row_at t.0 t.1.is in
      slice_get_within plan.table.now.rows.items x.number has.row has.told

  -- a number by the form of an access is that of its cell
  tells_cell : AreSmall → (row : Row) → slice_get plan.table.now.rows.items x.number ≡ Some row → (access number : ℕ)
      → IsFormed row x access number → TellsCell plan x access number
  tells_cell small row told access number tells v touched visit at =
      let program = program_in plan in
      let params = plan.params.now in
      let has = row_at v visit in
      let both : Some row ≡ Some has.row = sym told ∙ has.told in
      let same : row ≡ has.row = cc in
      let own = touched_access (is_marked plan.marked.now v.body.place.array) v.body access touched at in
      let cell = is.inside v visit.walked touched (in_from_place (accesses v.body) own.0 touched own.1) in
      cell_told_by plan.marked.now program params plan.table.now x v access touched number cell
      (small program params (cell_of touched v.point) is.limits cell) has at
      (λ form e. tells form (ap (λ (r : Row). slice_get r.cells.items access) same ∙ e))

  -- what the row of a walked instance tells
  pub row_tells : AreSmall → StandOnce (program_in plan) plan.params.now → ArePlaced
      → ((c : Cell) → IsCell (extents_in plan) c → cell_number (extents_in plan) c < total_cells (extents_in plan))
      → In x (places_in plan) → (row : Row) → slice_get plan.table.now.rows.items x.number ≡ Some row
      → IsRowAt plan row x
  row_tells small once placed below walked row told =
      let t = there plan x walked in
      let v = t.0 in
      let has = row_at v t.1.is in
      let program = program_in plan in
      let params = plan.params.now in
      let place = place_in (places_in plan) x in
      let within = place_within plan x walked in
      let marked = plan.marked.now in
      let loaded = read_by (extents_in plan) marked (slice_get (walk_in plan) place) in
      let both : Some has.row ≡ Some row = sym has.told ∙ told in
      let same : has.row ≡ row = cc in
      let told_reads = reads_told marked program params plan.table.now x v has in
      let many = reads_there plan x v (extents_in plan) t.1 in
      let count = has.fits.forms.count in
      let body = ap (λ (s : Statement). length (loads marked s)) has.body in
      let few = few_reads plan x (extents_in plan) laws.found placed is walked in
      let own = cell_of v.body.place v.point in
      let cell : IsCell (extents_in plan) own =
      is.inside v t.1.is.walked v.body.place (in_from_place (accesses v.body) 0 v.body.place refl) in
      subst (λ r. IsRowAt plan r x) same (record {
        made = has.fits.stored.made;
        accesses = omega (arith, count, body, told_reads);
        reads = sym told_reads ∙ sym many;
        few = omega (arith, few, told_reads, many);
        written = λ number tells. written_is plan x number is walked (tells_cell small has.row has.told 0 number tells);
        adds = adds_told marked program params plan.table.now x v has
            ∙ (sym (adds_is (extents_in plan) marked own cell)
            ∙ sym (ap (λ o. adds_to (extents_in plan) marked (written_by (extents_in plan) o)) t.1.at));
        written_inside = visit_written (extents_in plan) (walk_in plan) below is.inside place within;
        read = λ r number l tells. read_is plan x r number once is walked (omega (arith, l, told_reads, many))
            (tells_cell small has.row has.told (suc r) number tells);
        read_inside = λ r l. visit_read (extents_in plan) (walk_in plan) below is.inside marked place (get_or loaded r 0)
            within (in_at loaded r 0 (omega (arith, l, told_reads, many)));
        value = λ values long. value_told marked program params plan.table.now x v values has (long ∙ sym told_reads)
            ∙ sym (ap (λ o. value_by marked o values) t.1.at);
      })
