use Rattle.scop_syntax.proofs.Common.{◌≡◌, ◌∙◌, ap, refl, subst, sym, ℕ, List, [], ◌∷◌, ◌++◌, length, map, Some, arith}
use Rattle.scop_syntax.proofs.Common.{slice_get, option_map, length-map, length_push, slice_get-map, slice_get_read}
use Rattle.scop_syntax.proofs.Common.{layout, program_of, Standing, standings_of, standing_of}
use Rattle.scop_meaning.specs.Instances.{AreLayout}
use Rattle.tile_table.specs.Tables.{IsRow, IsRowBy}
use Rattle.tile_table.specs.steps.Forms.{CanForm}
use Rattle.tile_table.specs.declared.table.Row.{Row}
use Rattle.tile_table.proofs.Accesses.{can_form_at}
use Rattle.tile_table.proofs.Pairs.{ArePaired, paired_more}
use Rattle.tile_table.proofs.table.Table.of.Goals as goal

pub row_of-requires : goal.row_of-requires
row_of-requires c =
    let program = program_of c.args.kernel.now in
    let params = c.args.params.now in
    let limits = c.requires.limits in
    let items = c.deref-statement-items.result.now in
    let k = c.loop-statement.statement-index in
    let item = c.statement-item.result in
    let at : slice_get (map standing_of items) k ≡ Some (standing_of item) =
    slice_get-map standing_of items k
    ∙ ap (option_map standing_of)
    (slice_get_read items (length items) k item refl c.loop-statement-test.true c.statement-item.is) in
    let all : map standing_of items ≡ standings_of program =
    ap (map standing_of) c.deref-statement-items.ensures.value ∙ c.in_ok-statements.ensures in
    let laid : AreLayout (layout program params) =
    record { sizes = c.cells_lie_within_22_bits.ensures.extents program params limits; total = limits.cells } in
    subst (λ (es : List (List ℕ)). CanForm es params (standing_of item)) (sym c.requires.extents)
    (can_form_at program params k (standing_of item) limits laid (c.statements_are_numbered.ensures.placed program)
    (sym (ap (λ (ss : List Standing). slice_get ss k) all) ∙ at))

pub loop-statement-preserved : goal.loop-statement-preserved
loop-statement-preserved c =
    let P = IsRowBy c.args.marked.now c.args.extents.now c.args.params.now in
    let items = c.deref-statement-items.result.now in
    let standings = map standing_of items in
    let k = c.loop-statement.statement-index in
    let item = c.statement-item.result in
    let rows = c.loop-statement.rows.items in
    let row = c.in_ok-row_of.field-0 in
    let pushed : c.push.new.self.items ≡ rows ++ row ∷ [] = c.in_ok-push.ensures.items in
    let long = ap (λ (rs : List Row). length rs) pushed in
    let grown = length_push rows row in
    let count = c.loop-statement.invariant.count in
    let there : slice_get standings (length rows) ≡ Some (standing_of item) =
    ap (slice_get standings) count
    ∙ (slice_get-map standing_of items k
    ∙ ap (option_map standing_of)
    (slice_get_read items (length items) k item refl c.loop-statement-test.true c.statement-item.is)) in
    record {
      count = omega (arith, long, grown, count);
      each = subst (ArePaired P standings) (sym pushed)
          (paired_more P standings rows (standing_of item) row c.loop-statement.invariant.each there
          (subst (λ b. IsRow b c.args.extents.now c.args.params.now (standing_of item) row) c.adds_to_place-adds.ensures
          c.in_ok-row_of.ensures));
    }

pub returns : goal.returns
returns c =
    let program = program_of c.args.kernel.now in
    let params = c.args.params.now in
    let items = c.deref-statement-items.result.now in
    let all : map standing_of items ≡ standings_of program =
    ap (map standing_of) c.deref-statement-items.ensures.value ∙ c.in_ok-statements.ensures in
    let many = length-map items standing_of in
    let count = c.loop-statement.invariant.count in
    let ended = c.loop-statement-test.false in
    let reached = c.loop-statement.auto.statement-index-end in
    let same = ap (λ (ss : List Standing). length ss) all in
    record {
      count = omega (arith, many, count, ended, reached, same);
      rows = λ k s row at told.
          subst (λ (es : List (List ℕ)). IsRowBy c.args.marked.now es params s row) c.requires.extents
          (c.loop-statement.invariant.each k s row (ap (λ (ss : List Standing). slice_get ss k) all ∙ at) told);
    }
