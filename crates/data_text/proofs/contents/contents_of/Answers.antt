-- The cells of the next array are put behind the others.
use Rattle.scop_syntax.proofs.Common.{◌∙◌, ap, ap₂, ◌∷◌, [], ◌++◌, ◌+◌, ◌<◌, map, drop, length, arith, map-append}
use Rattle.scop_syntax.proofs.Common.{narrow_arrays, program_of}
use Rattle.data_lines.specs.Sheets.{given_of}
use Rattle.data_text.specs.Cases.{contents_said, cells_said}
use Rattle.data_text.proofs.ContentLemmas.{contents_next}
use Rattle.data_text.proofs.contents.contents_of.Goals as goal

pub loop-at-preserved : goal.loop-at-preserved
loop-at-preserved c =
    let at = c.loop-at in
    let i = at.at in
    let layouts = c.args.extents.now in
    let narrow = narrow_arrays (program_of c.args.kernel.now) in
    let within : i < length at.rows.items = omega (arith, at.invariant.count, c.len.ensures, c.loop-at-test.true) in
    let there : i < length layouts = omega (arith, within, at.invariant.count, c.requires.count) in
    let filled = c.in_ok-cells_of.ensures
    ∙ ap₂ (λ w n. cells_said w n (given_of c.take_row-given.result)) c.is_narrow-narrow.ensures
    c.count_of.ensures.value in
    let put = ap (map (λ row. row.items)) c.in_ok-push.ensures.items
    ∙ map-append (λ row. row.items) at.cells.items (c.in_ok-cells_of.field-0 ∷ []) in
    let next = contents_next narrow layouts at.rows.items c.take_row-given.new.rows.items i
    (map (λ row. row.items) at.cells.items) _ c.in_ok-cells_of.field-0.items
    (given_of c.take_row-given.result) there within
    c.take_row-given.ensures.row filled c.take_row-given.ensures.others at.invariant.whole in
    record {
      whole = ap (λ done. done ++ contents_said (drop (i + 1) narrow) (drop (i + 1) layouts)
          (map given_of (drop (i + 1) c.take_row-given.new.rows.items))) put ∙ next;
      count = c.take_row-given.ensures.count ∙ at.invariant.count;
    }
