-- One more line was put, or a front of it reached the sink.
use Rattle.scop_syntax.proofs.Common.{◌∙◌, sym, ap, subst, append-nil, ◌++◌, ◌+◌, map, drop, codes, arith, length-map}
use Rattle.scop_syntax.proofs.Common.{Declaration}
use Rattle.io_ports.specs.Writes.{Sends}
use Rattle.io_ports.proofs.PutTexts.{next_put, next_piece_cut}
use Rattle.data_text.specs.ArrayText.{row_text, rows_text}
use Rattle.data_text.proofs.ArrayTextLemmas.{rows_split, rows_end}
use Rattle.data_text.proofs.array_text.put_rows.Goals as goal

pub returns-in-Err : goal.returns-in-Err
returns-in-Err g c =
    let arrays = c.args.arrays.now in
    let at = c.loop-at.at in
    let before = c.loop-at.invariant in
    let whole = rows_split arrays c.args.contents.now at c.index-arrays-at.result c.deref.result.now
    c.array.result.now before.0 (omega arith) (omega arith)
    (c.deref.ensures.value ∙ ap (λ (d : Declaration). d.name) (c.declaration.view_is ∙ c.index-arrays-at.is))
    c.array.ensures before.1 in
    next_piece_cut _ (g.K.Sink.shows c.loop-at.sink) _ _ c.loop-at.pieces before.0
    (row_text c.deref.result.now c.array.result.now ++ codes "\n")
    (rows_text (drop (at + 1) (map (λ a. a.name) arrays)) (drop (at + 1) c.args.contents.now)) _ whole before.2
    c.in-Err.ensures

pub loop-at-preserved : goal.loop-at-preserved
loop-at-preserved g c =
    let arrays = c.args.arrays.now in
    let at = c.loop-at.at in
    let before = c.loop-at.invariant in
    let whole = rows_split arrays c.args.contents.now at c.index-arrays-at.result c.deref.result.now
    c.array.result.now before.0 (omega arith) (omega arith)
    (c.deref.ensures.value ∙ ap (λ (d : Declaration). d.name) (c.declaration.view_is ∙ c.index-arrays-at.is))
    c.array.ensures before.1 in
    let next = next_put _ (g.K.Sink.shows c.loop-at.sink) _ _ c.loop-at.pieces _ before.0
    (row_text c.deref.result.now c.array.result.now ++ codes "\n")
    (rows_text (drop (at + 1) (map (λ a. a.name) arrays)) (drop (at + 1) c.args.contents.now)) _ whole before.2
    c.in-Ok.ensures in
    next

pub returns : goal.returns
returns g c =
    let before = c.loop-at.invariant in
    let names = map (λ (a : Declaration). a.name) c.args.arrays.now in
    let none = rows_end names c.args.contents.now c.loop-at.at
    (omega (arith, length-map c.args.arrays.now (λ (a : Declaration). a.name))) in
    let whole = sym (append-nil before.0) ∙ (ap (λ t. before.0 ++ t) (sym none) ∙ before.1) in
    subst (λ text. Sends (g.K.Sink.shows c.args.sink.now) c.args.pieces.now
    (g.K.Sink.shows c.loop-at.sink) c.loop-at.pieces text) whole before.2
