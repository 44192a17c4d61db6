use Rattle.scop_syntax.proofs.Common.{◌-◌, ◌<◌, drop, length, All-drop, All-take, Affine}
use Rattle.affine_forms.specs.Parts.{variables_of}
use Rattle.plain_scan.specs.Between.{HasSmallNumbers}
use Rattle.plain_scan.proofs.bounds.loop_round.Goals as goal

pub low_bounds-requires-clause-inside : goal.low_bounds-requires-clause-inside
low_bounds-requires-clause-inside c =
    let rows = c.args.rows.now in
    let inside : Affine → Type 0 = λ f. c.args.place < variables_of f in
    All-take inside (length rows - 2) (drop 2 rows) (All-drop inside 2 rows c.requires.inside)

pub low_bounds-requires-clause-small : goal.low_bounds-requires-clause-small
low_bounds-requires-clause-small c =
    let rows = c.args.rows.now in
    All-take HasSmallNumbers (length rows - 2) (drop 2 rows) (All-drop HasSmallNumbers 2 rows c.requires.small)

pub high_bounds-requires-clause-inside : goal.high_bounds-requires-clause-inside
high_bounds-requires-clause-inside c =
    let rows = c.args.rows.now in
    let inside : Affine → Type 0 = λ f. c.args.place < variables_of f in
    All-take inside (length rows - 2) (drop 2 rows) (All-drop inside 2 rows c.requires.inside)

pub high_bounds-requires-clause-small : goal.high_bounds-requires-clause-small
high_bounds-requires-clause-small c =
    let rows = c.args.rows.now in
    All-take HasSmallNumbers (length rows - 2) (drop 2 rows) (All-drop HasSmallNumbers 2 rows c.requires.small)
