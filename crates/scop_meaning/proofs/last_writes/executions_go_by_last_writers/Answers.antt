use Rattle.scop_syntax.proofs.Common.{ap, sym, ◌∙◌, before_place, layout, value_stored, stored_by, walk_of}
use Rattle.scop_syntax.specs.Execution.{values_read}
use Rattle.scop_meaning.proofs.last_writes.executions_go_by_last_writers.Goals as goal

pub returns-clause-cells : goal.returns-clause-cells
returns-clause-cells c program params contents cell inside shape is =
    c.cells_hold_the_last_write.ensures.after (layout program params) contents (walk_of program params) cell shape
    inside is

pub returns-clause-values : goal.returns-clause-values
returns-clause-values c program params contents j v inside shape found =
    let es = layout program params in
    let before = before_place es contents (walk_of program params) j in
    let reads = c.reads_see_the_last_write.ensures es contents (walk_of program params) j v found shape inside in
    ap (value_stored es before) found
    ∙ ap (stored_by v.body.right v.point) (sym (ap (values_read es before) found) ∙ reads)
