use Rattle.scop_syntax.proofs.Common.{◌∙◌, ap, arith, cell_count}
use Rattle.data_text.proofs.CountLemmas.{count_below}
use Rattle.data_text.proofs.counts.count_of.Goals as goal

pub overflow_cast-result : goal.overflow_cast-result
overflow_cast-result c =
    let same = c.cell_count.ensures.value ∙ ap cell_count c.array.ensures in
    omega (arith, same, count_below c.args.extents.now c.args.array c.requires.array, c.requires.layout.cells)

pub returns-clause-small : goal.returns-clause-small
returns-clause-small c =
    let same = c.cell_count.ensures.value ∙ ap cell_count c.array.ensures in
    omega (arith, same, count_below c.args.extents.now c.args.array c.requires.array, c.requires.layout.cells)
