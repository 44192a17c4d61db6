use Rattle.scop_syntax.proofs.Common.{arith}
use Rattle.kernel_gen.proofs.Counts.{cells_of_shape}
use Rattle.kernel_gen.proofs.totals.cells_in.Goals as goal

pub count-requires : goal.count-requires
count-requires c =
    let case = c.args.case.now in
    let same = cells_of_shape case.extents case.arrays c.requires.shape in
    omega (arith, same, c.requires.few)
