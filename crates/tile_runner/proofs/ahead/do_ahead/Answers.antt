use Rattle.scop_syntax.proofs.Common.{arith}
use Rattle.tile_runner.proofs.ahead.do_ahead.Goals as goal

pub returns-clause-within : goal.returns-clause-within
returns-clause-within c t k works some =
    let passes = (c.ahead-count.ensures.ahead some).passes t k works in
    let less = passes.0 in
    let within = passes.1.within in
    omega (arith, less, within)
