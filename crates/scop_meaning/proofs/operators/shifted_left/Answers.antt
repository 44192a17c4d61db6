use Rattle.scop_syntax.proofs.Common.{arith}
use Rattle.scop_meaning.proofs.Shifts.{none_left}
use Rattle.scop_meaning.proofs.operators.shifted_left.Goals as goal

pub returns-in-None : goal.returns-in-None
returns-in-None c =
    let e = c.from.ensures in
    let past = c.in-None.ensures in
    none_left c.args.value c.args.count (omega (arith, past))
