use Rattle.scop_syntax.proofs.Common.{◌<◌, ◌^◌, arith, rules}
use Rattle.scop_meaning.proofs.Shifts.{none_right}
use Rattle.scop_meaning.proofs.operators.shifted_right.Goals as goal

pub returns-in-None : goal.returns-in-None
returns-in-None c =
    let e = c.from.ensures in
    let past = c.in-None.ensures in
    let small : c.args.value < 2 ^ 64 = search rules in
    none_right c.args.value c.args.count small (omega (arith, past))
